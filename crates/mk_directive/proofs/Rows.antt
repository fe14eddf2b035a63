-- Directives and their arguments, computed from the definitions.
use Rattle.std.proofs.Common.{◌≡◌, [], ◌∷◌, true, false, Some, None, refl}
use Rattle.std.specs.Prelude.{codes}
use Rattle.mk_cond.specs.declared.cond.Form.TheVariants as form
use Rattle.mk_directive.specs.Arguments.{heading_in, in_at, wanted_by}
use Rattle.mk_directive.specs.Directives.{directive_on}
use Rattle.mk_directive.specs.declared.directive.Directive.TheVariants.{If, ElseIf, EndIf, TryInclude, Undef, Export}

-- directives
condition : directive_on (codes ".if 1") ≡ Some (If form.If, codes "1")
condition = refl

blanks_behind_the_dot : directive_on (codes ".  endif") ≡ Some (EndIf, [])
blanks_behind_the_dot = refl

word_of_two_parts : directive_on (codes ".-include \"f\"") ≡ Some (TryInclude, codes "\"f\"")
word_of_two_parts = refl

no_blank_behind_the_word : directive_on (codes ".elifndef(A)") ≡ Some (ElseIf form.Ndef, codes "(A)")
no_blank_behind_the_word = refl

comment_behind_the_word : directive_on (codes ".undef#x") ≡ Some (Undef, codes "#x")
comment_behind_the_word = refl

name_like_a_word : directive_on (codes ".if=1") ≡ None
name_like_a_word = refl

longer_word : directive_on (codes ".iff 1") ≡ None
longer_word = refl

special_target : directive_on (codes ".PHONY: a") ≡ None
special_target = refl

exported_names : directive_on (codes ".export A B") ≡ Some (Export, codes "A B")
exported_names = refl

other_ending : directive_on (codes ".export-env A") ≡ None
other_ending = refl

-- loops
names : heading_in (codes "a b in  1 2") ≡ Some (codes "a" ∷ codes "b" ∷ [], codes "1 2")
unfolding in_at
names = refl

no_words : heading_in (codes "a in") ≡ Some (codes "a" ∷ [], [])
unfolding in_at
no_words = refl

in_within_a_name : heading_in (codes "in1 bin in in") ≡ Some (codes "in1" ∷ codes "bin" ∷ [], codes "in")
unfolding in_at
in_within_a_name = refl

no_name : heading_in (codes " in 1") ≡ None
unfolding in_at
no_name = refl

no_in : heading_in (codes "a 1 2") ≡ None
unfolding in_at
no_in = refl

-- files
quoted : wanted_by (codes "\"a b\"") ≡ Some (false, codes "a b")
quoted = refl

bracketed : wanted_by (codes "<a\">") ≡ Some (true, codes "a\"")
bracketed = refl

empty_name : wanted_by (codes "\"\"") ≡ None
empty_name = refl

text_behind : wanted_by (codes "\"a\" ") ≡ None
text_behind = refl

quote_within : wanted_by (codes "\"a\"b\"") ≡ None
quote_within = refl

bare : wanted_by (codes "a") ≡ None
bare = refl
