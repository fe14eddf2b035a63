-- Texts that people write, read.
use Rattle.std.proofs.Common.{◌≡◌, ℕ, List, [], false, Ok, Err, refl, codes, arith}
use Rattle.mk_ast.specs.Tree.{Tree, Mod, end, part, plain, escaped, lone, ref, no_mods, mod_then}
use Rattle.mk_ast.specs.Tree.{keep, subst, head, separator, one_word, select, suffix, choose}
use Rattle.mk_ast.specs.Text.{text_at}
use Rattle.mk_ast.specs.Rows.{begins, is_word, is_left_out_word}
use Rattle.mk_ast.specs.References.{mods_at, ref_at, tree_of_text, end_of_form}
use Rattle.mk_ast.specs.Spell.{spell}
use Rattle.mk_ast.specs.WellFormed.{FitsTree, IsWellFormed}
use Rattle.mk_ast.specs.declared.row.Word.TheVariants.{Head}
use Rattle.mk_ast.specs.declared.fault.AstFault.TheVariants.{Unclosed, UnknownModifier, BadModifier}

-- a plain text
abbrev bytes : List ℕ → Tree
bytes text = part (plain text) end

-- a text that is one reference with one modifier
abbrev one_modifier : List ℕ → Mod → Tree
one_modifier name m = part (ref false (bytes name) (mod_then m no_mods)) end

an_unknown_modifier : tree_of_text (codes "${X:Z}") ≡ Err (UnknownModifier 4)
unfolding text_at mods_at ref_at begins is_word is_left_out_word
an_unknown_modifier = refl

a_missing_closer : tree_of_text (codes "${X") ≡ Err (Unclosed 0)
unfolding text_at mods_at ref_at begins is_word is_left_out_word
a_missing_closer = refl

a_missing_delimiter : tree_of_text (codes "${X:S/a/b}") ≡ Err (BadModifier 4)
unfolding text_at mods_at ref_at begins is_word is_left_out_word
a_missing_delimiter = refl

a_nested_pair_holds_the_end : tree_of_text (codes "${a{b:H}") ≡ Err (Unclosed 0)
unfolding text_at mods_at ref_at begins is_word is_left_out_word
a_nested_pair_holds_the_end = refl

text_ends_after_the_last_delimiter : tree_of_text (codes "${X:S/a/b/") ≡ Err (BadModifier 4)
unfolding text_at mods_at ref_at begins is_word is_left_out_word
text_ends_after_the_last_delimiter = refl

text_ends_in_the_last_row : tree_of_text (codes "${X:Z=a") ≡ Err (Unclosed 0)
unfolding text_at mods_at ref_at begins is_word is_left_out_word
text_ends_in_the_last_row = refl

a_fault_inside_comes_first : tree_of_text (codes "${X:Z${Y:Q1}}") ≡ Err (UnknownModifier 9)
unfolding text_at mods_at ref_at begins is_word is_left_out_word
a_fault_inside_comes_first = refl

a_left_out_modifier_at_once : tree_of_text (codes "${X:C") ≡ Err (UnknownModifier 4)
unfolding text_at mods_at ref_at begins is_word is_left_out_word
a_left_out_modifier_at_once = refl

a_left_out_word_with_a_value : tree_of_text (codes "${X:sh=y}") ≡ Err (UnknownModifier 4)
unfolding text_at mods_at ref_at begins is_word is_left_out_word
a_left_out_word_with_a_value = refl

begun_by_S : tree_of_text (codes "${X:S.c=S.o}") ≡ Err (BadModifier 4)
unfolding text_at mods_at ref_at begins is_word is_left_out_word
begun_by_S = refl

an_anchor_hides_no_delimiter : tree_of_text (codes "${W:S/a/b$/}") ≡ Err (BadModifier 4)
unfolding text_at mods_at ref_at begins is_word is_left_out_word
an_anchor_hides_no_delimiter = refl

a_zero_separator : tree_of_text (codes "${X:ts\\x0}") ≡ Err (BadModifier 4)
unfolding text_at mods_at ref_at begins is_word is_left_out_word
a_zero_separator = refl

the_innermost_is_unclosed : tree_of_text (codes "${X$(Y") ≡ Err (Unclosed 3)
unfolding text_at mods_at ref_at begins is_word is_left_out_word
the_innermost_is_unclosed = refl

nested_colon : tree_of_text (codes "${a{b:c}d}")
    ≡ Ok (part (ref false (bytes (codes "a{b:c}d")) no_mods) end)
unfolding text_at mods_at ref_at begins is_word is_left_out_word
nested_colon = refl

word_row : tree_of_text (codes "${B:H}") ≡ Ok (one_modifier (codes "B") head)
unfolding text_at mods_at ref_at begins is_word is_left_out_word
word_row = refl

any_byte_separator : tree_of_text (codes "${W:ts:}")
    ≡ Ok (one_modifier (codes "W") (separator (codes ":")))
unfolding text_at mods_at ref_at begins is_word is_left_out_word
any_byte_separator = refl

no_separator_then_a_head : tree_of_text (codes "${W:ts:H}")
    ≡ Ok (part (ref false (bytes (codes "W")) (mod_then (separator []) (mod_then head no_mods)))
    end)
unfolding text_at mods_at ref_at begins is_word is_left_out_word
no_separator_then_a_head = refl

escaped_colon_of_a_pattern : tree_of_text (codes "${W:Ma\\\\:b}")
    ≡ Ok (one_modifier (codes "W")
    (keep (part (plain (codes "a\\")) (part (escaped 58) (bytes (codes "b"))))))
unfolding text_at mods_at ref_at begins is_word is_left_out_word
escaped_colon_of_a_pattern = refl

kept_backslash_before_the_closer : tree_of_text (codes "${W:Ma\\}b}")
    ≡ Ok (part (ref false (bytes (codes "W")) (mod_then (keep (bytes (codes "a\\"))) no_mods))
    (bytes (codes "b}")))
unfolding text_at mods_at ref_at begins is_word is_left_out_word
kept_backslash_before_the_closer = refl

a_dollar_as_delimiter : tree_of_text (codes "${W:S$a$x$}")
    ≡ Ok (one_modifier (codes "W") (subst 36 (bytes (codes "a")) (bytes (codes "x")) []))
unfolding text_at mods_at ref_at begins is_word is_left_out_word
a_dollar_as_delimiter = refl

anchors : tree_of_text (codes "${W:S/^a$/b/}")
    ≡ Ok (one_modifier (codes "W")
    (subst 47 (part (plain (codes "^a")) (part lone end)) (bytes (codes "b")) []))
unfolding text_at mods_at ref_at begins is_word is_left_out_word
anchors = refl

escaped_anchors : tree_of_text (codes "${W:S/\\^a\\^/b/}")
    ≡ Ok (one_modifier (codes "W")
    (subst 47 (part (escaped 94) (bytes (codes "a\\^"))) (bytes (codes "b")) []))
unfolding text_at mods_at ref_at begins is_word is_left_out_word
escaped_anchors = refl

a_new_text_to_the_closer : tree_of_text (codes "${W:.c=.o:H}")
    ≡ Ok (one_modifier (codes "W") (suffix (bytes (codes ".c")) (bytes (codes ".o:H"))))
unfolding text_at mods_at ref_at begins is_word is_left_out_word
a_new_text_to_the_closer = refl

an_old_text_with_a_colon : tree_of_text (codes "${W:foo:bar=x}")
    ≡ Ok (one_modifier (codes "W") (suffix (bytes (codes "foo:bar")) (bytes (codes "x"))))
unfolding text_at mods_at ref_at begins is_word is_left_out_word
an_old_text_with_a_colon = refl

a_first_text_with_a_closer : tree_of_text (codes "${W:?a}b:c}")
    ≡ Ok (one_modifier (codes "W") (choose (bytes (codes "a}b")) (bytes (codes "c"))))
unfolding text_at mods_at ref_at begins is_word is_left_out_word
a_first_text_with_a_closer = refl

all_words : tree_of_text (codes "${W:[*]}") ≡ Ok (one_modifier (codes "W") (one_word (codes "[*]")))
unfolding text_at mods_at ref_at begins is_word is_left_out_word
all_words = refl

some_words : tree_of_text (codes "${W:[2]}")
    ≡ Ok (one_modifier (codes "W") (select (bytes (codes "2"))))
unfolding text_at mods_at ref_at begins is_word is_left_out_word
some_words = refl

after_the_closer : end_of_form (codes "a${B}c") 1 ≡ Ok 5
unfolding text_at mods_at ref_at begins is_word is_left_out_word
after_the_closer = refl

no_closer : end_of_form (codes "x${B") 1 ≡ Err (Unclosed 1)
unfolding text_at mods_at ref_at begins is_word is_left_out_word
no_closer = refl

after_a_short_one : end_of_form (codes "a$xy") 1 ≡ Ok 3
unfolding text_at mods_at ref_at begins is_word is_left_out_word
after_a_short_one = refl

after_a_double : end_of_form (codes "$$x") 0 ≡ Ok 2
unfolding text_at mods_at ref_at begins is_word is_left_out_word
after_a_double = refl

after_a_lone_one : end_of_form (codes "a$") 1 ≡ Ok 2
unfolding text_at mods_at ref_at begins is_word is_left_out_word
after_a_lone_one = refl

-- A tree that people write is well formed.
a_well_formed_tree : IsWellFormed (part (plain (codes "a")) (one_modifier (codes "B") head))
unfolding FitsTree spell begins is_word is_left_out_word
a_well_formed_tree = (
  (omega arith, refl),
  ((refl, refl, (((omega arith, refl), refl), ((Head, refl, refl), tt))), refl),
)
