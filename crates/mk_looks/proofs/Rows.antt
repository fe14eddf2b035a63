-- Values of small texts.
use Rattle.std.proofs.Common.{◌≡◌, Bool, true, false, ◌||◌, ℕ, List, [], ◌∷◌, Ok, Err, Result, refl}
use Rattle.std.proofs.Common.{codes}
use Rattle.std.specs.Str.{bytes_eq}
use Rattle.mk_bytes.specs.Agrees.{◌>>=◌}
use Rattle.mk_glob.specs.Patterns.{parts_of}
use Rattle.mk_scopes.specs.Scopes.{Variables}
use Rattle.mk_ast.specs.Text.{text_at}
use Rattle.mk_ast.specs.Rows.{begins, is_word, is_left_out_word}
use Rattle.mk_ast.specs.References.{mods_at, ref_at}
use Rattle.mk_ast.specs.Spell.{spell}
use Rattle.mk_pieces.specs.Substitution.{replaced}
use Rattle.mk_ast.specs.declared.fault.TreeFault.TheVariants.{Unclosed}
use Rattle.mk_values.specs.Chains.{all_modified, each_behind}
use Rattle.mk_values.specs.Locals.{no_locals}
use Rattle.mk_values.specs.Substitutions.{at_end, without_end, old_in_tree}
use Rattle.mk_values.specs.Facts.{Answers, Lists}
use Rattle.mk_values.specs.Parts.{joined}
use Rattle.mk_values.specs.Value.{value_of_text, found_at}
use Rattle.mk_values.specs.declared.fault.ExpandFault.{ExpandFault}
use Rattle.mk_values.specs.declared.fault.ExpandFault.TheVariants.{Recursive, BadPlace, Tree}
use Rattle.mk_values.specs.declared.local.Locals.{Locals}

abbrev variables : Variables
variables = record {
  env = record { name = codes "E"; value = codes "from outside" } ∷ [];
  globals =
      record { name = codes "A"; value = codes "${B}$$" }
      ∷ record { name = codes "B"; value = codes "1" }
      ∷ record { name = codes "R"; value = codes "${R}" }
      ∷ record { name = codes "V"; value = codes "$$" }
      ∷ record { name = codes "K"; value = codes "${U}|$V" }
      ∷ record { name = codes "M"; value = codes "${B:H}" }
      ∷ record { name = codes "N"; value = codes "${" }
      ∷ record { name = codes "P"; value = codes "d/x.tar.gz" }
      ∷ record { name = codes "W"; value = codes "a b c" }
      ∷ record { name = codes "C"; value = codes "^" }
      ∷ record { name = codes "D"; value = codes "&" }
      ∷ record { name = codes "F"; value = codes "x.c y.h" }
      ∷ record { name = codes "@"; value = codes "global" }
      ∷ record { name = codes "x$$"; value = codes "kept in a name" }
      ∷ record { name = codes "x$"; value = codes "of a name" } ∷ [];
  commands = [];
  env_first = false;
  cwd = codes "/w";
}

abbrev locals : Locals
locals = record {
  target = codes "out/a.o";
  all = codes "a.c" ∷ codes "b.h" ∷ [];
  implied = codes "a.c";
  prefix = codes "a";
  oodate = codes "b.h" ∷ [];
  some = true;
}

abbrev lists : Lists
lists = record {
  requested = codes "all" ∷ [];
  targets = codes "all" ∷ codes "t" ∷ [];
  with_commands = codes "t" ∷ [];
}

-- there are two files
abbrev answers : Answers
answers place path = bytes_eq path (codes "here") || bytes_eq path (codes "x/here")

abbrev value_by : Locals → Bool → List ℕ → Result (List ℕ) ExpandFault
value_by names keep text =
    value_of_text variables names lists answers keep [] text >>= λ v. Ok v.0

abbrev value : List ℕ → Result (List ℕ) ExpandFault
value = value_by no_locals false

abbrev kept : List ℕ → Result (List ℕ) ExpandFault
kept = value_by no_locals true

abbrev task : List ℕ → Result (List ℕ) ExpandFault
task = value_by locals false

value_of_a_value : value (codes "<$A$B$(B)>") ≡ Ok (codes "<1$11>")
unfolding text_at mods_at ref_at begins is_word is_left_out_word found_at joined all_modified spell
value_of_a_value = refl

undefined_names : value (codes "[${U}${}$U]") ≡ Ok (codes "[]")
unfolding text_at mods_at ref_at begins is_word is_left_out_word found_at joined all_modified spell
undefined_names = refl

variable_of_itself : value (codes "${R}") ≡ Err (Recursive (codes "R"))
unfolding text_at mods_at ref_at begins is_word is_left_out_word found_at joined all_modified spell
variable_of_itself = refl

lone_dollar : value (codes "a$") ≡ Ok (codes "a$")
unfolding text_at mods_at ref_at begins is_word is_left_out_word found_at joined all_modified spell
lone_dollar = refl

unclosed_text : value (codes "${") ≡ Err (Tree (Unclosed 0))
unfolding text_at mods_at ref_at begins is_word is_left_out_word found_at joined all_modified spell
unclosed_text = refl

kept_text : kept (codes "${B} ${U} $$ $U$(U:)") ≡ Ok (codes "1 ${U} $$ $U$(U:)")
unfolding text_at mods_at ref_at begins is_word is_left_out_word found_at joined all_modified spell
kept_text = refl

kept_value : kept (codes "$V$K") ≡ Ok (codes "$$${U}|$$")
unfolding text_at mods_at ref_at begins is_word is_left_out_word found_at joined all_modified spell
kept_value = refl

kept_name : kept (codes "${x$$}${x$V}") ≡ Ok (codes "of a nameof a name")
unfolding text_at mods_at ref_at begins is_word is_left_out_word found_at joined all_modified spell
kept_name = refl

-- a text is read as a whole before any of it is evaluated
fault_of_the_text : value (codes "${R}${") ≡ Err (Tree (Unclosed 4))
unfolding text_at mods_at ref_at begins is_word is_left_out_word found_at joined all_modified spell
fault_of_the_text = refl

first_fault : value (codes "$N$R") ≡ Err (Tree (Unclosed 0))
unfolding text_at mods_at ref_at begins is_word is_left_out_word found_at joined all_modified spell
first_fault = refl

-- the name and the value come before the first modifier
value_before_modifiers : value (codes "${R:[0x]:H}") ≡ Err (Recursive (codes "R"))
unfolding text_at mods_at ref_at begins is_word is_left_out_word found_at joined all_modified spell
value_before_modifiers = refl

texts_that_are_chosen : value (codes "${U:Uq}${U:Dq}|${B:U$R}${B:D<$B>}|${U:Da:Ub}|${n:L:tu}")
    ≡ Ok (codes "q|1<1>||N")
unfolding text_at mods_at ref_at begins is_word is_left_out_word found_at joined all_modified spell
texts_that_are_chosen = refl

-- what is chosen is defined, and nothing of it stays as it is written
chosen_and_kept : kept (codes "${U:Da}${U:U$$}$U") ≡ Ok (codes "$$U")
unfolding text_at mods_at ref_at begins is_word is_left_out_word found_at joined all_modified spell
chosen_and_kept = refl

parts_of_a_path : value (codes "${P:H} ${P:T} ${P:R} ${P:E}") ≡ Ok (codes "d x.tar.gz d/x.tar gz")
unfolding text_at mods_at ref_at begins is_word is_left_out_word found_at joined all_modified spell
parts_of_a_path = refl

-- the modifiers of an undefined value are applied, and it stays empty
undefined_words : value (codes "[${U:S/^$/x/W}]") ≡ Ok (codes "[]")
unfolding text_at mods_at ref_at begins is_word is_left_out_word found_at joined all_modified at_end
    without_end old_in_tree replaced
undefined_words = refl

undefined_place : value (codes "${U:[0x]}") ≡ Err BadPlace
unfolding text_at mods_at ref_at begins is_word is_left_out_word found_at joined all_modified spell
undefined_place = refl

written_anchors : value (codes "${W:S/^b/x/} ${W:S/${C}b/x/} ${W:S/b$/<&>/}")
    ≡ Ok (codes "a x c a b c a <b> c")
unfolding text_at mods_at ref_at begins is_word is_left_out_word found_at joined all_modified at_end
    without_end old_in_tree replaced
written_anchors = refl

both_anchors_and_a_value : value (codes "${W:S/^b$/${D}\\&/}") ≡ Ok (codes "a && c")
unfolding text_at mods_at ref_at begins is_word is_left_out_word found_at joined all_modified at_end
    without_end old_in_tree replaced
both_anchors_and_a_value = refl

separators : value (codes "${W:ts,}${W:ts\\n}${W:ts\\x2d}${W:ts\\052}${W:ts}")
    ≡ Ok (codes "a,b,ca\nb\nca-b-ca*b*cabc")
unfolding text_at mods_at ref_at begins is_word is_left_out_word found_at joined all_modified spell
separators = refl

end_of_words : value (codes "${F:.c=.${B}} ${F:%.c=<%>}") ≡ Ok (codes "x.1 y.h <x> y.h")
unfolding text_at mods_at ref_at begins is_word is_left_out_word found_at joined all_modified spell
end_of_words = refl

local_names : task (codes "$@ ${.ALLSRC} $< $* ${.OODATE}") ≡ Ok (codes "out/a.o a.c b.h a.c a b.h")
unfolding text_at mods_at ref_at begins is_word is_left_out_word found_at joined all_modified spell
local_names = refl

heads_and_tails : task (codes "${@D} ${@F} ${>D} ${>F} ${<F}${*D}${?F}${.TARGETD}")
    ≡ Ok (codes "out a.o . . a.c b.h a.c.b.h")
unfolding text_at mods_at ref_at begins is_word is_left_out_word found_at joined all_modified spell
heads_and_tails = refl

no_local_names : value (codes "$@$<${@D}") ≡ Ok (codes "global")
unfolding text_at mods_at ref_at begins is_word is_left_out_word found_at joined all_modified spell
no_local_names = refl

bodies_of_words : value (codes "${:U1 2:@v@<$v>@}") ≡ Ok (codes "<1> <2>")
unfolding text_at mods_at ref_at begins is_word is_left_out_word found_at joined all_modified
    each_behind
bodies_of_words = refl

-- the variable is seen by values too, and by names inside the body alone
bound_variable : value (codes "${:Ub:@B@<$A>@}$B") ≡ Ok (codes "<b$>1")
unfolding text_at mods_at ref_at begins is_word is_left_out_word found_at joined all_modified
    each_behind
bound_variable = refl

-- an empty result is no item
empty_results : value (codes "${W:@v@${v:Nb}@:ts,}") ≡ Ok (codes "a,c")
unfolding text_at mods_at ref_at begins is_word is_left_out_word found_at joined all_modified
    each_behind parts_of
empty_results = refl
