-- Conditions that people write, and their truth.
use Rattle.std.proofs.Common.{◌≡◌, Bool, true, false, ℕ, List, [], ◌∷◌, Ok, Err, Result, refl}
use Rattle.std.proofs.Common.{codes}
use Rattle.std.specs.Str.{bytes_eq}
use Rattle.mk_ast.specs.Text.{text_at}
use Rattle.mk_ast.specs.Rows.{is_word, is_left_out_word}
use Rattle.mk_ast.specs.Rows as rows
use Rattle.mk_ast.specs.References.{mods_at, ref_at}
use Rattle.mk_bytes.specs.Agrees.{◌>>=◌}
use Rattle.mk_cond.specs.Conditions.{more_at, inner_at, condition_of}
use Rattle.mk_cond.specs.Terms.{begins, is_call, skip_blanks}
use Rattle.mk_cond.specs.declared.cond.Form.TheVariants.{If}
use Rattle.mk_glob.specs.Patterns.{parts_of}
use Rattle.mk_scopes.specs.Scopes.{Variables}
use Rattle.mk_values.specs.Chains.{all_modified, each_behind, with_cond_fault}
use Rattle.mk_values.specs.Conditions.{truth_of, any_truth, all_truth, without_front, without_back}
use Rattle.mk_values.specs.Facts.{Answers, Lists}
use Rattle.mk_values.specs.declared.facts.Asked.{Asked}
use Rattle.mk_values.specs.Locals.{no_locals}
use Rattle.mk_values.specs.Parts.{joined}
use Rattle.mk_values.specs.Value.{value_of_text, truth, found_at}
use Rattle.mk_values.specs.declared.fault.ExpandFault.{ExpandFault}
use Rattle.mk_values.specs.declared.fault.ExpandFault.TheVariants.{Cond, NoNumber, Undefined}

abbrev variables : Variables
variables = record {
  env = [];
  globals =
      record { name = codes "B"; value = codes "1" }
      ∷ record { name = codes "R"; value = codes "${R}" } ∷ [];
  commands = [];
  env_first = false;
  cwd = codes "/w";
}

abbrev lists : Lists
lists = record {
  requested = codes "all" ∷ [];
  targets = codes "all" ∷ codes "t" ∷ [];
  with_commands = codes "t" ∷ [];
}

-- there is one file
abbrev answers : Answers
answers place path = bytes_eq path (codes "here")

abbrev asked_both : List Asked
asked_both =
    record { path = codes "here"; answer = true }
    ∷ record { path = codes "x/gone"; answer = false } ∷ []

abbrev holds : List ℕ → Result (Bool × List Asked) ExpandFault
holds text =
    with_cond_fault (condition_of If text)
    >>= λ cond. truth variables no_locals lists answers [] cond

abbrev value : List ℕ → Result (List ℕ) ExpandFault
value text = value_of_text variables no_locals lists answers false [] text >>= λ v. Ok v.0

-- what does not decide is not evaluated
undefined_is_false_without_a_fault : holds (codes "defined(U) && ${U} > 3") ≡ Ok (false, [])
unfolding text_at mods_at ref_at rows.begins is_word is_left_out_word more_at inner_at skip_blanks
    begins is_call found_at joined all_modified each_behind truth_of any_truth all_truth
    without_front without_back
undefined_is_false_without_a_fault = refl

a_fault_behind_what_decides : holds (codes "1 || ${U}") ≡ Ok (true, [])
unfolding text_at mods_at ref_at rows.begins is_word is_left_out_word more_at inner_at skip_blanks
    begins is_call found_at joined all_modified each_behind truth_of any_truth all_truth
    without_front without_back
a_fault_behind_what_decides = refl

a_side_that_is_undefined : holds (codes "${U} == 1") ≡ Err Undefined
unfolding text_at mods_at ref_at rows.begins is_word is_left_out_word more_at inner_at skip_blanks
    begins is_call found_at joined all_modified each_behind truth_of any_truth all_truth
    without_front without_back
a_side_that_is_undefined = refl

-- `NoNumber` stands behind both sides
the_left_side_comes_first : holds (codes "${U} < \"a\"") ≡ Err Undefined
unfolding text_at mods_at ref_at rows.begins is_word is_left_out_word more_at inner_at skip_blanks
    begins is_call found_at joined all_modified each_behind truth_of any_truth all_truth
    without_front without_back
the_left_side_comes_first = refl

an_order_of_texts : holds (codes "\"1\" < 2") ≡ Err NoNumber
unfolding text_at mods_at ref_at rows.begins is_word is_left_out_word more_at inner_at skip_blanks
    begins is_call found_at joined all_modified each_behind truth_of any_truth all_truth
    without_front without_back
an_order_of_texts = refl

a_quoted_reference_may_be_undefined : holds (codes "\"${U}\" == \"\"") ≡ Ok (true, [])
unfolding text_at mods_at ref_at rows.begins is_word is_left_out_word more_at inner_at skip_blanks
    begins is_call found_at joined all_modified each_behind truth_of any_truth all_truth
    without_front without_back
a_quoted_reference_may_be_undefined = refl

a_name_is_trimmed : holds (codes "defined(${:U B })") ≡ Ok (true, [])
unfolding text_at mods_at ref_at rows.begins is_word is_left_out_word more_at inner_at skip_blanks
    begins is_call found_at joined all_modified each_behind truth_of any_truth all_truth
    without_front without_back
a_name_is_trimmed = refl

white_space_is_empty : holds (codes "empty(U) && empty(:U  ) && !empty(B)") ≡ Ok (true, [])
unfolding text_at mods_at ref_at rows.begins is_word is_left_out_word more_at inner_at skip_blanks
    begins is_call found_at joined all_modified each_behind truth_of any_truth all_truth
    without_front without_back
white_space_is_empty = refl

facts_of_names : holds (codes "make(al*) && target(./t) && commands(t) && !commands(all)") ≡ Ok (true, [])
unfolding text_at mods_at ref_at rows.begins is_word is_left_out_word more_at inner_at skip_blanks
    begins is_call found_at joined all_modified each_behind truth_of any_truth all_truth
    without_front without_back parts_of
facts_of_names = refl

questions_are_kept_in_order : holds (codes "exists(here) && !exists(./x//gone)") ≡ Ok (true, asked_both)
unfolding text_at mods_at ref_at rows.begins is_word is_left_out_word more_at inner_at skip_blanks
    begins is_call found_at joined all_modified each_behind truth_of any_truth all_truth
    without_front without_back
questions_are_kept_in_order = refl

no_question_behind_what_decides : holds (codes "0 && exists(here)") ≡ Ok (false, [])
unfolding text_at mods_at ref_at rows.begins is_word is_left_out_word more_at inner_at skip_blanks
    begins is_call found_at joined all_modified each_behind truth_of any_truth all_truth
    without_front without_back
no_question_behind_what_decides = refl

condition_of_a_choice : value (codes "${${B} == \"1\":?yes:no}${\"$B\" == \"2\":?yes:no}") ≡ Ok (codes "yesno")
unfolding text_at mods_at ref_at rows.begins is_word is_left_out_word more_at inner_at skip_blanks
    begins is_call found_at joined all_modified each_behind truth_of any_truth all_truth
    without_front without_back
condition_of_a_choice = refl

a_branch_that_is_not_chosen : value (codes "${1:?q:$R}") ≡ Ok (codes "q")
unfolding text_at mods_at ref_at rows.begins is_word is_left_out_word more_at inner_at skip_blanks
    begins is_call found_at joined all_modified each_behind truth_of any_truth all_truth
    without_front without_back
a_branch_that_is_not_chosen = refl

a_bad_condition : value (codes "${a &:?y:n}") ≡ Err (Cond 2)
unfolding text_at mods_at ref_at rows.begins is_word is_left_out_word more_at inner_at skip_blanks
    begins is_call found_at joined all_modified each_behind truth_of any_truth all_truth
    without_front without_back
a_bad_condition = refl

a_bound_name_is_defined : value (codes "${1:L:@v@${defined(v):?y:n}@}") ≡ Ok (codes "y")
unfolding text_at mods_at ref_at rows.begins is_word is_left_out_word more_at inner_at skip_blanks
    begins is_call found_at joined all_modified each_behind truth_of any_truth all_truth
    without_front without_back
a_bound_name_is_defined = refl
