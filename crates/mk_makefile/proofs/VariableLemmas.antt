-- Names of variables.
use Rattle.std.proofs.Common.{◌≡◌, ℕ, ◌+◌, nat_lt, true, false, List, [], ◌∷◌, drop, length, refl, ap, arith}
use Rattle.std.proofs.lemmas.Bool.Decides.{nat_tests}
use Rattle.mk_values.specs.Limits.{max_text}
use Rattle.mk_values.specs.Locals.{no_locals}
use Rattle.mk_values.specs.Texts.{has_dollar}
use Rattle.mk_values.specs.Names.{context}
use Rattle.mk_values.specs.Value.{finder}
use Rattle.mk_values.specs.Evaluators.{progress}
use Rattle.mk_values.specs.declared.facts.Asked.{Asked}
use Rattle.mk_values.proofs.PlainLemmas.{text_value-plain}
use Rattle.mk_makefile.specs.Moments.{Moment, given}
use Rattle.mk_makefile.specs.Questions.{Answers}
use Rattle.mk_makefile.specs.Values.{lists_at}
use Rattle.mk_makefile.specs.Variables.{is_own_value, not_empty, variable_name}

pub not_empty-some : (name : List ℕ) (s : Moment) → (name ≡ [] → ⊥) → not_empty name s ≡ given name s
not_empty-some [] s some = absurd (some refl)
not_empty-some (byte ∷ name) s some = refl

drop-all : (asked : List Asked) → drop (length asked) asked ≡ []
drop-all [] = refl
drop-all (one ∷ more) = drop-all more

-- a name that is its own value is read as it is written
pub variable_name-own : (answers : Answers) (name : List ℕ) (s : Moment) → is_own_value name ≡ true
    → variable_name answers name s ≡ given name s
variable_name-own answers [] s own = cc
variable_name-own answers (byte ∷ name) s own =
    let text = byte ∷ name in
    let none : has_dollar text ≡ false = grind (arith, nat_tests) in
    let fits : nat_lt max_text (length {A = ℕ} [] + length text) ≡ false = grind (arith, nat_tests) in
    rw (
      ap (λ one. one.answer) (text_value-plain finder
          (context s.made.scopes no_locals (lists_at s) answers.exists false)
          (progress 0 s.asked) text none),
      fits,
      drop-all s.asked,
    ) refl
