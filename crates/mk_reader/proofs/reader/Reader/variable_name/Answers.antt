use Rattle.std.proofs.Common.{[], ◌≡◌, refl, rules}
use Rattle.std.proofs.lemmas.Result.{err_from_is_err_and}
use Rattle.mk_makefile.specs.Variables.{not_empty}
use Rattle.mk_makefile.proofs.VariableLemmas.{not_empty-some}
use Rattle.mk_reader.proofs.StepLemmas.{here-given, here-wrong, then-fault, then-given}
use Rattle.mk_reader.proofs.reader.Reader.variable_name.Goals as goal

pub returns-in_err-name : goal.returns-in_err-name
returns-in_err-name g c =
    let p = err_from_is_err_and c.from_residual.result c.from_residual.ensures.1 in
    rw (p.1, p.2) (then-fault _ (λ answers name. not_empty name.0 name.1) c.in_err-name.ensures)

pub returns-then-is_empty : goal.returns-then-is_empty
returns-then-is_empty g c =
    then-given _ (λ answers name. not_empty name.0 name.1) c.in_ok-name.ensures
    (here-wrong _ _ _ _ _ (λ answers.
    let none : c.in_ok-name.name ≡ [] = search rules in rw none refl))

pub returns : goal.returns
returns g c =
    then-given _ (λ answers name. not_empty name.0 name.1) c.in_ok-name.ensures
    (here-given _ _ _ _ _ (λ answers.
    not_empty-some c.in_ok-name.name _ (λ none. absurd (search rules))))
