use Rattle.std.proofs.lemmas.Result.{err_from_is_err_and}
use Rattle.mk_cond.specs.View.{cond_view}
use Rattle.mk_cond.proofs.Depths.{IsCondition-deep}
use Rattle.mk_cond.proofs.FaultPlaces.{condition-placed}
use Rattle.mk_cond.proofs.WrittenConditions.{condition_of-written}
use Rattle.mk_cond.proofs.ReadConditions.{IsCondition-one, IsCondition-fault}
use Rattle.mk_cond.proofs.whole.parse_cond.Goals as goal

pub returns-clause-written : goal.returns-clause-written
returns-clause-written c =
    condition_of-written c.args.form c.args.text.now (cond_view c.in_ok-cond.cond)
    c.in_ok-cond.ensures

pub returns-clause-alone : goal.returns-clause-alone
returns-clause-alone c =
    λ other is. IsCondition-one c.args.form c.args.text.now other (cond_view c.in_ok-cond.cond) is
    (condition_of-written c.args.form c.args.text.now (cond_view c.in_ok-cond.cond)
    c.in_ok-cond.ensures)

pub returns-clause-deep : goal.returns-clause-deep
returns-clause-deep c =
    IsCondition-deep c.args.form (cond_view c.in_ok-cond.cond) c.args.text.now
    (condition_of-written c.args.form c.args.text.now (cond_view c.in_ok-cond.cond)
    c.in_ok-cond.ensures)

pub returns-in_err-cond-clause-placed : goal.returns-in_err-cond-clause-placed
returns-in_err-cond-clause-placed c =
    let is = err_from_is_err_and c.from_residual.result c.from_residual.ensures.1 in
    rw (is.1, is.2)
    (condition-placed c.args.form c.args.text.now c.in_err-cond.field-0.0 c.in_err-cond.ensures)

pub returns-in_err-cond-clause-outside : goal.returns-in_err-cond-clause-outside
returns-in_err-cond-clause-outside c =
    let is = err_from_is_err_and c.from_residual.result c.from_residual.ensures.1 in
    rw (is.1, is.2)
    (IsCondition-fault c.args.form c.args.text.now c.in_err-cond.field-0.0 c.in_err-cond.ensures)
