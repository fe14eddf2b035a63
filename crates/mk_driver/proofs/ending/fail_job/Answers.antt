use Rattle.std.proofs.Common.{◌≡◌, ◌∙◌, true, false, sym}
use Rattle.std.proofs.lemmas.Result.{err_from_is_err_and}
use Rattle.mk_trace.specs.Builds.{is_removed}
use Rattle.mk_child.specs.Halts.{of_world}
use Rattle.mk_decision.specs.Makers.{work_of}
use Rattle.mk_driver.proofs.EndingLemmas.{going-failed_at, going-removed, halted-removing}
use Rattle.mk_driver.proofs.JobLemmas.{fits-failed}
use Rattle.mk_trace.proofs.WorldLemmas.{called-gone, called-nothing}
use Rattle.mk_driver.proofs.ending.fail_job.Goals as goal

pub returns-in_err-remove-clause-halted : goal.returns-in_err-remove-clause-halted
returns-in_err-remove-clause-halted g c =
    let p = err_from_is_err_and c.from_residual.result c.from_residual.ensures.1 in
    rw p.1 (λ first out at.
    halted-removing g.W.World.meaning (work_of c.args.maker.now) (of_world p.0) _ _ c.args.course.now
    c.args.job.now c.args.status first out
    (called-nothing g.W.World.meaning _ _ c.in_err-remove.ensures.refused) at)

pub returns-in_err-remove-clause-fits : goal.returns-in_err-remove-clause-fits
returns-in_err-remove-clause-fits g c = λ tickets room fits.
    rw (c.ended.ensures, c.note_failure.ensures) (fits-failed _ _ _ _ _ _ _ _ fits c.requires.token)

pub returns-in_ok-remove-clause-goes : goal.returns-in_ok-remove-clause-goes
returns-in_ok-remove-clause-goes g c = λ first out at.
    let doomed : is_removed (work_of c.args.maker.now) c.args.job.now.node ≡ true =
    sym c.is_doomed.ensures ∙ c.if-is_doomed.true in
    going-removed g.W.World.meaning (work_of c.args.maker.now) _ _ c.args.course.now c.ended.new.self
    c.note_failure.new.failure c.args.job.now c.args.status first out c.requires.token.open_now
    c.requires.failed c.ended.ensures c.note_failure.ensures doomed
    (called-gone g.W.World.meaning _ _ c.args.job.now.node _
    (rw c.name.ensures at c.in_ok-remove.ensures.done)) at

pub returns-in_ok-remove-clause-fits : goal.returns-in_ok-remove-clause-fits
returns-in_ok-remove-clause-fits g c = λ tickets room fits.
    rw (c.ended.ensures, c.note_failure.ensures) (fits-failed _ _ _ _ _ _ _ _ fits c.requires.token)

pub returns-else-is_doomed-clause-goes : goal.returns-else-is_doomed-clause-goes
returns-else-is_doomed-clause-goes g c = λ first out at.
    let kept : is_removed (work_of c.args.maker.now) c.args.job.now.node ≡ false =
    sym c.is_doomed.ensures ∙ c.if-is_doomed.false in
    going-failed_at g.W.World.meaning (work_of c.args.maker.now) _ c.args.course.now c.ended.new.self
    c.note_failure.new.failure c.args.job.now c.args.status first out c.requires.token.open_now
    c.requires.failed c.ended.ensures c.note_failure.ensures kept at

pub returns-else-is_doomed-clause-fits : goal.returns-else-is_doomed-clause-fits
returns-else-is_doomed-clause-fits g c = λ tickets room fits.
    rw (c.ended.ensures, c.note_failure.ensures) (fits-failed _ _ _ _ _ _ _ _ fits c.requires.token)
