use Rattle.std.proofs.Common.{Result, Ok, Err, IfErr, OnErr, refl}
use Rattle.mk_sched.proofs.DecideLemmas.{open_within}
use Rattle.mk_decision.specs.Makers.{work_of}
use Rattle.mk_decision.proofs.PieceLemmas.{on_ok}
use Rattle.mk_child.specs.Halts.{of_world}
use Rattle.mk_driver.proofs.EndingLemmas.{going-closed, halted-closing}
use Rattle.mk_driver.proofs.JobLemmas.{fits-settled}
use Rattle.mk_driver.proofs.NodeLemmas.{undecided-same}
use Rattle.mk_driver.proofs.meta.finish_job.Goals as goal

err-if : {T E P : Type 0} {Q : E → Type 0} (r : Result T E) → ((e : E) → P → Q e) → OnErr r P
    → IfErr r Q
err-if (Ok x) then p = tt
err-if (Err e) then p = then e p

pub returns-clause-goes : goal.returns-clause-goes
returns-clause-goes g c =
    on_ok c.close_job.result (λ closed first out at.
    going-closed g.W.World.meaning (work_of c.args.maker.now) (g.W.World.history c.args.world.now) _
    c.args.course.now c.ended.new.self c.args.job first out c.requires.token.open_now c.ended.ensures
    closed at) c.close_job.ensures.closed

pub returns-clause-halted : goal.returns-clause-halted
returns-clause-halted g c =
    err-if c.close_job.result (λ fault part first out at.
    halted-closing g.W.World.meaning (work_of c.args.maker.now) (of_world fault)
    (g.W.World.history c.args.world.now) _ c.args.course.now c.args.job first out
    c.requires.token.open_now part at) c.close_job.ensures.refused

pub returns-clause-fits : goal.returns-clause-fits
returns-clause-fits g c = λ tickets room fits.
    rw c.ended.ensures (fits-settled _ _ _ _ _ _ _ fits c.requires.token)

pub returns-clause-nodes : goal.returns-clause-nodes
returns-clause-nodes g c =
    let course = c.args.course.now in
    rw c.ended.ensures (undecided-same course.sched.nodes c.args.job.node _
    (open_within course.sched.nodes c.args.job.node c.requires.token.open_now)
    c.requires.token.open_now refl)
