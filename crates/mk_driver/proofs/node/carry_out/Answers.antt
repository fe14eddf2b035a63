use Rattle.std.proofs.Common.{◌∙◌, ◌<◌, refl, sym, ap, subst}
use Rattle.std.proofs.lemmas.Result.{err_from_is_err_and}
use Rattle.mk_sched.proofs.DecideLemmas.{decided}
use Rattle.mk_decision.specs.Newest.{IsDecidedUpTo}
use Rattle.mk_decision.specs.declared.decision.Decision.TheVariants.{Keep}
use Rattle.mk_world.specs.declared.fault.WorldFault.TheVariants.{NoMemory as no_memory}
use Rattle.mk_trace.specs.Builds.{rules_of, moment}
use Rattle.mk_child.specs.Halts.{of_world}
use Rattle.mk_decision.specs.Makers.{work_of}
use Rattle.mk_driver.specs.Progress.{undecided}
use Rattle.mk_sched.specs.Schedule.{Schedule}
use Rattle.mk_driver.proofs.DecideLemmas.{halted-opening, so_far-keeps, so_far-opened, so_far-refuses}
use Rattle.mk_driver.proofs.JobLemmas.{fits-begun, fits-kept, fits-refused}
use Rattle.mk_driver.proofs.EndingLemmas.{within-plan}
use Rattle.mk_driver.proofs.LineLemmas.{halted}
use Rattle.mk_trace.proofs.MakeLemmas.{so_far-nothing}
use Rattle.mk_driver.proofs.NodeLemmas.{may_decide-of, undecided-less, unknown-set, unstopped-begun}
use Rattle.mk_decision.proofs.PieceLemmas.{on_ok, if_err}
use Rattle.mk_trace.proofs.CallLemmas.{called-none}
use Rattle.mk_driver.proofs.node.carry_out.Goals as goal

pub returns-in_err-tell-in-Keep-clause-halted : goal.returns-in_err-tell-in-Keep-clause-halted
returns-in_err-tell-in-Keep-clause-halted g c =
    let p = err_from_is_err_and c.from_residual.result
    c.from_residual.ensures.1 in
    let work = work_of c.args.maker.now in
    let history = g.W.World.history c.args.world.now in
    rw p.1 (λ seen dec first out at.
    halted g.W.World.meaning work (of_world p.0) first history out _ _ at.0 _
    (so_far-nothing g.W.World.meaning work first (moment history out c.args.course.now.events.items)
    (moment history out c.tell.new.events.items) _ at.0 _ at.2 (called-none g.W.World.meaning history)
    c.in_err-tell-in-Keep.ensures.err refl))

pub returns-in_default-clause-halted : goal.returns-in_default-clause-halted
returns-in_default-clause-halted g c =
    let work = work_of c.args.maker.now in
    let history = g.W.World.history c.args.world.now in
    λ seen dec first out at.
    halted g.W.World.meaning work (of_world no_memory) first history out _ _ at.0 _
    (so_far-nothing g.W.World.meaning work first (moment history out c.args.course.now.events.items)
    (moment history out c.tell-in-Refuse.new.events.items) _ at.0 _ at.2 (called-none g.W.World.meaning history)
    c.in_default.ensures.err refl)

pub returns-in_ok-tell-in-Keep-clause-goes : goal.returns-in_ok-tell-in-Keep-clause-goes
returns-in_ok-tell-in-Keep-clause-goes g c =
    let work = work_of c.args.maker.now in
    let history = g.W.World.history c.args.world.now in
    let course = c.args.course.now in
    let n = c.args.node in
    let d = decided course.sched n c.requires.next in
    let may = may_decide-of (rules_of work) course.sched n c.requires.fits.rules_are c.requires.next in
    λ seen dec first out at.
    rw c.kept.ensures (
    let apart = (fits-begun _ _ _ _ _ _ _ c.requires.fits c.requires.next).1.apart in
    let kept : IsDecidedUpTo work n seen Keep course.newest.0 = rw c.in-Keep.is at dec in
    so_far-keeps g.W.World.meaning work at.0 course.sched.nodes course.jobs.items course.failure n
    kept.0.0 seen course.last_shown first (moment history out course.events.items)
    (moment history out c.tell.new.events.items) at.2 d.within d.undecided may
    apart at.1 kept.0.1 refl c.in_ok-tell-in-Keep.ensures.ok refl)

pub returns-in_ok-tell-in-Keep-clause-fits : goal.returns-in_ok-tell-in-Keep-clause-fits
returns-in_ok-tell-in-Keep-clause-fits g c =
    rw c.kept.ensures (fits-kept _ _ _ _ _ _ _ c.requires.fits c.requires.next)

pub returns-in_ok-tell-in-Keep-clause-nodes : goal.returns-in_ok-tell-in-Keep-clause-nodes
returns-in_ok-tell-in-Keep-clause-nodes g c =
    let d = decided c.args.course.now.sched c.args.node c.requires.next in
    rw c.kept.ensures (undecided-less c.args.course.now.sched.nodes c.args.node _ d.within d.undecided
    refl)

pub returns-in-Ok-clause-goes : goal.returns-in-Ok-clause-goes
returns-in-Ok-clause-goes g c =
    let work = work_of c.args.maker.now in
    let history = g.W.World.history c.args.world.now in
    let course = c.args.course.now in
    let n = c.args.node in
    let d = decided course.sched n c.requires.next in
    let may = may_decide-of (rules_of work) course.sched n c.requires.fits.rules_are c.requires.next in
    λ seen dec first out at.
    rw (c.refused.ensures, c.note_failure.ensures) (
      at.0,
      unknown-set at.0 course.sched.nodes n _ d.within (λ is. cc) at.1,
      so_far-refuses g.W.World.meaning work at.0 course.sched.nodes course.jobs.items course.failure n
          c.in-Refuse.number c.in-Refuse.what seen
          course.last_shown first (moment history out course.events.items)
          (moment history out c.tell-in-Refuse.new.events.items) at.2 d.within may (rw c.in-Refuse.is at dec).0 refl
          c.in-Ok.ensures.ok refl,
    )

pub returns-in-Ok-clause-fits : goal.returns-in-Ok-clause-fits
returns-in-Ok-clause-fits g c =
    rw (c.refused.ensures, c.note_failure.ensures)
    (fits-refused _ _ _ _ _ _ _ _ c.requires.fits c.requires.next)

pub returns-in-Ok-clause-nodes : goal.returns-in-Ok-clause-nodes
returns-in-Ok-clause-nodes g c =
    let d = decided c.args.course.now.sched c.args.node c.requires.next in
    rw c.refused.ensures (undecided-less c.args.course.now.sched.nodes c.args.node _ d.within
    d.undecided refl)

pub open_job-requires : goal.open_job-requires
open_job-requires g c =
    let d = decided c.args.course.now.sched c.args.node c.requires.next in
    record {
      within = within-plan (work_of c.args.maker.now) c.args.course.now.sched _ _ _ _ _ _ c.requires.fits
          d.within;
    }

pub returns-in-Err-clause-halted : goal.returns-in-Err-clause-halted
returns-in-Err-clause-halted g c =
    let work = work_of c.args.maker.now in
    let course = c.args.course.now in
    let n = c.args.node in
    let d = decided course.sched n c.requires.next in
    let may = may_decide-of (rules_of work) course.sched n c.requires.fits.rules_are c.requires.next in
    λ seen dec first out at.
    let made = rw c.in-Make.is at dec in
    halted-opening g.W.World.meaning work (of_world c.in-Err.fault) at.0 course.sched.nodes course.jobs.items
    course.failure n c.in-Make.task.lines seen course.last_shown first
    (g.W.World.history c.args.world.now) (g.W.World.history c.open_job.new.world) out course.events.items at.2
    d.undecided may at.1 made.0.0 made.0.1 c.in-Err.ensures.refused

pub run_on-requires-clause-fits : goal.run_on-requires-clause-fits
run_on-requires-clause-fits g c =
    rw c.started.ensures (fits-begun _ _ _ _ _ _ _ c.requires.fits c.requires.next).0

pub run_on-requires-clause-token : goal.run_on-requires-clause-token
run_on-requires-clause-token g c =
    rw c.started.ensures (fits-begun _ _ _ _ _ _ _ c.requires.fits c.requires.next).1

pub run_on-requires-clause-going : goal.run_on-requires-clause-going
run_on-requires-clause-going g c =
    let course = c.args.course.now in
    let d = decided course.sched c.args.node c.requires.next in
    rw c.started.ensures (unstopped-begun (rules_of (work_of c.args.maker.now)) course.sched c.args.node
    c.requires.fits.rules_are d.within d.undecided d.going)

pub returns-in-Ok-open_job-clause-goes : goal.returns-in-Ok-open_job-clause-goes
returns-in-Ok-open_job-clause-goes g c =
    let work = work_of c.args.maker.now in
    let course = c.args.course.now in
    let n = c.args.node in
    let d = decided course.sched n c.requires.next in
    let may = may_decide-of (rules_of work) course.sched n c.requires.fits.rules_are c.requires.next in
    let apart = (fits-begun _ _ _ _ _ _ _ c.requires.fits c.requires.next).1.apart in
    on_ok c.run_on.result (λ goes seen dec first out at.
    let made = rw c.in-Make.is at dec in
    goes first out (rw c.started.ensures
    (so_far-opened g.W.World.meaning work at.0 course.sched.nodes course.jobs.items course.failure n
    c.in-Make.task.lines seen course.last_shown first (moment (g.W.World.history c.args.world.now) out course.events.items)
    (moment (g.W.World.history c.open_job.new.world) out course.events.items) course.newest.0
    c.in-Ok-open_job.collected at.2 d.within d.undecided may apart at.1 made.0.0 made.0.1 made.1
    c.in-Ok-open_job.ensures.opened refl refl)))
    c.run_on.ensures.goes

pub returns-in-Ok-open_job-clause-halted : goal.returns-in-Ok-open_job-clause-halted
returns-in-Ok-open_job-clause-halted g c =
    let work = work_of c.args.maker.now in
    let course = c.args.course.now in
    let n = c.args.node in
    let d = decided course.sched n c.requires.next in
    let may = may_decide-of (rules_of work) course.sched n c.requires.fits.rules_are c.requires.next in
    let apart = (fits-begun _ _ _ _ _ _ _ c.requires.fits c.requires.next).1.apart in
    if_err c.run_on.result (λ fault halts seen dec first out at.
    let made = rw c.in-Make.is at dec in
    halts first out (rw c.started.ensures
    (so_far-opened g.W.World.meaning work at.0 course.sched.nodes course.jobs.items course.failure n
    c.in-Make.task.lines seen course.last_shown first (moment (g.W.World.history c.args.world.now) out course.events.items)
    (moment (g.W.World.history c.open_job.new.world) out course.events.items) course.newest.0
    c.in-Ok-open_job.collected at.2 d.within d.undecided may apart at.1 made.0.0 made.0.1 made.1
    c.in-Ok-open_job.ensures.opened refl refl)))
    c.run_on.ensures.halted

pub returns-in-Ok-open_job-clause-nodes : goal.returns-in-Ok-open_job-clause-nodes
returns-in-Ok-open_job-clause-nodes g c =
    let course = c.args.course.now in
    let d = decided course.sched c.args.node c.requires.next in
    let less = undecided-less course.sched.nodes c.args.node _ d.within d.undecided refl in
    on_ok c.run_on.result (λ same.
    subst (λ k. k < undecided course.sched.nodes)
    (sym (same ∙ ap (λ (s : Schedule). undecided s.nodes) c.started.ensures)) less)
    c.run_on.ensures.nodes
