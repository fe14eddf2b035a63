use Rattle.std.proofs.lemmas.Result.{err_from_is_err_and}
use Rattle.mk_sched.proofs.DecideLemmas.{decided}
use Rattle.mk_trace.specs.Builds.{rules_of}
use Rattle.mk_child.specs.Halts.{of_world}
use Rattle.mk_decision.specs.Makers.{work_of}
use Rattle.mk_driver.proofs.DecideLemmas.{so_far-looks}
use Rattle.mk_driver.proofs.EndingLemmas.{within-plan}
use Rattle.mk_driver.proofs.LineLemmas.{halted}
use Rattle.mk_driver.proofs.NodeLemmas.{may_decide-of}
use Rattle.mk_decision.proofs.NewestLemmas.{decided-up_to}
use Rattle.mk_decision.proofs.PieceLemmas.{on_ok, if_err}
use Rattle.mk_driver.proofs.node.decide.Goals as goal

pub decide_on-requires : goal.decide_on-requires
decide_on-requires g c =
    let d = decided c.args.course.now.sched c.args.node c.requires.next in
    record {
      within = within-plan (work_of c.args.maker.now) c.args.course.now.sched _ _ _ _ _ _ c.requires.fits
          d.within;
    }

pub returns-in_err-decision-clause-halted : goal.returns-in_err-decision-clause-halted
returns-in_err-decision-clause-halted g c =
    let p = err_from_is_err_and c.from_residual.result c.from_residual.ensures.1 in
    let work = work_of c.args.maker.now in
    let course = c.args.course.now in
    let d = decided course.sched c.args.node c.requires.next in
    let may = may_decide-of (rules_of work) course.sched c.args.node c.requires.fits.rules_are
    c.requires.next in
    let some = c.in_err-decision.ensures.halted in
    rw p.1 (λ first out at.
    halted g.W.World.meaning work (of_world p.0) first (g.W.World.history c.decide_on.new.world) out
    course.events.items course.last_shown at.0 _
    (so_far-looks g.W.World.meaning work at.0 course.sched.nodes course.jobs.items course.failure
    c.args.node some.seen course.last_shown first
    (g.W.World.history c.args.world.now) (g.W.World.history c.decide_on.new.world) out course.events.items
    at.2 d.undecided may some.looked))

pub returns-clause-goes : goal.returns-clause-goes
returns-clause-goes g c =
    let work = work_of c.args.maker.now in
    let course = c.args.course.now in
    let d = decided course.sched c.args.node c.requires.next in
    let may = may_decide-of (rules_of work) course.sched c.args.node c.requires.fits.rules_are
    c.requires.next in
    let dec = c.in_ok-decision.ensures.decided in
    let up_to = decided-up_to work c.args.node dec.0 c.in_ok-decision.decision _ _ dec.2 dec.3 in
    on_ok c.carry_out.result (λ goes first out at.
    goes dec.0 up_to first out (
      at.0,
      at.1,
      so_far-looks g.W.World.meaning work at.0 course.sched.nodes course.jobs.items course.failure
          c.args.node dec.0 course.last_shown first
          (g.W.World.history c.args.world.now) (g.W.World.history c.decide_on.new.world) out
          course.events.items at.2 d.undecided may dec.1,
    ))
    c.carry_out.ensures.goes

pub returns-clause-halted : goal.returns-clause-halted
returns-clause-halted g c =
    let work = work_of c.args.maker.now in
    let course = c.args.course.now in
    let d = decided course.sched c.args.node c.requires.next in
    let may = may_decide-of (rules_of work) course.sched c.args.node c.requires.fits.rules_are
    c.requires.next in
    let dec = c.in_ok-decision.ensures.decided in
    let up_to = decided-up_to work c.args.node dec.0 c.in_ok-decision.decision _ _ dec.2 dec.3 in
    if_err c.carry_out.result (λ fault halts first out at.
    halts dec.0 up_to first out (
      at.0,
      at.1,
      so_far-looks g.W.World.meaning work at.0 course.sched.nodes course.jobs.items course.failure
          c.args.node dec.0 course.last_shown first
          (g.W.World.history c.args.world.now) (g.W.World.history c.decide_on.new.world) out
          course.events.items at.2 d.undecided may dec.1,
    ))
    c.carry_out.ensures.halted
