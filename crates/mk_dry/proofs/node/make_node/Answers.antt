use Rattle.std.proofs.lemmas.Result.{err_from_is_err_and}
use Rattle.mk_dry.proofs.EndLemmas.{gone-made, looked-from, within-nodes}
use Rattle.mk_dry.proofs.GrowLemmas.{halted}
use Rattle.mk_dry.proofs.LineLemmas.{was-ended}
use Rattle.mk_dry.specs.Progress.{work_in}
use Rattle.mk_dry.specs.Runs.{rules_of}
use Rattle.mk_dry.proofs.node.make_node.Goals as goal

pub returns-in_err-decision-clause-goes : goal.returns-in_err-decision-clause-goes
returns-in_err-decision-clause-goes g c =
    let p = err_from_is_err_and c.from_residual.result c.from_residual.ensures.1 in
    let some = c.in_err-decision.ensures.halted in
    was-ended p.0 p.1 (λ from at.
    let seen = looked-from g.W.World.meaning c.args.made.now c.args.flags.now c.args.node c.args.course.now
    (g.S.Sink.held c.args.out.now) (g.W.World.history c.args.world.now)
    (g.W.World.history c.decide_on.new.world) some.seen c.requires.due some.looked from at in
    halted g.W.World.meaning from.start p.0 from.first _ seen.1 _ seen.3)

pub returns-in_err-stands-clause-goes : goal.returns-in_err-stands-clause-goes
returns-in_err-stands-clause-goes g c =
    let p = err_from_is_err_and c.from_residual-in_err-stands.result
    c.from_residual-in_err-stands.ensures.1 in
    let dec = c.in_ok-decision.ensures.decided in
    was-ended p.0 p.1 (rw p.2 (λ from at.
    c.in_err-stands.ensures.goes.ends from (
      dec.0,
      dec.2,
      looked-from g.W.World.meaning c.args.made.now c.args.flags.now c.args.node c.args.course.now
          (g.S.Sink.held c.args.out.now) (g.W.World.history c.args.world.now)
          (g.W.World.history c.decide_on.new.world) dec.0 c.requires.due dec.1 from at,
    )))

pub returns-clause-goes : goal.returns-clause-goes
returns-clause-goes g c =
    let dec = c.in_ok-decision.ensures.decided in
    record {
      goes = λ from at. c.in_ok-stands.ensures.goes.goes from (
        dec.0,
        dec.2,
        looked-from g.W.World.meaning c.args.made.now c.args.flags.now c.args.node c.args.course.now
            (g.S.Sink.held c.args.out.now) (g.W.World.history c.args.world.now)
            (g.W.World.history c.decide_on.new.world) dec.0 c.requires.due dec.1 from at,
      );
      ends = tt;
    }

pub returns-clause-gone : goal.returns-clause-gone
returns-clause-gone g c =
    let course = c.args.course.now in
    let n = c.args.node in
    let next = c.requires.due.next in
    let carried = c.in_ok-stands.ensures.carried in
    gone-made (rules_of (work_in course c.args.made.now c.args.flags.now)) _ course.nodes.items
    c.carry_out.new.course.nodes.items course.failure c.carry_out.new.course.failure n c.in_ok-stands.stands
    next.gone (within-nodes course.plan c.args.made.now c.args.flags.now course.nodes.items course.failure n n
    next.gone next.within) carried.come carried.rules carried.nodes
