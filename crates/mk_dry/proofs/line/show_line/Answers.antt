use Rattle.std.proofs.Common.{◌∙◌, refl, sym}
use Rattle.std.proofs.lemmas.Result.{err_from_is_err_and}
use Rattle.mk_dry.proofs.GrowLemmas.{halted, so_far-nothing}
use Rattle.mk_dry.proofs.LineLemmas.{in-announces, in-cut, in-shows, leads-to, was-ended}
use Rattle.mk_trace.proofs.CallLemmas.{called-none}
use Rattle.mk_trace.specs.Builds.{moment}
use Rattle.mk_dry.proofs.line.show_line.Goals as goal

pub returns-in_err-tell-clause-goes : goal.returns-in_err-tell-clause-goes
returns-in_err-tell-clause-goes g c =
    let p = err_from_is_err_and c.from_residual.result c.from_residual.ensures.1 in
    let history = g.W.World.history c.args.world.now in
    let out = g.S.Sink.held c.args.out.now in
    was-ended p.0 p.1 (λ scene at.
    halted g.W.World.meaning scene.start p.0 scene.first _ scene.known _
    (so_far-nothing g.W.World.meaning scene.start scene.first (moment history out c.args.events.now.items)
    (moment history out c.tell.new.events.items) scene.known _ at.1 (called-none g.W.World.meaning history)
    c.in_err-tell.ensures.err refl))

pub returns-in_err-print_line-clause-goes : goal.returns-in_err-print_line-clause-goes
returns-in_err-print_line-clause-goes g c =
    let p = err_from_is_err_and c.from_residual-in_err-print_line.result
    c.from_residual-in_err-print_line.ensures.1 in
    was-ended p.0 p.1 (rw p.2 (λ scene at.
    in-cut g.W.World.meaning scene c.args.place.number c.args.line.now
    (g.W.World.history c.args.world.now) (g.S.Sink.held c.args.out.now)
    (g.S.Sink.held c.print_line.new.out) c.args.events.now.items c.tell.new.events.items at.0.is_open at.0.counted
    at.0.line_is at.1 (rw at.0.node_is c.in_ok-tell.ensures.ok) c.in_err-print_line.ensures.cut))

pub returns-clause-goes : goal.returns-clause-goes
returns-clause-goes g c = record {
  goes = λ scene at. in-shows g.W.World.meaning scene c.args.place.number 0 c.args.line.now
      (g.W.World.history c.args.world.now) (g.S.Sink.held c.args.out.now)
      (g.S.Sink.held c.print_line.new.out) c.args.events.now.items c.tell.new.events.items at.0.is_open at.0.counted
      at.0.line_is (sym c.is_started.ensures ∙ c.if-is_started.false) refl at.1
      (rw at.0.node_is c.in_ok-tell.ensures.ok) c.in_ok-print_line.ensures.done;
  ends = tt;
}

pub returns-then-is_started-clause-goes : goal.returns-then-is_started-clause-goes
returns-then-is_started-clause-goes g c =
    let started = sym c.is_started.ensures ∙ c.if-is_started.true in
    leads-to c.run_line.result (λ scene at. (
      scene,
      (
        at.0,
        in-announces g.W.World.meaning scene c.args.place.number c.args.line.now
            (g.W.World.history c.args.world.now) (g.S.Sink.held c.args.out.now)
            (g.S.Sink.held c.print_line.new.out) c.args.events.now.items c.tell.new.events.items at.0.is_open at.0.line_is
            started at.1 (rw at.0.node_is c.in_ok-tell.ensures.ok) c.in_ok-print_line.ensures.done,
      ),
      (λ status so. so),
      (λ halt so. so),
    )) c.run_line.ensures.goes
