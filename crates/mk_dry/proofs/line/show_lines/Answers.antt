use Rattle.std.proofs.Common.{◌<◌, length, arith}
use Rattle.std.proofs.lemmas.Bool.Decides.{nat_tests}
use Rattle.std.proofs.lemmas.Grind.{common_steps}
use Rattle.std.proofs.lemmas.Result.{err_from_is_err_and}
use Rattle.mk_dry.proofs.LineLemmas.{line-of, was-ended}
use Rattle.mk_trace.specs.Builds.{moment}
use Rattle.mk_dry.proofs.line.show_lines.Goals as goal

pub returns-in_err-status-clause-goes : goal.returns-in_err-status-clause-goes
returns-in_err-status-clause-goes g c =
    let p = err_from_is_err_and c.from_residual.result c.from_residual.ensures.1 in
    let l = c.lines in
    let more : l.done < length c.args.task.now.lines = grind (arith, nat_tests, common_steps) in
    was-ended p.0 p.1 (rw p.2 (λ scene at.
    c.in_err-status.ensures.goes.ends scene
    (line-of g.W.World.meaning c.args.made.now c.args.node c.args.task.now.lines c.args.failure.now l.done
    c.get-line.result.now scene (moment (g.W.World.history l.world) (g.S.Sink.held l.out) l.events.items) at.0 more
    c.get-line.ensures (l.invariant.goes scene at.0 at.1))))
