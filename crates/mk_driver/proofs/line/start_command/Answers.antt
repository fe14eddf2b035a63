use Rattle.std.proofs.Common.{◌≡◌, ◌∙◌, sym}
use Rattle.mk_world.proofs.SinkLemmas.{OnErr-from}
use Rattle.mk_decision.specs.Makers.{work_of}
use Rattle.mk_decision.proofs.PieceLemmas.{on_ok}
use Rattle.mk_trace.specs.Builds.{command_of}
use Rattle.mk_trace.proofs.CallLemmas.{called-none}
use Rattle.mk_driver.proofs.LineLemmas.{some-is}
use Rattle.mk_driver.proofs.line.start_command.Goals as goal

pub returns-in_err-cmd-clause-refused : goal.returns-in_err-cmd-clause-refused
returns-in_err-cmd-clause-refused g c =
    OnErr-from c.from_residual.result (called-none g.W.World.meaning _)

pub returns-clause-done : goal.returns-clause-done
returns-clause-done g c =
    let line = c.line_at-line.result.now in
    let command : c.in_ok-cmd.cmd ≡ command_of (work_of c.args.maker.now) line =
    rw c.cwd.ensures.value at c.in_ok-cmd.ensures in
    on_ok c.start_child.result (λ called one is.
    let same : line ≡ one = some-is line one (sym c.line_at-line.ensures ∙ is) in
    rw (← same, ← command) called) c.start_child.ensures.done
