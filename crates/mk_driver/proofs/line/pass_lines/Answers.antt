use Rattle.std.proofs.Common.{◌<◌, length, arith}
use Rattle.mk_world.proofs.SinkLemmas.{OnErr-from}
use Rattle.mk_driver.proofs.LineLemmas.{behind-halted, behind-passes}
use Rattle.mk_driver.proofs.line.pass_lines.Goals as goal

pub lines-preserved : goal.lines-preserved
lines-preserved c =
    let l = c.lines in
    let next = c.is_next_empty.ensures.empty c.lines-test.true in
    let more : l.passed < length c.args.lines.now = next.1 in
    let from = l.invariant.from in
    record {
      from = omega (arith, from);
      within = omega (arith, more);
      behind = λ scene open_scene collected behind.
          behind-passes scene l.events.items c.pass_line.new.events.items c.args.node c.args.lines.now collected
          l.passed next.0 open_scene (l.invariant.behind scene open_scene collected behind) more next.2 next.3
          c.in_ok-pass_line.ensures.told;
    }

pub returns-in_err-pass_line-clause-halted : goal.returns-in_err-pass_line-clause-halted
returns-in_err-pass_line-clause-halted c =
    OnErr-from c.from_residual.result (λ scene open_scene collected behind.
    behind-halted scene c.lines.events.items c.pass_line.new.events.items c.args.node c.args.lines.now collected
    c.lines.passed (c.lines.invariant.behind scene open_scene collected behind)
    c.in_err-pass_line.ensures.untold)
