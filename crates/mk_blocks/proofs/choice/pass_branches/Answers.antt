use Rattle.std.proofs.Common.{length, ap, ◌∙◌, arith}
use Rattle.mk_blocks.specs.Blocks.{parse}
use Rattle.mk_blocks.proofs.choice.pass_branches.Goals as goal

pub returns : goal.returns
returns g c =
    let left = c.leave_block.ensures in
    let shorter = ap length left.cursor in
    record {
      step = left.step;
      depth = left.depth;
      behind = ap (parse g.L.Language.ties.kind) left.cursor ∙ c.in_ok-skip_block.ensures.behind;
      shorter = omega (arith, shorter, c.in_ok-skip_block.ensures.shorter);
      loops = left.loops;
    }
