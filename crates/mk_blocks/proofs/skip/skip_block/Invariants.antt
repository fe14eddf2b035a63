use Rattle.std.proofs.Common.{◌≡◌, ◌+◌, ◌≤◌, length}
use Rattle.mk_blocks.specs.Blocks.{closed, parse}
use Rattle.mk_blocks.specs.Skips.{outside_of}
use Rattle.mk_blocks.proofs.skip.skip_block.Given as goal

-- what stands behind the block is the same; a line opens one block at most
abbrev pub invariant-lines : goal.invariant-lines
invariant-lines g l =
    let kind = g.L.Language.ties.kind in
    record {
      behind : closed (outside_of l.depth (parse kind l.cursor).endings)
          ≡ closed (outside_of l.initial.depth (parse kind l.initial.cursor).endings);
      shorter : length l.cursor ≤ length l.initial.cursor;
      room : l.depth + length l.cursor ≤ l.initial.depth + length l.initial.cursor;
    }

abbrev pub decreases-lines : goal.decreases-lines
decreases-lines g l = length l.cursor
