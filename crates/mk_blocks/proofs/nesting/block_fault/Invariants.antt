use Rattle.std.proofs.Common.{◌≡◌, [], length}
use Rattle.mk_lines.specs.Lines.{lines_from}
use Rattle.mk_blocks.specs.OpenBlocks.{blocks_checked}
use Rattle.mk_blocks.proofs.nesting.block_fault.Given as goal

-- the lines that are left, in the blocks that are open
abbrev pub invariant-lines : goal.invariant-lines
invariant-lines g l =
    let kind = g.L.Language.ties.kind in
    blocks_checked kind l.blocks l.cursor ≡ blocks_checked kind [] (lines_from 1 l.text)

abbrev pub decreases-lines : goal.decreases-lines
decreases-lines g l = length l.cursor
