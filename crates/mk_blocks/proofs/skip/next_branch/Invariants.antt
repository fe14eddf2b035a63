use Rattle.std.proofs.Common.{◌≡◌, ◌+◌, ◌≤◌, length}
use Rattle.mk_blocks.specs.Blocks.{parse}
use Rattle.mk_blocks.specs.Skips.{next_branch, outside_of}
use Rattle.mk_blocks.proofs.skip.next_branch.Given as goal

-- the next branch is the same; a line opens one block at most
abbrev pub invariant-lines : goal.invariant-lines
invariant-lines g l =
    let kind = g.L.Language.ties.kind in
    record {
      behind : next_branch (outside_of l.depth (parse kind l.cursor).endings)
          ≡ next_branch (parse kind l.initial.cursor).endings;
      room : l.depth + length l.cursor ≤ length l.initial.cursor;
    }

abbrev pub decreases-lines : goal.decreases-lines
decreases-lines g l = length l.cursor
