use Rattle.std.proofs.Common.{◌≡◌, ◌+◌, ◌≤◌, ◌∷◌, false, length}
use Rattle.mk_lines.specs.Lines.{physical_lines, line_groups}
use Rattle.mk_lines.specs.Faults.{HoldNoZero, groups_checked}
use Rattle.mk_lines.proofs.CheckLemmas.{checking}
use Rattle.mk_lines.proofs.fault.check_line.Given as goal

-- the length so far, the piece and the lines that are left have the same fault, and all of them
-- have no more bytes than there were, nor zero bytes where there were none
abbrev pub invariant-loop-piece : goal.invariant-loop-piece
invariant-loop-piece l = record {
  same : checking l.number l.len l.piece l.lines.done (physical_lines l.lines.rest.now)
      ≡ groups_checked l.number (line_groups (l.first ∷ physical_lines l.initial.lines.rest.now));
  room : l.len + length l.piece + length l.lines.rest.now
      ≤ length l.first + length l.initial.lines.rest.now;
  shorter : length l.lines.rest.now ≤ length l.initial.lines.rest.now;
  zeros : l.zeros ≡ false → HoldNoZero (physical_lines l.lines.rest.now);
}

abbrev pub decreases-loop-piece : goal.decreases-loop-piece
decreases-loop-piece l = length l.lines.rest.now
