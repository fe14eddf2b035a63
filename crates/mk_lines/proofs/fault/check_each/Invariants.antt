use Rattle.std.proofs.Common.{◌≡◌, ◌+◌, false, length}
use Rattle.mk_lines.specs.Lines.{physical_lines, line_groups}
use Rattle.mk_lines.specs.Faults.{HoldNoZero, groups_checked, checked}
use Rattle.mk_lines.proofs.fault.check_each.Given as goal

-- the lines that are left have the text's first fault, and no zero byte where the text has none
abbrev pub invariant-loop-line : goal.invariant-loop-line
invariant-loop-line l = record {
  fault : groups_checked (l.lines.done + 1) (line_groups (physical_lines l.lines.rest.now))
      ≡ checked l.text;
  zeros : l.zeros ≡ false → HoldNoZero (physical_lines l.lines.rest.now);
}

abbrev pub decreases-loop-line : goal.decreases-loop-line
decreases-loop-line l = length l.lines.rest.now
