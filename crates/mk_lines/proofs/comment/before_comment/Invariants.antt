use Rattle.std.proofs.Common.{◌≡◌, ◌-◌, ◌≤◌, ◌++◌, length, take, drop}
use Rattle.memchr.specs.Find.{IsFirstByte, is_byte3}
use Rattle.mk_bytes.specs.Bytes.{hash, square_open, backslash}
use Rattle.mk_lines.specs.Comment as spec
use Rattle.mk_lines.proofs.comment.before_comment.Given as goal

-- what is passed is kept, and the rest of the line, which was searched, says what else is kept
abbrev pub invariant-units : goal.invariant-units
invariant-units l = record {
  within : l.end ≤ length l.line;
  found : IsFirstByte (is_byte3 hash backslash square_open) (drop l.end l.line) l.found;
  kept : take l.end l.line ++ spec.before_comment (drop l.end l.line) ≡ spec.before_comment l.line;
}

abbrev pub decreases-units : goal.decreases-units
decreases-units l = length l.line - l.end
