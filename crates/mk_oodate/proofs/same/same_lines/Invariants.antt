use Rattle.std.proofs.Common.{◌≡◌, length}
use Rattle.mk_oodate.specs.Stale.{same_lines}
use Rattle.mk_oodate.proofs.same.same_lines.Given as goal

-- what is left is the same where all of them are
abbrev pub invariant-lines : goal.invariant-lines
invariant-lines l = same_lines l.rest l.behind ≡ same_lines l.lines l.others

abbrev pub decreases-lines : goal.decreases-lines
decreases-lines l = length l.rest
