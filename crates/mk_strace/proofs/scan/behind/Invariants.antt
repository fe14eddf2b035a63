use Rattle.std.proofs.Common.{◌≡◌, length}
use Rattle.mk_strace.specs.Scan.{behind}
use Rattle.mk_strace.proofs.scan.behind.Given as goal

-- it has not stood so far
abbrev pub invariant-places : goal.invariant-places
invariant-places l = behind l.word l.rest ≡ behind l.word l.text

abbrev pub decreases-places : goal.decreases-places
decreases-places l = length l.rest
