use Rattle.std.proofs.Common.{◌≡◌, length}
use Rattle.mk_glob.specs.Patterns as spec
use Rattle.mk_glob.proofs.set.is_member.Given as goal

-- the members so far are not the byte, so the rest decides
abbrev pub invariant-members : goal.invariant-members
invariant-members l = spec.is_member l.rest l.byte ≡ spec.is_member l.members l.byte

abbrev pub decreases-members : goal.decreases-members
decreases-members l = length l.rest
