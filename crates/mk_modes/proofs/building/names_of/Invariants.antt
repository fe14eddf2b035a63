use Rattle.std.proofs.Common.{◌≡◌, ◌++◌, drop}
use Rattle.mk_modes.specs.Building as spec
use Rattle.mk_modes.proofs.building.names_of.Given as goal

-- the names so far, and those of the other nodes
abbrev pub invariant-loop-n : goal.invariant-loop-n
invariant-loop-n l = spec.names_of l.plan ≡ l.names ++ spec.names_of (drop l.n l.plan)
