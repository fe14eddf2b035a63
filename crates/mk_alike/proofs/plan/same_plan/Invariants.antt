use Rattle.std.proofs.Common.{◌≡◌, length}
use Rattle.std.specs.Prelude.{◌↔◌}
use Rattle.mk_alike.proofs.plan.same_plan.Given as goal

-- what is left is the same exactly where all nodes are
abbrev pub invariant-nodes : goal.invariant-nodes
invariant-nodes l = (l.rest ≡ l.behind) ↔ (l.plan ≡ l.other)

abbrev pub decreases-nodes : goal.decreases-nodes
decreases-nodes l = length l.rest
