use Rattle.std.proofs.Common.{◌≡◌, ◌++◌, drop, map}
use Rattle.mk_closure.specs.Names.{name_in}
use Rattle.mk_plan.proofs.making.names_of.Given as goal

-- the names so far, and those of the other nodes
abbrev pub invariant-loop-n : goal.invariant-loop-n
invariant-loop-n l =
    map (name_in l.closure) l.nodes ≡ l.names ++ map (name_in l.closure) (drop l.n-index l.nodes)
