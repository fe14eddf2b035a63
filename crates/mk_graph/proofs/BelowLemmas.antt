-- Lists of numbers below a bound, alone and in nodes.
use Rattle.std.proofs.Common.{◌≡◌, ℕ, zero, suc, ◌<◌, ◌≤◌, List, [], ◌∷◌, ◌++◌, set, Result, Ok}
use Rattle.std.proofs.Common.{Err, OnOk, OnErr, arith}
use Rattle.mk_bytes.specs.declared.fault.NoMemory.{NoMemory}
use Rattle.mk_graph.specs.Nodes.{Node, node_at, new_node, AreLinked}
use Rattle.mk_graph.specs.Numbers.{AreBelow}

-- numbers below a bound are below a larger one
AreBelow-more : (bound larger : ℕ) (nodes : List ℕ) → bound ≤ larger → AreBelow bound nodes
    → AreBelow larger nodes
AreBelow-more bound larger [] le below = tt
AreBelow-more bound larger (n ∷ more) le below =
    (omega (arith, below.0), AreBelow-more bound larger more le below.1)

-- and so is one more that is below it
pub AreBelow-append : (bound n : ℕ) (nodes : List ℕ) → AreBelow bound nodes → n < bound
    → AreBelow bound (nodes ++ n ∷ [])
AreBelow-append bound n [] below within = (within, tt)
AreBelow-append bound n (one ∷ more) below within =
    (below.0, AreBelow-append bound n more below.1 within)

-- what a push leaves is below the bound, be it refused or not
pub AreBelow-pushed : (bound n : ℕ) (old new : List ℕ) (result : Result (Unit {0}) NoMemory)
    → OnOk result (new ≡ old ++ n ∷ []) → OnErr result (new ≡ old) → AreBelow bound old
    → n < bound → AreBelow bound new
AreBelow-pushed bound n old new (Ok done) grown same below within =
    rw grown (AreBelow-append bound n old below within)
AreBelow-pushed bound n old new (Err fault) grown same below within = rw same below

-- the same for what nodes refer to
pub AreLinked-more : (bound larger : ℕ) (nodes : List Node) → bound ≤ larger → AreLinked bound nodes
    → AreLinked larger nodes
AreLinked-more bound larger [] le linked = tt
AreLinked-more bound larger (node ∷ more) le linked = (
  AreBelow-more bound larger node.sources le linked.0,
  AreBelow-more bound larger node.ordered le linked.1,
  AreLinked-more bound larger more le linked.2,
)

-- a new node refers to none
pub AreLinked-append : (bound : ℕ) (name : List ℕ) (nodes : List Node) → AreLinked bound nodes
    → AreLinked bound (nodes ++ new_node name ∷ [])
AreLinked-append bound name [] linked = (tt, tt, tt)
AreLinked-append bound name (node ∷ more) linked =
    (linked.0, linked.1, AreLinked-append bound name more linked.2)

-- a node that refers to such nodes stands in for another
pub AreLinked-set : (bound n : ℕ) (nodes : List Node) (node : Node) → AreLinked bound nodes
    → AreBelow bound node.sources → AreBelow bound node.ordered
    → AreLinked bound (set nodes n node)
AreLinked-set bound n [] node linked sources ordered = tt
AreLinked-set bound zero (other ∷ more) node linked sources ordered =
    (sources, ordered, linked.2)
AreLinked-set bound (suc n) (other ∷ more) node linked sources ordered =
    (linked.0, linked.1, AreLinked-set bound n more node linked.2 sources ordered)

-- what one node refers to
pub AreLinked-at : (bound n : ℕ) (nodes : List Node) → AreLinked bound nodes
    → AreBelow bound (node_at nodes n).sources × AreBelow bound (node_at nodes n).ordered
AreLinked-at bound n [] linked = (tt, tt)
AreLinked-at bound zero (node ∷ more) linked = (linked.0, linked.1)
AreLinked-at bound (suc n) (node ∷ more) linked = AreLinked-at bound n more linked.2
