-- Orders of nodes in which each stands behind its predecessors.
use Rattle.std.specs.Prelude.{◌≡◌, ◌↔◌, ℕ, true, false, List, [], ◌∷◌, length, IsTrue}
use Rattle.mk_graph.specs.Closed.{Reaches}
use Rattle.mk_graph.specs.Numbers.{AreBelow, EachBelow}
use Rattle.mk_graph.specs.Walks.{is_among, preds_of, depth_first}
use Rattle.mk_graph.specs.declared.walk.Ordered.{Ordered}
use Rattle.mk_graph.specs.declared.walk.Ordered.TheVariants.{Order, Cycle}

-- each of these nodes is among those
abbrev pub AreAmong : List ℕ → List ℕ → Type 0
AreAmong done [] = Unit {0}
AreAmong done (n ∷ more) = (is_among done n ≡ true) × AreAmong done more

-- each node stands behind its predecessors; the nodes before these are given, the last first
abbrev pub AreBehind : List (List ℕ) → List ℕ → List ℕ → Type 0
AreBehind preds before [] = Unit {0}
AreBehind preds before (n ∷ more) =
    AreAmong before (preds_of preds n) × AreBehind preds (n ∷ before) more

-- nodes alone, and each behind its predecessors
pub record IsOrder (preds : List (List ℕ)) (order : List ℕ) : Type 0 where
  pub within : AreBelow (length preds) order
  pub behind : AreBehind preds [] order

abbrev pub IsOrdered : List (List ℕ) → Ordered → Type 0
IsOrdered preds (Order order) = IsOrder preds order
IsOrdered preds (Cycle walk) = Unit {0}

-- no node stands twice
abbrev pub AreOnce : List ℕ → Type 0
AreOnce [] = Unit {0}
AreOnce (n ∷ more) = (is_among more n ≡ false) × AreOnce more

-- exactly the nodes that are reached, each once and behind its predecessors
pub record IsWhole (preds : List (List ℕ)) (from order : List ℕ) : Type 0 where
  pub order_is : IsOrder preds order
  pub once : AreOnce order
  pub reached : (n : ℕ) → IsTrue (is_among order n) ↔ Reaches preds from n

-- A depth-first order has each node that is reached once, and no other.
abbrev pub OrdersAreWhole : Type 0
OrdersAreWhole =
    (preds : List (List ℕ)) (from order : List ℕ) → EachBelow (length preds) preds
    → AreBelow (length preds) from → depth_first preds from ≡ Order order → IsWhole preds from order
