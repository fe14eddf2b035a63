-- Closed walks from nodes to their predecessors.
use Rattle.std.specs.Prelude.{◌≡◌, ℕ, List, [], ◌∷◌, ◌++◌, IsTrue}
use Rattle.mk_graph.specs.Walks.{is_among, preds_of}

-- from a node to a predecessor of it, and so on
abbrev pub IsWalk : List (List ℕ) → ℕ → List ℕ → Type 0
IsWalk preds n [] = Unit {0}
IsWalk preds n (next ∷ more) = IsTrue (is_among (preds_of preds n) next) × IsWalk preds next more

-- a node is reached where it is given, or a predecessor of one that is reached
pub data Reaches (preds : List (List ℕ)) (from : List ℕ) : ℕ → Type 0 where
  given : {n : ℕ} → IsTrue (is_among from n) → Reaches preds from n
  behind : {n next : ℕ} → Reaches preds from n → IsTrue (is_among (preds_of preds n) next)
      → Reaches preds from next

-- a walk from a node that is reached back to this node
pub record IsClosed (preds : List (List ℕ)) (from walk : List ℕ) : Type 0 where
  pub first : ℕ
  pub inner : List ℕ
  pub is : walk ≡ first ∷ inner ++ first ∷ []
  pub walks : IsWalk preds first (inner ++ first ∷ [])
  pub reached : Reaches preds from first

-- no node that is reached lies on a closed walk
abbrev pub NoneCloses : List (List ℕ) → List ℕ → Type 0
NoneCloses preds from =
    (n : ℕ) (inner : List ℕ) → Reaches preds from n → IsWalk preds n (inner ++ n ∷ []) → ⊥
