-- How many predecessors of a node are not settled.
use Rattle.std.specs.Prelude.{◌≡◌, ℕ, ◌+◌, ◌<◌, List, [], ◌∷◌, Bool, ◌&&◌, ◌==◌, if◌then◌else◌}
use Rattle.std.specs.Prelude.{length, get_or}
use Rattle.mk_plan.specs.Deciding.{is_settled, is_undecided}
use Rattle.mk_plan.specs.declared.plan.NodeState.{NodeState}
use Rattle.mk_plan.specs.declared.plan.NodeState.TheVariants.{Undecided, Failed}

-- how often a number stands in a list
abbrev pub times : ℕ → List ℕ → ℕ
times one [] = 0
times one (other ∷ more) = (if other == one then 1 else 0) + times one more

-- how many of these are not settled; one that stands twice counts twice, and a failed one always
abbrev pub unsettled : List NodeState → List ℕ → ℕ
unsettled nodes [] = 0
unsettled nodes (one ∷ more) =
    (if is_settled (get_or nodes one Undecided) then 0 else 1) + unsettled nodes more

-- by the counts, a node is undecided and has all predecessors settled
abbrev pub is_ready : List NodeState → List ℕ → ℕ → Bool
is_ready nodes counts node =
    is_undecided (get_or nodes node Failed) && (get_or counts node 0 == 0)

-- the count of each node is that of its predecessors
pub record AreCounts (before : List (List ℕ)) (nodes : List NodeState) (counts : List ℕ)
    : Type 0 where
  pub long : length counts ≡ length before
  pub each : (node : ℕ) → node < length before
      → get_or counts node 0 ≡ unsettled nodes (get_or before node [])

-- each node is among the followers of another as often as that one is among its predecessors
pub record AreFollowers (before followers : List (List ℕ)) : Type 0 where
  pub long : length followers ≡ length before
  pub each : (one node : ℕ) → one < length before
      → times node (get_or followers one []) ≡ times one (get_or before node [])
