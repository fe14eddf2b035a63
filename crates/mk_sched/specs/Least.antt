-- The least of the ready nodes, found by comparing two and two.
use Rattle.std.specs.Prelude.{◌≡◌, ℕ, ◌+◌, ◌*◌, ◌<◌, ◌≢◌, List, if◌then◌else◌, length, get_or, min}
use Rattle.mk_plan.specs.declared.plan.NodeState.{NodeState}
use Rattle.mk_sched.specs.Counts.{is_ready}

-- the entry at a place
abbrev pub entry : List ℕ → ℕ → ℕ
entry entries place = get_or entries place 0

-- the entry at a place is the lesser of the two below it
abbrev pub IsLesser : List ℕ → ℕ → Type 0
IsLesser entries place =
    entry entries place ≡ min (entry entries (2 * place)) (entry entries (2 * place + 1))

-- Two entries for each of so many nodes: those of the nodes are the later half, and each earlier
-- one but the first, which is not used, is the lesser of two. So that at place 1 is the least.
pub record IsTournament (count : ℕ) (entries : List ℕ) : Type 0 where
  pub long : length entries ≡ 2 * count
  pub each : (place : ℕ) → 0 < place → place < count → IsLesser entries place

-- what a node is entered with: its number where it is ready, and else one that is behind all
abbrev pub entered : List NodeState → List ℕ → ℕ → ℕ
entered nodes counts node = if is_ready nodes counts node then node else length nodes

-- each node but perhaps one is entered as it stands
pub record AreEnteredBut (changed : ℕ) (nodes : List NodeState) (counts entries : List ℕ)
    : Type 0 where
  pub as_many : length counts ≡ length nodes
  pub tournament : IsTournament (length nodes) entries
  pub each : (node : ℕ) → node < length nodes → node ≢ changed
      → entry entries (length nodes + node) ≡ entered nodes counts node

-- each node is entered as it stands
pub record AreEntered (nodes : List NodeState) (counts entries : List ℕ) : Type 0 where
  pub as_many : length counts ≡ length nodes
  pub tournament : IsTournament (length nodes) entries
  pub each : (node : ℕ) → node < length nodes
      → entry entries (length nodes + node) ≡ entered nodes counts node
