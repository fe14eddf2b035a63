-- One step of a walk, and how many are left.
use Rattle.std.specs.Prelude.{◌≡◌, ℕ, ◌+◌, ◌-◌, ◌*◌, ◌^◌, ◌≤◌, List, length}
use Rattle.mk_closure.specs.Parts.{State, met_count}
use Rattle.mk_closure.specs.Walks.{Enter, walk}
use Rattle.mk_pool.specs.declared.pool.TheConstants.{MAX_NAMES}

-- a walk from the first state comes to the same as one from the second
abbrev pub Leads : Enter → State → List ℕ → State → List ℕ → Type 0
Leads enter s nodes later more = walk enter s nodes ≡ walk enter later more

-- one node more is met, and perhaps there are more names
pub record IsMet (old new : State) : Type 0 where
  pub nodes : new.nodes ≡ old.nodes
  pub longer : length old.parts ≤ length new.parts
  pub count : met_count new.parts ≡ 1 + met_count old.parts

-- the most steps that are left where so many nodes are to be gone through: each that is met adds
-- fewer than 2 ^ 33
abbrev pub steps_left : State → ℕ → ℕ
steps_left s count = (MAX_NAMES - met_count s.parts) * 2 ^ 33 + count
