-- Which node of a run may be decided, by how the nodes stand alone.
use Rattle.std.specs.Prelude.{ℕ, ◌+◌, List, [], ◌∷◌, Option, Some, None, Bool, true, false, not}
use Rattle.std.specs.Prelude.{◌&&◌, if◌then◌else◌, get_or, count_by, nat_lt}
use Rattle.std.specs.List.{list_any, list_all}
use Rattle.mk_plan.specs.declared.plan.NodeState.{NodeState}
use Rattle.mk_plan.specs.declared.plan.NodeState.TheVariants.{Undecided, Open, Settled, Failed}

-- the predecessors of each node in plan order, how many jobs may be open at once, and whether a run
-- goes on behind a failure
pub record Rules : Type 0 where
  pub before : List (List ℕ)
  pub jobs : ℕ
  pub keep_going : Bool

abbrev pub is_undecided : NodeState → Bool
is_undecided Undecided = true
is_undecided Open = false
is_undecided Settled = false
is_undecided Failed = false

abbrev pub is_open : NodeState → Bool
is_open Undecided = false
is_open Open = true
is_open Settled = false
is_open Failed = false

abbrev pub is_settled : NodeState → Bool
is_settled Undecided = false
is_settled Open = false
is_settled Settled = true
is_settled Failed = false

abbrev pub is_failed : NodeState → Bool
is_failed Undecided = false
is_failed Open = false
is_failed Settled = false
is_failed Failed = true

abbrev pub open_jobs : List NodeState → ℕ
open_jobs nodes = count_by is_open nodes

-- a failure has stopped the run
abbrev pub is_stopped : Rules → List NodeState → Bool
is_stopped rules nodes = not rules.keep_going && list_any is_failed nodes

-- all of these are settled, and none has failed
abbrev pub all_settled : List NodeState → List ℕ → Bool
all_settled nodes before = list_all (λ one. is_settled (get_or nodes one Undecided)) before

-- the first node from a place on that is undecided and has all predecessors settled
abbrev pub first_ready : List NodeState → ℕ → List (List ℕ) → Option ℕ
first_ready nodes place [] = None
first_ready nodes place (before ∷ more) =
    if is_undecided (get_or nodes place Failed) && all_settled nodes before then Some place
    else first_ready nodes (place + 1) more

-- The node that may be decided: the first that is ready, where no failure stops the run and fewer
-- jobs are open than may be.
abbrev pub may_decide : Rules → List NodeState → Option ℕ
may_decide rules nodes =
    if not (is_stopped rules nodes) && nat_lt (open_jobs nodes) rules.jobs
    then first_ready nodes 0 rules.before else None
