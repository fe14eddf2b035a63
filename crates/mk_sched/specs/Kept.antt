-- What a scheduler keeps.
use Rattle.std.specs.Prelude.{◌≡◌, ℕ, ◌<◌, ◌^◌, List, Bool, length}
use Rattle.std.specs.List.{list_any}
use Rattle.mk_plan.specs.Deciding.{open_jobs, is_failed}
use Rattle.mk_plan.specs.declared.plan.NodeState.{NodeState}
use Rattle.mk_sched.specs.Counts.{AreCounts, AreFollowers}
use Rattle.mk_sched.specs.Least.{AreEntered}

-- a token is out for each open job, and a failure is known
pub record AreTold (before : List (List ℕ)) (nodes : List NodeState) (tokens : ℕ) (failed : Bool)
    : Type 0 where
  pub as_many : length nodes ≡ length before
  pub short : length before < 2 ^ 32
  pub tokens_are : tokens ≡ open_jobs nodes
  pub failed_is : failed ≡ list_any is_failed nodes

pub record IsKept (before followers : List (List ℕ)) (nodes : List NodeState) (counts entries : List ℕ)
    (tokens : ℕ) (failed : Bool) : Type 0 where
  pub told : AreTold before nodes tokens failed
  pub followers_are : AreFollowers before followers
  pub counts_are : AreCounts before nodes counts
  pub entered_are : AreEntered nodes counts entries
