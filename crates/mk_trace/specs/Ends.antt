-- How builds end.
use Rattle.std.specs.Prelude.{◌≡◌, ℕ, ◌<◌, ◌≤◌, Option, Some, None, Bool, true, false}
use Rattle.mk_world.specs.Causes.{Rose}
use Rattle.mk_decision.specs.Decisions.{Work}
use Rattle.mk_trace.specs.Builds.{Build, free, rules_of}
use Rattle.mk_trace.specs.Runs as run
use Rattle.mk_trace.specs.declared.result.BuildResult.{BuildResult}
use Rattle.mk_trace.specs.declared.result.BuildResult.TheVariants as ended
use Rattle.mk_trace.specs.declared.result.Failure.{Failure}
use Rattle.mk_trace.specs.declared.result.Failure.TheVariants as failing

-- a build that is over: no event may follow, the first failure is known, and make has done what it
-- had to
pub record IsOver (work : Work) (failure : Option Failure) (build : Build) : Type 0 where
  pub over : run.IsOver (rules_of work) build.run
  pub failed : build.failure ≡ failure
  pub none_due : build.duty ≡ free

-- How a build stands at its end. It is over where the outside did not end it.
abbrev pub StandsBy : Work → BuildResult → Build → Type 0
StandsBy work ended.Done build = IsOver work None build
StandsBy work (ended.JobFailed n number status) build =
    IsOver work (Some (failing.JobFailed n number status)) build
StandsBy work (ended.Expand n number what) build =
    IsOver work (Some (failing.Expand n number what)) build
StandsBy work ended.World build = Unit {0}
StandsBy work ended.Sink build = Unit {0}
StandsBy work ended.NoMemory build = Unit {0}

-- only a failed write cuts off what is printed
abbrev pub is_cut : BuildResult → Bool
is_cut ended.Sink = true
is_cut ended.Done = false
is_cut (ended.JobFailed n number status) = false
is_cut (ended.Expand n number what) = false
is_cut ended.World = false
is_cut ended.NoMemory = false

abbrev pub of_failure : Failure → BuildResult
of_failure (failing.JobFailed node number status) = ended.JobFailed node number status
of_failure (failing.Expand node number what) = ended.Expand node number what

-- the end of a build that is over, by its first failure
abbrev pub result_of : Option Failure → BuildResult
result_of None = ended.Done
result_of (Some failure) = of_failure failure

-- The count of faults of an object over a build: the build ends with that object's fault only where
-- the count rose or is at its end, and a rise is answered so.
pub record EndsBy (failed : BuildResult) (before after : ℕ) (result : BuildResult) : Type 0 where
  pub kept : before ≤ after
  pub answered : before < after → result ≡ failed
  pub rose : result ≡ failed → Rose before after
