-- What a dry run is: what it shows, what it starts, and how it ends.
use Rattle.std.specs.Prelude.{◌≡◌, List, Option, Some, None}
use Rattle.mk_decision.specs.Decisions.{Work}
use Rattle.mk_plan.specs.Deciding.{Rules}
use Rattle.mk_trace.specs.Builds.{Moment, Prints, event_of}
use Rattle.mk_trace.specs.Ends.{is_cut}
use Rattle.mk_trace.specs.Items.{Happened, happened_all}
use Rattle.mk_trace.specs.Runs as run
use Rattle.mk_trace.specs.Settled.{EachSettled}
use Rattle.mk_trace.specs.declared.result.BuildResult.{BuildResult}
use Rattle.mk_trace.specs.declared.result.BuildResult.TheVariants as ended
use Rattle.mk_trace.specs.declared.result.Failure.{Failure}
use Rattle.mk_trace.specs.declared.result.Failure.TheVariants as failing
use Rattle.mk_world.specs.Talks.{Meaning}
use Rattle.mk_world.specs.Told.{Told}
use Rattle.mk_dry.specs.Items.{DryItem, reported_all, in_build_all, dry_tasks, printed_all}
use Rattle.mk_dry.specs.Reports.{AreAnnounced, IsRunBy, as_build}
use Rattle.mk_dry.specs.Runs.{Dry, rules_of, first_dry, dry_after_all, Makes}

-- a dry run that is over: no event may follow, no line is announced, and the first failure is known
pub record IsOver (rules : Rules) (failure : Option Failure) (dry : Dry) : Type 0 where
  pub over : run.IsOver rules dry.run
  pub failed : dry.failure ≡ failure
  pub free : dry.announced ≡ None

-- How a dry run stands at its end. It is over where the outside did not end it.
abbrev pub StandsBy : Rules → BuildResult → Dry → Type 0
StandsBy rules ended.Done dry = IsOver rules None dry
StandsBy rules (ended.JobFailed n number status) dry =
    IsOver rules (Some (failing.JobFailed n number status)) dry
StandsBy rules (ended.Expand n number what) dry =
    IsOver rules (Some (failing.Expand n number what)) dry
StandsBy rules ended.World dry = Unit {0}
StandsBy rules ended.Sink dry = Unit {0}
StandsBy rules ended.NoMemory dry = Unit {0}

-- A dry run from one moment to another: there is one list of items whose events are those of the
-- report, which the history tells where the world does, and whose output was printed. With a line
-- that is not started as one that has ended well, its report is that of a legal run with one job,
-- or of a cut one where the outside has ended it. Only lines with `+` are started. Each child that
-- was started was taken in or given up.
pub record IsDryRun (meaning : Meaning) (work : Work) (result : BuildResult) (first last : Moment)
    : Type 0 where
  pub tasks : run.Tasks
  pub items : List DryItem
  pub reported : last.events ≡ reported_all items
  pub legal : IsRunBy result (rules_of work) (dry_tasks tasks) (as_build tasks last.events)
  pub announced : AreAnnounced tasks None last.events
  pub makes : Makes (rules_of work) tasks (first_dry work) items
  pub told : Told first.history last.history (Happened meaning (in_build_all items))
  pub settled : Told first.history last.history
      (λ old new. EachSettled (happened_all (in_build_all items)))
  pub printed : Prints (is_cut result) first last (printed_all tasks items)
  pub stands : StandsBy (rules_of work) result
      (dry_after_all (rules_of work) tasks (first_dry work) items)
  pub failure : run.first_failure (dry_tasks tasks) last.events
      ≡ event_of (dry_after_all (rules_of work) tasks (first_dry work) items).failure
