-- That a run ends well where nothing is wrong: it does not give up.
use Rattle.std.specs.Prelude.{◌≡◌, ◌⊎◌, ℕ, List, [], None, Result, Ok, Err}
use Rattle.std.proofs.Common.{inl, inr}
use Rattle.mk_cli.specs.declared.order.Order.{Order}
use Rattle.mk_dry.specs.Items.{dry_tasks}
use Rattle.mk_values.specs.declared.fault.ExpandFault.{ExpandFault}
use Rattle.mk_explain.specs.declared.fault.ExplainFault.{ExplainFault}
use Rattle.mk_explain.specs.declared.fault.ExplainFault.TheVariants as explain
use Rattle.mk_explain.specs.declared.reason.Reason.{Reason}
use Rattle.mk_graph.specs.declared.Made.{Made}
use Rattle.mk_plan.specs.Asking.{answers_by}
use Rattle.mk_plan.specs.Tasks.{setting_of}
use Rattle.mk_plan.specs.declared.fault.PlanFault.{PlanFault}
use Rattle.mk_plan.specs.declared.fault.PlanFault.TheVariants as plan
use Rattle.mk_query.specs.declared.result.QueryResult.{QueryResult}
use Rattle.mk_query.specs.declared.result.QueryResult.TheVariants as query
use Rattle.mk_scopes.specs.declared.scopes.Env.{Env}
use Rattle.mk_trace.specs.Runs.{first_failure}
use Rattle.mk_world.specs.Talks.{Meaning}
use Rattle.mk_modes.specs.Building.{Point, point}
use Rattle.mk_modes.specs.Meaning.{Meant, only, prints, audits, explains, queries, shows, builds, printed}
use Rattle.mk_modes.specs.Meaning.{by_reading}
use Rattle.mk_modes.specs.Modes.{Goes, Held}
use Rattle.mk_run.specs.Runs.{IsOrderRun}
use Rattle.mk_modes.specs.declared.building.Went.{Went}
use Rattle.mk_modes.specs.declared.report.End.{End}
use Rattle.mk_modes.specs.declared.report.End.TheVariants.{Done, NotUpToDate, Breaches, WorldFault, SinkFault}
use Rattle.mk_modes.specs.declared.report.End.TheVariants.{NoMemory}
use Rattle.mk_modes.specs.declared.report.Report.{Report}

-- The outside or want of memory alone is in the way of a plan.
abbrev pub IsUnrefused : PlanFault → Type 0
IsUnrefused fault = (fault ≡ plan.Failed) ⊎ (fault ≡ plan.NoMemory)

-- no line could not be expanded
abbrev pub IsExplainable : Result (List Reason) ExplainFault → Type 0
IsExplainable (Ok reasons) = Unit {0}
IsExplainable (Err fault) =
    (node number : ℕ) (what : ExpandFault) → fault ≡ explain.Expand node number what → ⊥

abbrev pub IsAnswerable : QueryResult → Type 0
IsAnswerable result = (node number : ℕ) (what : ExpandFault)
    → result ≡ query.Expand node number what → ⊥

-- Nothing is wrong with what a run does behind its reading: each print has its value, there is a
-- plan, each line that is looked at can be expanded, and no command fails whose failure is not
-- ignored.
abbrev pub IsFaultless : (meaning : Meaning) (meant : Meant) (first last : Point) (went : Went)
    → Goes meaning meant first last went → Type 0
IsFaultless meaning (only outcome) first last went goes = outcome.end ≡ Done
IsFaultless meaning (prints variables lists all) first last went goes =
    (printed (setting_of variables lists (answers_by goes.looked)) [] 0 all).end ≡ Done
IsFaultless meaning (audits env made order) first last went (inl unplanned) = IsUnrefused unplanned.fault
IsFaultless meaning (audits env made order) first last went (inr audited) = Unit {0}
IsFaultless meaning (explains made flags) first last went (inl unplanned) = IsUnrefused unplanned.fault
IsFaultless meaning (explains made flags) first last went (inr explained) = IsExplainable explained.outcome
IsFaultless meaning (queries made flags) first last went (inl unplanned) = IsUnrefused unplanned.fault
IsFaultless meaning (queries made flags) first last went (inr queried) = IsAnswerable queried.result
IsFaultless meaning (shows made flags) first last went (inl unplanned) = IsUnrefused unplanned.fault
IsFaultless meaning (shows made flags) first last went (inr shown) =
    first_failure (dry_tasks shown.shown.tasks) went.events ≡ None
IsFaultless meaning (builds made flags) first last went (inl unplanned) = IsUnrefused unplanned.fault
IsFaultless meaning (builds made flags) first last went (inr built) =
    first_failure built.built.true_build.build.tasks went.events ≡ None

-- the outside or want of memory was in the way
abbrev pub IsHindered : End → Type 0
IsHindered end = (end ≡ WorldFault) ⊎ ((end ≡ SinkFault) ⊎ (end ≡ NoMemory))

-- All is well, or, where that was asked, something is out of date or breached; or something was in
-- the way.
abbrev pub EndsWell : Meant → End → Type 0
EndsWell (only outcome) end = (end ≡ Done) ⊎ IsHindered end
EndsWell (prints variables lists all) end = (end ≡ Done) ⊎ IsHindered end
EndsWell (audits env made order) end =
    (end ≡ Done) ⊎ (((count : ℕ) × (end ≡ Breaches count)) ⊎ IsHindered end)
EndsWell (explains made flags) end = (end ≡ Done) ⊎ IsHindered end
EndsWell (queries made flags) end =
    (end ≡ Done) ⊎ (((name : List ℕ) × (end ≡ NotUpToDate name)) ⊎ IsHindered end)
EndsWell (shows made flags) end = (end ≡ Done) ⊎ IsHindered end
EndsWell (builds made flags) end = (end ≡ Done) ⊎ IsHindered end

-- A run whose makefiles are read, and in which nothing is wrong, ends well. That the outside is in
-- the way comes only where a count of its faults rose, as is said of every run.
abbrev pub Completes : {meaning : Meaning} {words : List (List ℕ)} {env : Env} {order : Order}
    {first last : Point} {err : Held} {report : Report}
    → IsOrderRun meaning words env order first last err report → Type 0
Completes {meaning} {words} {env} {order} {first} {last} {err} {report} run =
    (made : Made) → run.followed.read ≡ Ok made
    → IsFaultless meaning (by_reading env order run.followed.read) (point run.followed.read_at first.out) last
    run.went run.followed.goes
    → EndsWell (by_reading env order run.followed.read) report.end
