-- Runs in which nothing is wrong end well.
use Rattle.std.proofs.Common.{◌≡◌, ◌∙◌, ◌⊎◌, ℕ, ◌==◌, Bool, true, false, List, length, Option, Some, None, Result, Ok, Err}
use Rattle.std.specs.Prelude.{if◌then◌else◌}
use Rattle.std.proofs.Common.{inl, inr, refl, sym, ap, subst}
use Rattle.mk_audit.specs.declared.fault.AuditFault.{AuditFault}
use Rattle.mk_audit.specs.declared.fault.AuditFault.TheVariants as audit
use Rattle.mk_cli.specs.declared.order.Order.{Order}
use Rattle.mk_decision.specs.Decisions.{Work}
use Rattle.mk_dry.specs.DryRuns as dry
use Rattle.mk_dry.specs.Runs.{Dry}
use Rattle.mk_explain.specs.declared.fault.ExplainFault.{ExplainFault}
use Rattle.mk_explain.specs.declared.fault.ExplainFault.TheVariants as explain
use Rattle.mk_explain.specs.declared.reason.Reason.{Reason}
use Rattle.mk_flags.specs.declared.Flags.{Flags}
use Rattle.mk_graph.specs.declared.Made.{Made}
use Rattle.mk_plan.specs.Deciding.{Rules}
use Rattle.mk_plan.specs.declared.fault.PlanFault.{PlanFault}
use Rattle.mk_plan.specs.declared.plan.PlanNode.{PlanNode}
use Rattle.mk_query.specs.declared.result.QueryResult.{QueryResult}
use Rattle.mk_query.specs.declared.result.QueryResult.TheVariants as query
use Rattle.mk_scopes.specs.declared.scopes.Env.{Env}
use Rattle.mk_trace.specs.Builds.{Build, event_of}
use Rattle.mk_trace.specs.Ends.{StandsBy}
use Rattle.mk_trace.specs.declared.event.Event.{Event}
use Rattle.mk_trace.specs.declared.result.BuildResult.{BuildResult}
use Rattle.mk_trace.specs.declared.result.BuildResult.TheVariants as build
use Rattle.mk_world.specs.Talks.{Meaning}
use Rattle.mk_modes.specs.Auditing as auditing
use Rattle.mk_modes.specs.Building as building
use Rattle.mk_modes.specs.Building.{Point, point, unbuilt}
use Rattle.mk_run.specs.Completeness.{Completes, EndsWell, IsAnswerable, IsExplainable, IsFaultless, IsHindered, IsUnrefused}
use Rattle.mk_modes.specs.Ends.{IsOutside, of_count, of_explain, of_plan}
use Rattle.mk_modes.specs.Explaining as explaining
use Rattle.mk_modes.specs.Meaning.{Meant, Outcome, only, prints, audits, explains, queries, shows, builds, by_reading}
use Rattle.mk_modes.specs.Querying as querying
use Rattle.mk_modes.specs.Modes.{Goes, Held, Printed, Stands}
use Rattle.mk_run.specs.Runs.{Closed, IsOrderRun}
use Rattle.mk_modes.specs.declared.auditing.Audit.{Audit}
use Rattle.mk_modes.specs.declared.building.Went.{Went}
use Rattle.mk_modes.specs.declared.report.End.{End}
use Rattle.mk_modes.specs.declared.report.End.TheVariants.{Done, NotUpToDate, Breaches, NoMemory}
use Rattle.mk_modes.specs.declared.report.Report.{Report}

outside-hinders : (end : End) → IsOutside end → IsHindered end
outside-hinders end (inl failed) = inl failed
outside-hinders end (inr want) = inr (inr want)

unrefused-hinders : (fault : PlanFault) (end : End) → IsUnrefused fault → end ≡ of_plan fault → IsHindered end
unrefused-hinders fault end (inl failed) is = inl (is ∙ ap of_plan failed)
unrefused-hinders fault end (inr want) is = inr (inr (is ∙ ap of_plan want))

end-of-unbuilt : (went : Went) (end : End) → went ≡ unbuilt end → went.end ≡ end
end-of-unbuilt went end is = ap (λ (one : Went). one.end) is

printed-well : (meant : Outcome) (out : Held) (end : End) → meant.end ≡ Done → Printed meant out end
    → (end ≡ Done) ⊎ IsHindered end
printed-well meant out end well (inl whole) = from whole.stands
  where
    from : Stands whole.stood meant → (end ≡ Done) ⊎ IsHindered end
    from (inl same) = inl (whole.is ∙ (ap (λ (one : Outcome). one.end) same ∙ well))
    from (inr stopped) = inr (outside-hinders end (subst IsOutside (sym whole.is) stopped.outside))
printed-well meant out end well (inr cut) = inr (inr (inl cut.is))

-- the first failure of a build that ended with one
failed-never : (events first : Option Event) (event : Event) → first ≡ None → first ≡ events
    → events ≡ Some event → ⊥
failed-never events first event none same some = cc

built-well : (work : Work) (nodes : List PlanNode) (result : BuildResult) (end : End) (first : Option Event)
    (stood : Build) → first ≡ None → first ≡ event_of stood.failure → StandsBy work result stood
    → building.IsEndOf nodes result end → (end ≡ Done) ⊎ IsHindered end
built-well work nodes result end first stood none same stands (inr want) = inr (inr (inr want.0))
built-well work nodes build.Done end first stood none same stands (inl is) = inl is
built-well work nodes (build.JobFailed n number status) end first stood none same stands (inl is) =
    absurd (failed-never (event_of stood.failure) first _ none same (ap event_of stands.failed))
built-well work nodes (build.Expand n number what) end first stood none same stands (inl is) =
    absurd (failed-never (event_of stood.failure) first _ none same (ap event_of stands.failed))
built-well work nodes build.World end first stood none same stands (inl is) = inr (inl is)
built-well work nodes build.Sink end first stood none same stands (inl is) = inr (inr (inl is))
built-well work nodes build.NoMemory end first stood none same stands (inl is) = inr (inr (inr is))

shown-well : (rules : Rules) (nodes : List PlanNode) (result : BuildResult) (end : End) (first : Option Event)
    (stood : Dry) → first ≡ None → first ≡ event_of stood.failure → dry.StandsBy rules result stood
    → building.IsEndOf nodes result end → (end ≡ Done) ⊎ IsHindered end
shown-well rules nodes result end first stood none same stands (inr want) = inr (inr (inr want.0))
shown-well rules nodes build.Done end first stood none same stands (inl is) = inl is
shown-well rules nodes (build.JobFailed n number status) end first stood none same stands (inl is) =
    absurd (failed-never (event_of stood.failure) first _ none same (ap event_of stands.failed))
shown-well rules nodes (build.Expand n number what) end first stood none same stands (inl is) =
    absurd (failed-never (event_of stood.failure) first _ none same (ap event_of stands.failed))
shown-well rules nodes build.World end first stood none same stands (inl is) = inr (inl is)
shown-well rules nodes build.Sink end first stood none same stands (inl is) = inr (inr (inl is))
shown-well rules nodes build.NoMemory end first stood none same stands (inl is) = inr (inr (inr is))

queried-well : (nodes : List PlanNode) (result : QueryResult) (end : End) → IsAnswerable result
    → querying.IsEndOf nodes result end
    → (end ≡ Done) ⊎ (((name : List ℕ) × (end ≡ NotUpToDate name)) ⊎ IsHindered end)
queried-well nodes result end fine (inr want) = inr (inr (inr (inr want.0)))
queried-well nodes query.UpToDate end fine (inl is) = inl is
queried-well nodes (query.OutOfDate n) end fine (inl is) = inr (inl (_, is))
queried-well nodes (query.Expand n number what) end fine (inl is) = absurd (fine n number what refl)
queried-well nodes query.World end fine (inl is) = inr (inr (inl is))
queried-well nodes query.NoMemory end fine (inl is) = inr (inr (inr (inr is)))

explained-well : (meaning : Meaning) (made : Made) (flags : Flags) (first last : Point) (went : Went)
    → (is : explaining.IsExplainedRun meaning made flags first last went)
    → IsFaultless meaning (explains made flags) first last went (inr is)
    → (went.end ≡ Done) ⊎ IsHindered went.end
explained-well meaning made flags first last went is fine = by is.outcome fine is.tells
  where
    by : (outcome : Result (List Reason) ExplainFault) → IsExplainable outcome
        → explaining.Tells is.nodes outcome first.out last.out went.end
        → (went.end ≡ Done) ⊎ IsHindered went.end
    by (Ok reasons) fine (inl done) = inl done.0
    by (Ok reasons) fine (inr cut) = inr (inr (inl cut.0))
    by (Err fault) fine tells = inr (hindered fault fine tells.0)
      where
        hindered : (fault : ExplainFault) → IsExplainable (Err fault)
            → (went.end ≡ of_explain is.nodes fault) ⊎ (went.end ≡ NoMemory) → IsHindered went.end
        hindered (explain.Expand node number what) fine one = absurd (fine node number what refl)
        hindered explain.Failed fine (inl is) = inl is
        hindered explain.NoMemory fine (inl is) = inr (inr is)
        hindered explain.Failed fine (inr want) = inr (inr want)
        hindered explain.NoMemory fine (inr want) = inr (inr want)

counted-well : (count : ℕ) (end : End) → end ≡ of_count count
    → (end ≡ Done) ⊎ (((count : ℕ) × (end ≡ Breaches count)) ⊎ IsHindered end)
counted-well count end is = by (count == 0) is
  where
    by : (none : Bool) → end ≡ (if none then Done else Breaches count)
        → (end ≡ Done) ⊎ (((count : ℕ) × (end ≡ Breaches count)) ⊎ IsHindered end)
    by true is = inl is
    by false is = inr (inl (count, is))

audited-well : (outcome : Result Audit AuditFault) (before after : Option (List ℕ)) (end : End)
    → auditing.Tells outcome before after end
    → (end ≡ Done) ⊎ (((count : ℕ) × (end ≡ Breaches count)) ⊎ IsHindered end)
audited-well (Ok found) before after end (inl told) = counted-well (length (auditing.breaches_in found)) end told.0
audited-well (Ok found) before after end (inr (inl cut)) = inr (inr (inr (inl cut.0)))
audited-well (Ok found) before after end (inr (inr want)) = inr (inr (inr (inr want.0)))
audited-well (Err audit.Failed) before after end stopped = inr (inr (inl stopped.0))
audited-well (Err audit.NoMemory) before after end stopped = inr (inr (inr (inr stopped.0)))

goes-well : (meaning : Meaning) (meant : Meant) (first last : Point) (went : Went)
    → (goes : Goes meaning meant first last went) → IsFaultless meaning meant first last went goes
    → EndsWell meant went.end
goes-well meaning (only outcome) first last went goes fine = printed-well outcome _ went.end fine goes.printed
goes-well meaning (prints variables lists all) first last went goes fine =
    printed-well _ _ went.end fine goes.printed
goes-well meaning (audits env made order) first last went (inl unplanned) fine =
    inr (inr (unrefused-hinders unplanned.fault went.end fine (end-of-unbuilt went _ unplanned.is)))
goes-well meaning (audits env made order) first last went (inr audited) fine =
    audited-well audited.outcome first.out last.out went.end audited.tells
goes-well meaning (explains made flags) first last went (inl unplanned) fine =
    inr (unrefused-hinders unplanned.fault went.end fine (end-of-unbuilt went _ unplanned.is))
goes-well meaning (explains made flags) first last went (inr explained) fine =
    explained-well meaning made flags first last went explained fine
goes-well meaning (queries made flags) first last went (inl unplanned) fine =
    inr (inr (unrefused-hinders unplanned.fault went.end fine (end-of-unbuilt went _ unplanned.is)))
goes-well meaning (queries made flags) first last went (inr queried) fine =
    queried-well queried.nodes queried.result went.end fine queried.end
goes-well meaning (shows made flags) first last went (inl unplanned) fine =
    inr (unrefused-hinders unplanned.fault went.end fine (end-of-unbuilt went _ unplanned.is))
goes-well meaning (shows made flags) first last went (inr shown) fine =
    shown-well _ shown.nodes shown.result went.end _ _ fine shown.shown.failure shown.shown.stands shown.end
goes-well meaning (builds made flags) first last went (inl unplanned) fine =
    inr (unrefused-hinders unplanned.fault went.end fine (end-of-unbuilt went _ unplanned.is))
goes-well meaning (builds made flags) first last went (inr built) fine =
    let one = built.built.true_build.build in
    built-well _ built.nodes built.result went.end _ _ fine one.failure one.stands built.end

-- a failed write of the line of the end is in the way
hindered-well : (meant : Meant) (end : End) → IsHindered end → EndsWell meant end
hindered-well (only outcome) end is = inr is
hindered-well (prints variables lists all) end is = inr is
hindered-well (audits env made order) end is = inr (inr is)
hindered-well (explains made flags) end is = inr is
hindered-well (queries made flags) end is = inr (inr is)
hindered-well (shows made flags) end is = inr is
hindered-well (builds made flags) end is = inr is

closed-well : (meant : Meant) (words : List (List ℕ)) (before end : End) (err : Held) → EndsWell meant before
    → Closed words before err end → EndsWell meant end
closed-well meant words before end err well (inl same) = subst (EndsWell meant) (sym same.0) well
closed-well meant words before end err well (inr cut) = hindered-well meant end (inr (inl cut.0))

pub completes : {meaning : Meaning} {words : List (List ℕ)} {env : Env} {order : Order} {first last : Point}
    {err : Held} {report : Report} → (run : IsOrderRun meaning words env order first last err report)
    → Completes run
completes {meaning} {words} {env} {order} {first} {last} {err} {report} run = λ made is fine.
    closed-well (by_reading env order run.followed.read) words run.went.end report.end _
    (goes-well meaning (by_reading env order run.followed.read) (point run.followed.read_at first.out) last run.went
    run.followed.goes fine) run.closed
