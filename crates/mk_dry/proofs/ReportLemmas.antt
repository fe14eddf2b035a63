-- The report of a dry run, as that of a build.
use Rattle.std.proofs.Common.{◌≡◌, ◌∙◌, ℕ, List, [], ◌∷◌, ◌++◌, Option, Some, None, true, false}
use Rattle.std.proofs.Common.{refl, sym, ap, subst}
use Rattle.std.proofs.lemmas.List.{append-nil}
use Rattle.mk_decision.specs.Decisions.{Work}
use Rattle.mk_plan.specs.Deciding.{Rules}
use Rattle.mk_trace.specs.Builds.{Build, event_of, first_build}
use Rattle.mk_trace.specs.Items as build
use Rattle.mk_trace.specs.Items.{Item, looks, keeps, refuses, starts, passes, waits, steps, ends, changes, leaves}
use Rattle.mk_trace.specs.Runs as run
use Rattle.mk_trace.specs.Runs.{Due, anything, child, line, close}
use Rattle.mk_trace.specs.declared.event.Event.{Event}
use Rattle.mk_trace.specs.declared.event.Event.TheVariants.{Start, End}
use Rattle.mk_trace.specs.declared.result.BuildResult.{BuildResult}
use Rattle.mk_trace.specs.declared.result.BuildResult.TheVariants as ended
use Rattle.mk_trace.specs.declared.result.Failure.{Failure}
use Rattle.mk_trace.proofs.ItemLemmas as trace
use Rattle.mk_dry.specs.DryRuns.{StandsBy}
use Rattle.mk_dry.specs.Items.{DryItem, does, shows, announces, dry_tasks, in_build, in_build_all, reported, reported_all}
use Rattle.mk_dry.specs.Reports.{AreAnnounced, IsRunBy, as_build, starts_line}
use Rattle.mk_dry.specs.Runs.{Dry, Makes, dry_after, dry_after_all, failed_after}

-- a dry run is a cut run, and its first failure is that of its report

after_all-append : (rules : Rules) (tasks : run.Tasks) (state : run.State) (events more : List Event)
    → run.after_all rules tasks state (events ++ more)
    ≡ run.after_all rules tasks (run.after_all rules tasks state events) more
after_all-append rules tasks state [] more = refl
after_all-append rules tasks state (event ∷ events) more =
    after_all-append rules tasks (run.after rules tasks state event) events more

MayAll-append : (rules : Rules) (tasks : run.Tasks) (state : run.State) (events more : List Event)
    → run.MayAll rules tasks state events
    → run.MayAll rules tasks (run.after_all rules tasks state events) more
    → run.MayAll rules tasks state (events ++ more)
MayAll-append rules tasks state [] more may then_may = then_may
MayAll-append rules tasks state (event ∷ events) more may then_may =
    (may.0, MayAll-append rules tasks (run.after rules tasks state event) events more may.1 then_may)

pub legal-all : (rules : Rules) (tasks : run.Tasks) (dry : Dry) (items : List DryItem)
    → Makes rules tasks dry items
    → run.MayAll rules (dry_tasks tasks) dry.run (build.reported_all (in_build_all items))
legal-all rules tasks dry [] makes = tt
legal-all rules tasks dry (item ∷ items) makes =
    subst (run.MayAll rules (dry_tasks tasks) dry.run)
    (sym (trace.reported_all-append (in_build item) (in_build_all items)))
    (MayAll-append rules (dry_tasks tasks) dry.run (build.reported_all (in_build item))
    (build.reported_all (in_build_all items)) makes.0
    (legal-all rules tasks (dry_after rules tasks dry item) items makes.2))

or_next-then : (first second third : Option Event)
    → run.or_next (run.or_next first second) third ≡ run.or_next first (run.or_next second third)
or_next-then None second third = refl
or_next-then (Some event) second third = refl

none-next : (event : Option Event) → run.or_next event None ≡ event
none-next None = refl
none-next (Some event) = refl

item-failure : (work : Work) (tasks : run.Tasks) (failure : Option Failure) (item : DryItem)
    → event_of (failed_after tasks failure item)
    ≡ run.or_next (event_of failure) (run.first_failure (dry_tasks tasks) (reported item))
item-failure work tasks failure (does item) =
    let from : Build = record (first_build work) { failure = failure } in
    trace.failure-events work (dry_tasks tasks) from (item ∷ [])
    ∙ ap (λ l. run.or_next (event_of failure) (run.first_failure (dry_tasks tasks) l))
    (append-nil (build.reported item))
item-failure work tasks failure (shows node number) = sym (none-next (event_of failure))
item-failure work tasks failure (announces node number) = sym (none-next (event_of failure))

pub failure-all : (rules : Rules) (work : Work) (tasks : run.Tasks) (dry : Dry) (items : List DryItem)
    → event_of (dry_after_all rules tasks dry items).failure
    ≡ run.or_next (event_of dry.failure) (run.first_failure (dry_tasks tasks) (reported_all items))
failure-all rules work tasks dry [] = sym (none-next (event_of dry.failure))
failure-all rules work tasks dry (item ∷ items) =
    let rest = run.first_failure (dry_tasks tasks) (reported_all items) in
    failure-all rules work tasks (dry_after rules tasks dry item) items
    ∙ (ap (λ e. run.or_next e rest) (item-failure work tasks dry.failure item)
    ∙ (or_next-then (event_of dry.failure) (run.first_failure (dry_tasks tasks) (reported item)) rest
    ∙ ap (run.or_next (event_of dry.failure))
    (sym (trace.first_failure-append (dry_tasks tasks) (reported item) (reported_all items)))))

-- where a line is shown that is not started, it begins and ends in a build

of-item : (tasks : run.Tasks) (item : Item) (more : List Event)
    → as_build tasks (build.reported item ++ more) ≡ build.reported item ++ as_build tasks more
of-item tasks (looks node seen) more = refl
of-item tasks (keeps node) more = refl
of-item tasks (refuses node number what) more = refl
of-item tasks (starts node number ticket owner cmd) more = refl
of-item tasks (passes node number) more = refl
of-item tasks waits more = refl
of-item tasks (steps ticket owner deed time) more = refl
of-item tasks (ends node number owner taken) more = refl
of-item tasks (changes node change) more = refl
of-item tasks (leaves ticket owner) more = refl

pub as-build-all : (rules : Rules) (tasks : run.Tasks) (dry : Dry) (items : List DryItem)
    → Makes rules tasks dry items
    → as_build tasks (reported_all items) ≡ build.reported_all (in_build_all items)
as-build-all rules tasks dry [] makes = refl
as-build-all rules tasks dry (does item ∷ items) makes =
    of-item tasks item (reported_all items)
    ∙ ap (λ l. build.reported item ++ l)
    (as-build-all rules tasks (dry_after rules tasks dry (does item)) items makes.2)
as-build-all rules tasks dry (shows node number ∷ items) makes =
    let unstarted : starts_line (run.line_of (tasks node) number) ≡ false =
    ap starts_line makes.1.line ∙ makes.1.is in
    rw unstarted (ap (λ l. Start node number ∷ End node number 0 ∷ l)
    (as-build-all rules tasks (dry_after rules tasks dry (shows node number)) items makes.2))
as-build-all rules tasks dry (announces node number ∷ items) makes =
    let started : starts_line (run.line_of (tasks node) number) ≡ true =
    ap starts_line makes.1.0.line ∙ makes.1.0.is in
    rw started (as-build-all rules tasks (dry_after rules tasks dry (announces node number)) items makes.2)

-- how the run of a dry run stands
pub run-all : (rules : Rules) (tasks : run.Tasks) (dry : Dry) (items : List DryItem)
    → (dry_after_all rules tasks dry items).run
    ≡ run.after_all rules (dry_tasks tasks) dry.run (build.reported_all (in_build_all items))
run-all rules tasks dry [] = refl
run-all rules tasks dry (item ∷ items) =
    run-all rules tasks (dry_after rules tasks dry item) items
    ∙ sym (ap (run.after_all rules (dry_tasks tasks) dry.run)
    (trace.reported_all-append (in_build item) (in_build_all items))
    ∙ after_all-append rules (dry_tasks tasks) dry.run (build.reported_all (in_build item))
    (build.reported_all (in_build_all items)))

-- a dry run that is over is a legal run
pub legal-by : (rules : Rules) (tasks : run.Tasks) (result : BuildResult) (dry : Dry) (events : List Event)
    → run.IsCutRun rules tasks events → dry.run ≡ run.after_all rules tasks (run.first_state rules) events
    → StandsBy rules result dry → IsRunBy result rules tasks events
legal-by rules tasks ended.Done dry events cut same stands =
    record { each = cut; over = subst (run.IsOver rules) same stands.over }
legal-by rules tasks (ended.JobFailed n number status) dry events cut same stands =
    record { each = cut; over = subst (run.IsOver rules) same stands.over }
legal-by rules tasks (ended.Expand n number what) dry events cut same stands =
    record { each = cut; over = subst (run.IsOver rules) same stands.over }
legal-by rules tasks ended.World dry events cut same stands = cut
legal-by rules tasks ended.Sink dry events cut same stands = cut
legal-by rules tasks ended.NoMemory dry events cut same stands = cut

-- Where a line is announced, it is the one that was shown last, has `+`, and may be started.
abbrev IsPending : Rules → run.Tasks → run.State → Option (ℕ × ℕ) → Option (ℕ × ℕ) → Type 0
IsPending rules tasks state None shown = Unit {0}
IsPending rules tasks state (Some one) shown =
    (shown ≡ Some one) × (starts_line (run.line_of (tasks one.0) one.1) ≡ true)
    × run.MayStart rules (dry_tasks tasks) state one.0 one.1 state.due

none-pending : (rules : Rules) (tasks : run.Tasks) (state : run.State) (announced shown : Option (ℕ × ℕ))
    → announced ≡ None → IsPending rules tasks state announced shown
none-pending rules tasks state None shown is = tt
none-pending rules tasks state (Some one) shown is = absurd cc

start-never-ends : (rules : Rules) (tasks : run.Tasks) (state : run.State) (due : Due)
    (node number other last status : ℕ) → run.MayStart rules tasks state node number due
    → run.MayEnd state other last status due → ⊥
start-never-ends rules tasks state anything node number other last status may ends_now = ends_now
start-never-ends rules tasks state child node number other last status may ends_now = may
start-never-ends rules tasks state (line one next) node number other last status may ends_now = ends_now
start-never-ends rules tasks state (close one next) node number other last status may ends_now = may

-- an end of a line stands behind no announcement
end-pending : (rules : Rules) (tasks : run.Tasks) (state next : run.State) (announced shown : Option (ℕ × ℕ))
    (node number status : ℕ) → IsPending rules tasks state announced shown
    → run.MayEnd state node number status state.due → IsPending rules tasks next announced None
end-pending rules tasks state next None shown node number status pending may = tt
end-pending rules tasks state next (Some one) shown node number status pending may =
    absurd (start-never-ends rules (dry_tasks tasks) state state.due one.0 one.1 node number status pending.2 may)

-- each line that is started was shown directly before
pub announced-all : (rules : Rules) (tasks : run.Tasks) (dry : Dry) (shown : Option (ℕ × ℕ))
    (items : List DryItem) → IsPending rules tasks dry.run dry.announced shown → Makes rules tasks dry items
    → AreAnnounced tasks shown (reported_all items)
announced-all rules tasks dry shown [] pending makes = tt
announced-all rules tasks dry shown (does (looks node seen) ∷ items) pending makes =
    announced-all rules tasks (dry_after rules tasks dry (does (looks node seen))) shown items pending makes.2
announced-all rules tasks dry shown (does (keeps node) ∷ items) pending makes =
    let next = dry_after rules tasks dry (does (keeps node)) in
    announced-all rules tasks next None items (none-pending rules tasks next.run dry.announced None makes.1.0)
    makes.2
announced-all rules tasks dry shown (does (refuses node number what) ∷ items) pending makes =
    let next = dry_after rules tasks dry (does (refuses node number what)) in
    announced-all rules tasks next None items (none-pending rules tasks next.run dry.announced None makes.1.0)
    makes.2
announced-all rules tasks dry shown (does (starts node number ticket owner cmd) ∷ items) pending makes =
    let next = dry_after rules tasks dry (does (starts node number ticket owner cmd)) in
    let here = subst (λ one. IsPending rules tasks dry.run one shown) makes.1.0 pending in
    (here.0, here.1, announced-all rules tasks next None items tt makes.2)
announced-all rules tasks dry shown (does (passes node number) ∷ items) pending makes = absurd makes.1
announced-all rules tasks dry shown (does waits ∷ items) pending makes =
    let next = dry_after rules tasks dry (does waits) in
    announced-all rules tasks next None items (none-pending rules tasks next.run dry.announced None makes.1)
    makes.2
announced-all rules tasks dry shown (does (steps ticket owner deed time) ∷ items) pending makes =
    announced-all rules tasks (dry_after rules tasks dry (does (steps ticket owner deed time))) shown items
    pending makes.2
announced-all rules tasks dry shown (does (ends node number owner taken) ∷ items) pending makes =
    let next = dry_after rules tasks dry (does (ends node number owner taken)) in
    announced-all rules tasks next None items
    (end-pending rules tasks dry.run next.run dry.announced shown node number taken.status pending makes.0.0)
    makes.2
announced-all rules tasks dry shown (does (changes node change) ∷ items) pending makes = absurd makes.1
announced-all rules tasks dry shown (does (leaves ticket owner) ∷ items) pending makes =
    announced-all rules tasks (dry_after rules tasks dry (does (leaves ticket owner))) shown items pending
    makes.2
announced-all rules tasks dry shown (shows node number ∷ items) pending makes =
    let next = dry_after rules tasks dry (shows node number) in
    announced-all rules tasks next (Some (node, number)) items
    (none-pending rules tasks next.run dry.announced (Some (node, number)) makes.1.free) makes.2
announced-all rules tasks dry shown (announces node number ∷ items) pending makes =
    announced-all rules tasks (dry_after rules tasks dry (announces node number)) (Some (node, number)) items
    (refl, ap starts_line makes.1.0.line ∙ makes.1.0.is, makes.1.1) makes.2
