-- Items that follow others.
use Rattle.std.proofs.Common.{◌≡◌, ◌∙◌, ℕ, List, [], ◌∷◌, ◌++◌, Option, Some, None, Bool, true, false, if◌then◌else◌}
use Rattle.std.proofs.Common.{refl, sym, ap, subst, append_assoc}
use Rattle.std.proofs.lemmas.List.{append-nil}
use Rattle.mk_world.specs.History.{State as Stand, MayAll as MayHappen, after_all as stand_after, state_of, first_state}
use Rattle.mk_world.specs.Talks.{Meaning}
use Rattle.mk_world.specs.Told.{Told}
use Rattle.mk_world.specs.declared.history.History.{History}
use Rattle.mk_world.proofs.CallLemmas.{after_all-append, MayAll-append}
use Rattle.mk_decision.specs.Decisions.{Work}
use Rattle.mk_trace.specs.Builds.{Build, Makes, build_after, build_after_all, rules_of, failure_after, or_next, event_of}
use Rattle.mk_trace.specs.Items.{Item, looks, keeps, refuses, starts, passes, waits, steps, ends, changes, leaves, reported, reported_all, happened, happened_all, output_of, outputs_of, FitsAll, Happened}
use Rattle.mk_trace.specs.Runs as run
use Rattle.mk_trace.specs.declared.event.Event.{Event}
use Rattle.mk_trace.specs.declared.event.Event.TheVariants.{End}
use Rattle.mk_trace.specs.declared.result.Failure.{Failure}
use Rattle.mk_trace.specs.declared.result.Failure.TheVariants.{JobFailed, Expand}

pub reported_all-append : (items more : List Item)
    → reported_all (items ++ more) ≡ reported_all items ++ reported_all more
reported_all-append [] more = refl
reported_all-append (item ∷ items) more =
    ap (λ l. reported item ++ l) (reported_all-append items more)
    ∙ sym (append_assoc (reported item) (reported_all items) (reported_all more))

pub happened_all-append : (items more : List Item)
    → happened_all (items ++ more) ≡ happened_all items ++ happened_all more
happened_all-append [] more = refl
happened_all-append (item ∷ items) more =
    ap (λ l. happened item ++ l) (happened_all-append items more)
    ∙ sym (append_assoc (happened item) (happened_all items) (happened_all more))

pub outputs_of-append : (items more : List Item)
    → outputs_of (items ++ more) ≡ outputs_of items ++ outputs_of more
outputs_of-append [] more = refl
outputs_of-append (item ∷ items) more =
    ap (λ l. output_of item ++ l) (outputs_of-append items more)
    ∙ sym (append_assoc (output_of item) (outputs_of items) (outputs_of more))

pub FitsAll-append : (meaning : Meaning) (stand : Stand) (items more : List Item)
    → FitsAll meaning stand items → FitsAll meaning (stand_after stand (happened_all items)) more
    → FitsAll meaning stand (items ++ more)
FitsAll-append meaning stand [] more fits then_fits = then_fits
FitsAll-append meaning stand (item ∷ items) more fits then_fits = (
  fits.0,
  FitsAll-append meaning (stand_after stand (happened item)) items more fits.1
      (subst (λ s. FitsAll meaning s more)
      (after_all-append stand (happened item) (happened_all items)) then_fits),
)

pub state_of-happened : (meaning : Meaning) (items : List Item) (old new : History)
    → Happened meaning items old new
    → state_of new ≡ stand_after (state_of old) (happened_all items)
state_of-happened meaning items old new h =
    ap (λ base. stand_after (first_state base) new.events) h.base
    ∙ (ap (λ events. stand_after (first_state old.base) events) h.events
    ∙ after_all-append (first_state old.base) old.events (happened_all items))

pub Happened-none : (meaning : Meaning) (h : History) → Happened meaning [] h h
Happened-none meaning h =
    record { base = refl; events = sym (append-nil h.events); lawful = tt; fits = tt }

pub Happened-then : (meaning : Meaning) (items more : List Item) (x y z : History)
    → Happened meaning items x y → Happened meaning more y z → Happened meaning (items ++ more) x z
Happened-then meaning items more x y z first second =
    let stands = state_of-happened meaning items x y first in
    record {
      base = second.base ∙ first.base;
      events =
          second.events ∙ (ap (λ l. l ++ happened_all more) first.events
          ∙ (append_assoc x.events (happened_all items) (happened_all more)
          ∙ ap (λ l. x.events ++ l) (sym (happened_all-append items more))));
      lawful = subst (MayHappen meaning (state_of x)) (sym (happened_all-append items more))
          (MayAll-append meaning (state_of x) (happened_all items) (happened_all more) first.lawful
          (subst (λ s. MayHappen meaning s (happened_all more)) stands second.lawful));
      fits = FitsAll-append meaning (state_of x) items more first.fits
          (subst (λ s. FitsAll meaning s more) stands second.fits);
    }

pub told-none : (meaning : Meaning) (told : Option History) → Told told told (Happened meaning [])
told-none meaning None = tt
told-none meaning (Some h) = Happened-none meaning h

pub told-then : (meaning : Meaning) (items more : List Item) (x y z : Option History)
    → Told x y (Happened meaning items) → Told y z (Happened meaning more)
    → Told x z (Happened meaning (items ++ more))
told-then meaning items more x y None first second = tt
told-then meaning items more x None (Some c) first second = absurd second
told-then meaning items more None (Some b) (Some c) first second = absurd first
told-then meaning items more (Some a) (Some b) (Some c) first second =
    Happened-then meaning items more a b c first second

pub build_after_all-append : (work : Work) (tasks : run.Tasks) (build : Build)
    (items more : List Item)
    → build_after_all work tasks build (items ++ more)
    ≡ build_after_all work tasks (build_after_all work tasks build items) more
build_after_all-append work tasks build [] more = refl
build_after_all-append work tasks build (item ∷ items) more =
    build_after_all-append work tasks (build_after work tasks build item) items more

pub Makes-append : (work : Work) (tasks : run.Tasks) (build : Build) (items more : List Item)
    → Makes work tasks build items
    → Makes work tasks (build_after_all work tasks build items) more
    → Makes work tasks build (items ++ more)
Makes-append work tasks build [] more makes then_makes = then_makes
Makes-append work tasks build (item ∷ items) more makes then_makes = (
  makes.0,
  makes.1,
  makes.2,
  Makes-append work tasks (build_after work tasks build item) items more makes.3 then_makes,
)

run_after_all-append : (work : Work) (tasks : run.Tasks) (state : run.State)
    (events more : List Event)
    → run.after_all (rules_of work) tasks state (events ++ more)
    ≡ run.after_all (rules_of work) tasks (run.after_all (rules_of work) tasks state events) more
run_after_all-append work tasks state [] more = refl
run_after_all-append work tasks state (event ∷ events) more =
    run_after_all-append work tasks (run.after (rules_of work) tasks state event) events more

run_MayAll-append : (work : Work) (tasks : run.Tasks) (state : run.State)
    (events more : List Event) → run.MayAll (rules_of work) tasks state events
    → run.MayAll (rules_of work) tasks (run.after_all (rules_of work) tasks state events) more
    → run.MayAll (rules_of work) tasks state (events ++ more)
run_MayAll-append work tasks state [] more may then_may = then_may
run_MayAll-append work tasks state (event ∷ events) more may then_may = (
  may.0,
  run_MayAll-append work tasks (run.after (rules_of work) tasks state event) events more may.1
      then_may,
)

-- the run of a build is that of its events
pub run-events : (work : Work) (tasks : run.Tasks) (build : Build) (items : List Item)
    → (build_after_all work tasks build items).run
    ≡ run.after_all (rules_of work) tasks build.run (reported_all items)
run-events work tasks build [] = refl
run-events work tasks build (item ∷ items) =
    run-events work tasks (build_after work tasks build item) items
    ∙ sym (run_after_all-append work tasks build.run (reported item) (reported_all items))

-- what is made by the rules is a cut run
pub run-legal : (work : Work) (tasks : run.Tasks) (build : Build) (items : List Item)
    → Makes work tasks build items
    → run.MayAll (rules_of work) tasks build.run (reported_all items)
run-legal work tasks build [] makes = tt
run-legal work tasks build (item ∷ items) makes =
    run_MayAll-append work tasks build.run (reported item) (reported_all items) makes.0
    (run-legal work tasks (build_after work tasks build item) items makes.3)

or_next-then : (first second third : Option Event)
    → run.or_next (run.or_next first second) third ≡ run.or_next first (run.or_next second third)
or_next-then None second third = refl
or_next-then (Some event) second third = refl

event_of-next : (first second : Option Failure)
    → event_of (or_next first second) ≡ run.or_next (event_of first) (event_of second)
event_of-next None second = refl
event_of-next (Some (JobFailed node number status)) second = refl
event_of-next (Some (Expand node number what)) second = refl

none-next : (event : Option Event) → run.or_next event None ≡ event
none-next None = refl
none-next (Some event) = refl

end-event : (failure : Option Failure) (node number status : ℕ) (fails : Bool)
    → event_of (if fails then or_next failure (Some (JobFailed node number status)) else failure)
    ≡ run.or_next (event_of failure)
    (run.or_next (if fails then Some (End node number status) else None) None)
end-event failure node number status true = event_of-next failure (Some (JobFailed node number status))
end-event failure node number status false = sym (none-next (event_of failure))

-- the first failure behind an item, by the events of the item
item-failure : (tasks : run.Tasks) (failure : Option Failure) (item : Item)
    → event_of (failure_after tasks failure item)
    ≡ run.or_next (event_of failure) (run.first_failure tasks (reported item))
item-failure tasks failure (looks node seen) = sym (none-next (event_of failure))
item-failure tasks failure (keeps node) = sym (none-next (event_of failure))
item-failure tasks failure (refuses node number what) =
    event_of-next failure (Some (Expand node number what))
item-failure tasks failure (starts node number ticket owner cmd) = sym (none-next (event_of failure))
item-failure tasks failure (passes node number) = sym (none-next (event_of failure))
item-failure tasks failure waits = sym (none-next (event_of failure))
item-failure tasks failure (steps ticket owner deed time) = sym (none-next (event_of failure))
item-failure tasks failure (ends node number owner ended) =
    end-event failure node number ended.status
    (run.fails (run.line_of (tasks node) number) ended.status)
item-failure tasks failure (changes node change) = sym (none-next (event_of failure))
item-failure tasks failure (leaves ticket owner) = sym (none-next (event_of failure))

pub first_failure-append : (tasks : run.Tasks) (events more : List Event)
    → run.first_failure tasks (events ++ more)
    ≡ run.or_next (run.first_failure tasks events) (run.first_failure tasks more)
first_failure-append tasks [] more = refl
first_failure-append tasks (event ∷ events) more =
    ap (run.or_next (run.failure_of tasks event)) (first_failure-append tasks events more)
    ∙ sym (or_next-then (run.failure_of tasks event) (run.first_failure tasks events)
    (run.first_failure tasks more))

-- the first failure of a build is the first failing event of its report
pub failure-events : (work : Work) (tasks : run.Tasks) (build : Build) (items : List Item)
    → event_of (build_after_all work tasks build items).failure
    ≡ run.or_next (event_of build.failure) (run.first_failure tasks (reported_all items))
failure-events work tasks build [] = sym (none-next (event_of build.failure))
failure-events work tasks build (item ∷ items) =
    let rest = run.first_failure tasks (reported_all items) in
    failure-events work tasks (build_after work tasks build item) items
    ∙ (ap (λ e. run.or_next e rest) (item-failure tasks build.failure item)
    ∙ (or_next-then (event_of build.failure) (run.first_failure tasks (reported item)) rest
    ∙ ap (run.or_next (event_of build.failure))
    (sym (first_failure-append tasks (reported item) (reported_all items)))))
