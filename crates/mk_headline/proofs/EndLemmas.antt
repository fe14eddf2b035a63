-- Builds that are over leave what the clean build leaves.
use Rattle.std.proofs.Common.{◌≡◌, ◌∙◌, ℕ, ◌<◌, ◌&&◌, not, List, length, get_or, slice_get, Option, Some, None, Bool, true, false}
use Rattle.std.proofs.Common.{refl, sym, ap, subst, arith}
use Rattle.mk_clean.proofs.BesideLemmas.{builds_clean}
use Rattle.mk_clean.proofs.StepLemmas.{steps_clean}
use Rattle.mk_clean.specs.Clean.{cleared}
use Rattle.mk_clean.specs.Same.{HasCleanFiles}
use Rattle.mk_decision.specs.Decisions.{Work}
use Rattle.mk_decision.specs.Makers.{jobs_of}
use Rattle.mk_graph.specs.Walks.{is_among}
use Rattle.mk_headline.proofs.ApartLemmas.{keep_apart}
use Rattle.mk_headline.proofs.FullLemmas.{full_turns}
use Rattle.mk_headline.proofs.GoodLemmas.{none-failed, sound-all}
use Rattle.mk_headline.proofs.PastLemmas.{settled-at}
use Rattle.mk_headline.proofs.PlanLemmas.{length-before, are-well-made, before-less, clean-node, job-has}
use Rattle.mk_headline.specs.Laws.{BuildsAreClean, DoneBuildsAreClean, IsClean, IsReadyBuild}
use Rattle.mk_headline.specs.Plans.{clean_plan}
use Rattle.mk_headline.specs.Premises.{IsWellMade}
use Rattle.mk_plan.specs.declared.plan.NodeState.TheVariants.{Undecided, Settled}
use Rattle.mk_sched.proofs.StartLemmas.{predecessors-at}
use Rattle.mk_sched.specs.Schedule.{predecessors}
use Rattle.mk_trace.proofs.ItemLemmas.{failure-events, run-events, run-legal}
use Rattle.mk_trace.proofs.RunLemmas.{over_settled}
use Rattle.mk_trace.proofs.TrueLemmas.{meta_files_true}
use Rattle.mk_trace.specs.Builds.{Makes, event_of, first_build, build_after_all, rules_of}
use Rattle.mk_trace.specs.Calls.{GivesUpLast}
use Rattle.mk_trace.specs.Ends.{IsOver}
use Rattle.mk_trace.specs.Items.{Item, reported_all, Happened}
use Rattle.mk_plan.specs.Deciding.{is_stopped}
use Rattle.mk_trace.specs.RunLaws.{StandBehind}
use Rattle.mk_trace.specs.Runs as run
use Rattle.mk_trace.specs.declared.event.Event.{Event}
use Rattle.mk_world.specs.History.{files_of}
use Rattle.mk_world.specs.Talks.{Meaning}
use Rattle.mk_world.specs.Told.{Told}
use Rattle.mk_world.specs.declared.history.History.{History}

-- all nodes are settled

stand-behind : (work : Work) → IsWellMade work → StandBehind (predecessors work.plan)
stand-behind work well node one among =
    let less = before-less work.plan 0 node one well.ordered
    (subst (λ l. is_among l one ≡ true) (predecessors-at work.plan node) among) in
    omega (arith, less)

no-event : (next : Option Event) → None ≡ run.or_next None next → next ≡ None
no-event next is = sym is

pub all-settled : (work : Work) (tasks : run.Tasks) (items : List Item) → IsWellMade work
    → Makes work tasks (first_build work) items → 0 < jobs_of work
    → IsOver work None (build_after_all work tasks (first_build work) items) → (n : ℕ)
    → n < length work.plan
    → slice_get (build_after_all work tasks (first_build work) items).run.nodes n ≡ Some Settled
all-settled work tasks items well makes room over n within =
    let events = reported_all items in
    let now = run-events work tasks (first_build work) items in
    let failure : run.first_failure tasks events ≡ None =
    no-event (run.first_failure tasks events)
    (ap event_of (sym over.failed) ∙ failure-events work tasks (first_build work) items) in
    let long : length (predecessors work.plan) ≡ length work.plan =
    length-before work.plan in
    settled-at _ n
    (ap (λ (s : run.State). get_or s.nodes n Undecided) now
    ∙ over_settled (rules_of work) tasks events
    (record {
      each = run-legal work tasks (first_build work) items makes;
      over = subst (run.IsOver (rules_of work)) now over.over;
    }) failure (stand-behind work well) room n (omega (arith, within, long)))

-- where nothing has failed, no failure has stopped the run
going : (work : Work) (tasks : run.Tasks) (items : List Item)
    → (build_after_all work tasks (first_build work) items).failure ≡ None
    → is_stopped (rules_of work) (build_after_all work tasks (first_build work) items).run.nodes ≡ false
going work tasks items well =
    rw (sound-all work tasks (first_build work) items (none-failed (rules_of work).before) well)
    (by (not (rules_of work).keep_going))
  where
    by : (stops : Bool) → (stops && false) ≡ false
    by true = refl
    by false = refl

pub ends_clean : BuildsAreClean
ends_clean meaning work tasks items old new ready makes happens last room over =
    let plan = clean_plan work tasks in
    let store = files_of old in
    let built = full_turns meaning work tasks items old new ready.lawful ready.idle ready.truth
    ready.well_made ready.mode ready.declared makes happens last in
    let well_made = are-well-made meaning work tasks store ready.well_made in
    let clean = builds_clean meaning plan store ready.declared well_made built.turns built.may
    (λ one among.
    built.settled_are (going work tasks items over.failed) one.node
    (all-settled work tasks items ready.well_made makes room over one.node
    (job-has work one.node (clean-node meaning plan plan.order (cleared plan store) one among)).0)) in
    let apart = keep_apart meaning work tasks items old new ready makes happens last in
    record {
      files = subst (HasCleanFiles meaning plan store) built.files clean;
      built = built;
      steps_are = steps_clean meaning plan store ready.declared well_made built.turns built.may;
      apart = apart;
      truth = meta_files_true meaning work tasks items old new ready.lawful ready.idle ready.truth makes happens
          last apart;
    }

told_clean : (meaning : Meaning) (work : Work) (tasks : run.Tasks) (items : List Item)
    (before after : Option History) → Makes work tasks (first_build work) items → GivesUpLast items
    → 0 < jobs_of work → IsOver work None (build_after_all work tasks (first_build work) items)
    → Told before after (Happened meaning items)
    → Told before after
    (λ old new. IsReadyBuild meaning work tasks old → IsClean meaning work tasks items old new)
told_clean meaning work tasks items before None makes last room over told = tt
told_clean meaning work tasks items None (Some new) makes last room over told = absurd told
told_clean meaning work tasks items (Some old) (Some new) makes last room over told =
    λ ready. ends_clean meaning work tasks items old new ready makes told last room over

pub done_clean : DoneBuildsAreClean
done_clean meaning work cut first last build room =
    told_clean meaning work build.tasks build.items first.history last.history build.makes build.gives_up room
    build.stands build.told
