-- A run with `-n` shows the nodes that one with `--explain` tells of.
use Rattle.std.proofs.Common.{◌≡◌, ◌∙◌, ℕ, List, [], Option, Some, None, Result, Ok, Bool, true, false}
use Rattle.std.proofs.Common.{sym, ap, subst, refl}
use Rattle.mk_decision.specs.Decisions.{Work}
use Rattle.mk_decision.specs.Makers.{work_on}
use Rattle.mk_dry.specs.DryRuns.{IsDryRun}
use Rattle.mk_explain.specs.Turns.{IsExplained, SawFiles, looks_of}
use Rattle.mk_explain.specs.declared.reason.Reason.{Reason}
use Rattle.mk_graph.specs.declared.Made.{Made}
use Rattle.mk_plan.proofs.LookLemmas.{ByLooks-told}
use Rattle.mk_plan.proofs.PlanLawLemmas.{plans_reached}
use Rattle.mk_plan.proofs.PlanLemmas.{nodes_of-ordered}
use Rattle.mk_plan.specs.Facts.{lists_of}
use Rattle.mk_plan.specs.Plans.{are_ordered, planned}
use Rattle.mk_plan.specs.declared.fault.PlanFault.{PlanFault}
use Rattle.mk_plan.specs.declared.plan.PlanNode.{PlanNode}
use Rattle.mk_modes.specs.Explaining.{Explains}
use Rattle.mk_suffix.proofs.LookLemmas.{state_of-looks}
use Rattle.mk_trace.specs.Builds.{moment}
use Rattle.mk_trace.specs.declared.result.BuildResult.TheVariants as ended
use Rattle.mk_world.specs.Deeds.{Store}
use Rattle.mk_world.specs.History.{FileMap, State, contents, files_of, state_of}
use Rattle.mk_world.specs.Looks.{OnlyLooks}
use Rattle.mk_world.specs.Talks.{Meaning}
use Rattle.mk_world.specs.Told.{Told}
use Rattle.mk_world.specs.declared.history.History.{History}
use Rattle.mk_same.proofs.ShownLemmas.{shown-are-explained}
use Rattle.mk_same.specs.Judged.{AreAnswered}
use Rattle.mk_same.specs.Shown.{NoneAlways, under}
use Rattle.mk_same.specs.ShownRuns.{ShownRunsAreExplained}

-- where a world tells at the end of a part, it told at its beginning
record WasTold (mid : Option History) : Type 0 where
  history : History
  is : mid ≡ Some history

was-told : (Related : History → History → Type 0) (mid last : Option History) (new : History) → last ≡ Some new
    → Told mid last Related → WasTold mid
was-told Related mid last new is told = at mid (subst (λ l. Told mid l Related) is told)
  where
    at : (middle : Option History) → Told middle (Some new) Related → WasTold middle
    at None none = absurd none
    at (Some history) so = record { history = history; is = refl }

both-told : (Related : History → History → Type 0) (first last : Option History) (old new : History)
    → first ≡ Some old → last ≡ Some new → Told first last Related → Related old new
both-told Related first last old new begins ends told =
    subst (λ l. Told (Some old) l Related) ends (subst (λ f. Told f last Related) begins told)

same-nodes : (one other : List PlanNode)
    → ◌≡◌ {A = Result (List PlanNode) PlanFault} (Ok one) (Ok other) → one ≡ other
same-nodes one other is = cc

-- each plan is ordered
planned-ordered : (files : Store) (made : Made) (requested : List (List ℕ)) (query : Bool) (nodes : List PlanNode)
    → planned files made requested query ≡ Ok nodes → are_ordered 0 nodes ≡ true
planned-ordered files made requested query nodes is =
    let reached = plans_reached files made requested query nodes is in
    subst (λ l. are_ordered 0 l ≡ true) (sym reached.2.nodes_are)
    (nodes_of-ordered reached.0 query reached.2.order reached.2.whole.order_is)

-- an explanation by looks at files is one by the files as they stood before
explained-by : (meaning : Meaning) (before after : Option History) (old new : History) (files : FileMap) (work : Work)
    (reasons : List Reason) → before ≡ Some old → after ≡ Some new → (state_of old).files ≡ files
    → IsExplained (SawFiles meaning before after) work reasons → IsExplained (AreAnswered files) work reasons
explained-by meaning before after old new files work reasons begins ends same is = record {
  turns = is.turns;
  all = is.all;
  are = is.are;
  told = is.told;
  looked =
      let both = both-told _ before after old new begins ends is.looked.answered in
      subst (λ (f : FileMap). AreAnswered f (looks_of is.turns)) same both.1;
}

pub shown-runs : ShownRunsAreExplained
shown-runs meaning made shows tells first last begin end went other old new again later reasons alike here there
    same alone shown well plain told all =
    shown-are-explained meaning work shows (moment shown.planned_at first.out [])
    (moment last.history last.out went.events) planned_then.history new reasons
    (planned-ordered (files_of old) made shows.requested shows.query shown.nodes on_old.1) alike.say planned_then.is
    here.ends (ap (λ (s : State). s.children) (state_of-looks on_old.0) ∙ alone) dry.0 dry.1 explained
  where
    work : Work
    work = record (work_on shown.nodes made shows) { flags = tells }

    dry : (it : IsDryRun meaning (under shows work) ended.Done (moment shown.planned_at first.out [])
        (moment last.history last.out went.events)) × NoneAlways it.tasks
    dry =
        subst (λ r. (it : IsDryRun meaning (work_on shown.nodes made shows) r (moment shown.planned_at first.out [])
        (moment last.history last.out went.events)) × NoneAlways it.tasks) well (shown.shown, plain)

    planned_then : WasTold shown.planned_at
    planned_then = was-told _ shown.planned_at last.history new here.ends shown.shown.told

    explained_then : WasTold told.planned_at
    explained_then = was-told _ told.planned_at end.history later there.ends told.looked

    on_old : OnlyLooks old planned_then.history
        × (planned (files_of old) made shows.requested shows.query ≡ Ok shown.nodes)
    on_old = both-told _ first.history shown.planned_at old planned_then.history here.begins planned_then.is (ByLooks-told shown.planned)

    on_again : OnlyLooks again explained_then.history
        × (planned (files_of again) made tells.requested false ≡ Ok told.nodes)
    on_again =
        both-told _ begin.history told.planned_at again explained_then.history there.begins explained_then.is
        (ByLooks-told told.planned)

    nodes : told.nodes ≡ shown.nodes
    nodes = same-nodes told.nodes shown.nodes
        (sym on_again.1
        ∙ ap (λ (f : FileMap). planned (contents f) made tells.requested false) same
        ∙ ap (λ r. planned (files_of old) made r false) alike.requested
        ∙ ap (λ (q : Bool). planned (files_of old) made shows.requested q) (sym alike.no_query)
        ∙ on_old.1)

    files : (state_of explained_then.history).files ≡ (state_of planned_then.history).files
    files =
        ap (λ (s : State). s.files) (state_of-looks on_again.0)
        ∙ same
        ∙ sym (ap (λ (s : State). s.files) (state_of-looks on_old.0))

    saw : IsExplained (SawFiles meaning told.planned_at end.history) (work_on told.nodes made tells) reasons
    saw = subst (Explains meaning (work_on told.nodes made tells) told.planned_at end.history) all told.explains

    explained : IsExplained (AreAnswered (state_of planned_then.history).files) work reasons
    explained =
        subst (λ r. IsExplained (AreAnswered (state_of planned_then.history).files)
        (record (work_on shown.nodes made tells) { lists = lists_of made r }) reasons) alike.requested
        (subst (λ n. IsExplained (AreAnswered (state_of planned_then.history).files) (work_on n made tells) reasons)
        nodes (explained-by meaning told.planned_at end.history explained_then.history later
        (state_of planned_then.history).files (work_on told.nodes made tells) reasons explained_then.is there.ends
        files saw))
