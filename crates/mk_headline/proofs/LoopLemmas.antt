-- A whole build beside its turns.
use Rattle.std.proofs.Common.{◌≡◌, ◌∙◌, List, [], ◌∷◌, ◌++◌}
use Rattle.std.proofs.Common.{refl, sym, append_assoc}
use Rattle.mk_clean.specs.Clean.{Plan}
use Rattle.mk_clean.specs.Turns as turn
use Rattle.mk_clean.specs.Turns.{Turn, after_turns}
use Rattle.mk_decision.specs.Decisions.{Work}
use Rattle.mk_headline.proofs.GoodLemmas.{Good, good-next}
use Rattle.mk_headline.proofs.PastLemmas.{none-first}
use Rattle.mk_headline.proofs.LateLemmas.{Turned, turned-more}
use Rattle.mk_headline.proofs.TurnLemmas.{Turning}
use Rattle.mk_headline.specs.Plans.{clean_plan}
use Rattle.mk_headline.specs.Premises.{IsWellMade}
use Rattle.mk_trace.specs.Builds.{Build, Makes, build_after}
use Rattle.mk_trace.specs.Calls.{NoneLeft}
use Rattle.mk_trace.specs.Items.{Item, happened, happened_all, Fits, FitsAll}
use Rattle.mk_trace.specs.Runs as run
use Rattle.mk_world.proofs.CallLemmas.{MayAll-parts}
use Rattle.mk_world.specs.History.{State as Stand, MayAll as MayHappen, after_all as stand_after}
use Rattle.mk_world.specs.Talks.{Meaning}

module _ (meaning : Meaning) (work : Work) (tasks : run.Tasks) (entry : Stand)
    (idle : entry.children ≡ []) (well : IsWellMade work) (whole : List Item)
    (Extra : List Item → Build → Stand → turn.Build → Type 0) where
  abbrev plan : Plan
  plan = clean_plan work tasks

  -- one item more
  abbrev pub Steps : Type 0
  Steps =
      (done rest : List Item) (build : Build) (stand : Stand) (turns : List Turn) (clean : turn.Build)
      (item : Item) → whole ≡ done ++ item ∷ rest
      → Good meaning work tasks entry idle well done build stand turns clean
      → Extra done build stand clean → Makes work tasks build (item ∷ [])
      → MayHappen meaning stand (happened item) → Fits meaning stand item → NoneLeft (item ∷ [])
      → (now : Turning meaning work tasks build stand clean item)
      × Extra (done ++ item ∷ []) (build_after work tasks build item) (stand_after stand (happened item))
      (after_turns plan clean now.now)

  pub turned-all : Steps → (items done : List Item) (build : Build) (stand : Stand) (turns : List Turn)
      (clean : turn.Build) → whole ≡ done ++ items
      → Good meaning work tasks entry idle well done build stand turns clean
      → Extra done build stand clean → Makes work tasks build items
      → MayHappen meaning stand (happened_all items) → FitsAll meaning stand items → NoneLeft items
      → Turned meaning work tasks build stand clean items
  turned-all step [] done build stand turns clean is good extra makes may fits none = record {
    turns = [];
    are = refl;
    may = tt;
    files = sym good.files;
    nodes = good.nodes;
  }
  turned-all step (item ∷ items) done build stand turns clean is good extra makes may fits none =
      let parts = MayAll-parts meaning stand (happened item) (happened_all items) may in
      let nones = none-first item items none in
      let one_makes : Makes work tasks build (item ∷ []) = (makes.0, makes.1, makes.2, tt) in
      let next = step done items build stand turns clean item is good extra one_makes parts.0 fits.0 nones.0 in
      let good_then = good-next meaning work tasks entry idle well done build stand turns clean item good
      one_makes parts.0 fits.0 nones.0 next.0 in
      let rest = turned-all step items (done ++ item ∷ []) (build_after work tasks build item)
      (stand_after stand (happened item)) (turns ++ next.0.now) (after_turns plan clean next.0.now)
      (is ∙ sym (append_assoc done (item ∷ []) items)) good_then next.1 makes.3 parts.1 fits.1 nones.1 in
      turned-more meaning work tasks build stand clean item items next.0 rest
