-- How a build came to stand so, and what is settled in it.
use Rattle.std.proofs.Common.{◌≡◌, ◌≢◌, ◌∙◌, ℕ, zero, suc, List, [], ◌∷◌, ◌++◌, get_or, set, slice_get, Some}
use Rattle.std.proofs.Common.{refl, sym, ap, subst, arith}
use Rattle.std.proofs.lemmas.List.{append-nil, get_or-set_same, get_or-set_other}
use Rattle.std.proofs.lemmas.Option.{slice_get_within}
use Rattle.mk_clean.specs.Clean.{DependsOn}
use Rattle.mk_decision.specs.Decisions.{Work}
use Rattle.mk_headline.proofs.PlanLemmas.{depends-reaches, depends-less}
use Rattle.mk_headline.specs.Plans.{clean_plan}
use Rattle.mk_headline.specs.Premises.{IsWellMade}
use Rattle.mk_plan.specs.Deciding.{Rules}
use Rattle.mk_plan.specs.declared.plan.NodeState.{NodeState}
use Rattle.mk_plan.specs.declared.plan.NodeState.TheVariants.{Undecided, Settled}
use Rattle.mk_trace.proofs.BegunLemmas.{may-undecided}
use Rattle.mk_trace.proofs.ItemLemmas.{build_after_all-append, happened_all-append, FitsAll-append, Makes-append, run-events, run-legal}
use Rattle.mk_trace.proofs.RunLemmas.{decided_settled}
use Rattle.mk_trace.proofs.TogetherLemmas.{children_belong}
use Rattle.mk_trace.specs.Builds.{Build, Makes, first_build, build_after, build_after_all, rules_of}
use Rattle.mk_trace.specs.Calls.{NoneLeft}
use Rattle.mk_trace.specs.Items.{Item, looks, keeps, refuses, starts, passes, waits, steps, ends, changes, leaves, happened, happened_all, reported_all, Fits, FitsAll}
use Rattle.mk_trace.specs.Runs as run
use Rattle.mk_trace.specs.Together.{AreTogether}
use Rattle.mk_trace.specs.declared.event.Event.{Event}
use Rattle.mk_trace.specs.declared.event.Event.TheVariants.{Kept}
use Rattle.mk_world.proofs.CallLemmas.{after_all-append, MayAll-append}
use Rattle.mk_world.specs.History.{State as Stand, MayAll as MayHappen, after_all as stand_after}
use Rattle.mk_world.specs.Talks.{Meaning}

none-last : (done : List Item) (item : Item) → NoneLeft done → NoneLeft (item ∷ []) → NoneLeft (done ++ item ∷ [])
none-last [] item none more = more
none-last (looks n seen ∷ done) item none more = none-last done item none more
none-last (keeps n ∷ done) item none more = none-last done item none more
none-last (refuses n number what ∷ done) item none more = none-last done item none more
none-last (starts n number ticket owner cmd ∷ done) item none more = none-last done item none more
none-last (passes n number ∷ done) item none more = none-last done item none more
none-last (waits ∷ done) item none more = none-last done item none more
none-last (steps ticket owner deed time ∷ done) item none more = none-last done item none more
none-last (ends n number owner one ∷ done) item none more = none-last done item none more
none-last (changes n change ∷ done) item none more = none-last done item none more
none-last (leaves ticket owner ∷ done) item none more = absurd none

pub none-first : (item : Item) (items : List Item) → NoneLeft (item ∷ items) → NoneLeft (item ∷ []) × NoneLeft items
none-first (looks n seen) items none = (tt, none)
none-first (keeps n) items none = (tt, none)
none-first (refuses n number what) items none = (tt, none)
none-first (starts n number ticket owner cmd) items none = (tt, none)
none-first (passes n number) items none = (tt, none)
none-first waits items none = (tt, none)
none-first (steps ticket owner deed time) items none = (tt, none)
none-first (ends n number owner one) items none = (tt, none)
none-first (changes n change) items none = (tt, none)
none-first (leaves ticket owner) items none = absurd none

-- one run behind the other

run-append : (rules : Rules) (tasks : run.Tasks) (state : run.State) (events more : List Event)
    → run.after_all rules tasks state (events ++ more)
    ≡ run.after_all rules tasks (run.after_all rules tasks state events) more
run-append rules tasks state [] more = refl
run-append rules tasks state (event ∷ events) more =
    run-append rules tasks (run.after rules tasks state event) events more

may-run : (rules : Rules) (tasks : run.Tasks) (state : run.State) (events more : List Event)
    → run.MayAll rules tasks state events
    → run.MayAll rules tasks (run.after_all rules tasks state events) more
    → run.MayAll rules tasks state (events ++ more)
may-run rules tasks state [] more may later = later
may-run rules tasks state (event ∷ events) more may later =
    (may.0, may-run rules tasks (run.after rules tasks state event) events more may.1 later)

pub settled-at : (nodes : List NodeState) (n : ℕ) → get_or nodes n Undecided ≡ Settled
    → slice_get nodes n ≡ Some Settled
settled-at [] n is = absurd cc
settled-at (one ∷ nodes) zero is = ap Some is
settled-at (one ∷ nodes) (suc n) is = settled-at nodes n is

module _ (meaning : Meaning) (work : Work) (tasks : run.Tasks) (entry : Stand)
    (idle : entry.children ≡ []) where
  pub record Past (done : List Item) (build : Build) (stand : Stand) : Type 0 where
    pub at : build_after_all work tasks (first_build work) done ≡ build
    pub stand_at : stand_after entry (happened_all done) ≡ stand
    pub makes : Makes work tasks (first_build work) done
    pub happens : MayHappen meaning entry (happened_all done)
    pub fits : FitsAll meaning entry done
    pub none : NoneLeft done

  pub past-more : (done : List Item) (build : Build) (stand : Stand) (item : Item) → Past done build stand
      → Makes work tasks build (item ∷ []) → MayHappen meaning stand (happened item)
      → Fits meaning stand item → NoneLeft (item ∷ [])
      → Past (done ++ item ∷ []) (build_after work tasks build item) (stand_after stand (happened item))
  past-more done build stand item past makes may fits none = record {
    at = build_after_all-append work tasks (first_build work) done (item ∷ [])
        ∙ ap (λ b. build_after work tasks b item) past.at;
    stand_at = ap (stand_after entry) (happened_all-append done (item ∷ []))
        ∙ (after_all-append entry (happened_all done) (happened item ++ [])
        ∙ rw (append-nil (happened item), past.stand_at) refl);
    makes = Makes-append work tasks (first_build work) done (item ∷ []) past.makes
        (subst (λ b. Makes work tasks b (item ∷ [])) (sym past.at) makes);
    happens = subst (MayHappen meaning entry) (sym (happened_all-append done (item ∷ [])))
        (MayAll-append meaning entry (happened_all done) (happened item ++ []) past.happens
        (subst (λ s. MayHappen meaning s (happened item ++ [])) (sym past.stand_at)
        (subst (MayHappen meaning stand) (sym (append-nil (happened item))) may)));
    fits = FitsAll-append meaning entry done (item ∷ []) past.fits
        (subst (λ s. FitsAll meaning s (item ∷ [])) (sym past.stand_at) (fits, tt));
    none = none-last done item past.none none;
  }

  pub together : (done : List Item) (build : Build) (stand : Stand) → Past done build stand
      → AreTogether work tasks build.run build.own stand.children
  together done build stand past =
      subst (λ (s : Stand). AreTogether work tasks build.run build.own s.children) past.stand_at
      (subst (λ (b : Build). AreTogether work tasks b.run b.own (stand_after entry (happened_all done)).children)
      past.at (children_belong meaning work tasks done entry idle past.makes past.happens past.fits past.none))

  -- what the node that may be decided depends on is settled
  pub sources-settled : (done : List Item) (build : Build) (stand : Stand) → IsWellMade work
      → Past done build stand → (n other : ℕ) → run.MayDecide (rules_of work) build.run n
      → DependsOn (clean_plan work tasks) n other → slice_get build.run.nodes other ≡ Some Settled
  sources-settled done build stand well past n other may depends =
      let rules = rules_of work in
      let first = run.first_state rules in
      let events = reported_all done in
      let now : run.after_all rules tasks first events ≡ build.run =
      sym (run-events work tasks (first_build work) done) ∙ ap (λ (b : Build). b.run) past.at in
      let cut : run.MayAll rules tasks first (events ++ Kept n ∷ []) =
      may-run rules tasks first events (Kept n ∷ [])
      (run-legal work tasks (first_build work) done past.makes)
      (subst (λ s. run.MayAll rules tasks s (Kept n ∷ [])) (sym now) (may, tt)) in
      let then_is : (run.after_all rules tasks first (events ++ Kept n ∷ [])).nodes
      ≡ set build.run.nodes n Settled =
      ap (λ (s : run.State). s.nodes) (run-append rules tasks first events (Kept n ∷ []))
      ∙ ap (λ (s : run.State). set s.nodes n Settled) now in
      let within = slice_get_within build.run.nodes n Undecided
      (may-undecided rules build.run.nodes n may.1) in
      let here : get_or (run.after_all rules tasks first (events ++ Kept n ∷ [])).nodes n Undecided ≡ Settled =
      ap (λ nodes. get_or nodes n Undecided) then_is
      ∙ get_or-set_same build.run.nodes n Settled Undecided within in
      let less = depends-less work tasks well n other depends in
      let settled = decided_settled rules tasks (events ++ Kept n ∷ []) cut n other
      (λ is. let clash : Settled ≡ Undecided = sym here ∙ is in absurd cc)
      (depends-reaches work tasks well n other depends) in
      let other_than : other ≢ n = λ same. omega (arith, less, same) in
      settled-at build.run.nodes other
      (sym (get_or-set_other build.run.nodes n other Settled Undecided other_than)
      ∙ (sym (ap (λ nodes. get_or nodes other Undecided) then_is) ∙ settled))
