-- Builds that keep no node with commands.
use Rattle.std.proofs.Common.{◌≡◌, ℕ, List, [], ◌∷◌, ◌++◌, Option, Some, None, false}
use Rattle.std.proofs.Common.{refl, sym, subst}
use Rattle.mk_clean.specs.Clean.{Plan}
use Rattle.mk_clean.specs.Turns as turn
use Rattle.mk_clean.specs.Turns.{MayKeep, seen_by}
use Rattle.mk_decision.specs.Decisions.{Work}
use Rattle.mk_headline.proofs.GoodLemmas.{good-first, item-turns, sources-ready, waits-ready}
use Rattle.mk_headline.proofs.LateLemmas.{last-parts, turned-last}
use Rattle.mk_headline.proofs.LoopLemmas.{Steps, turned-all}
use Rattle.mk_headline.proofs.TurnLemmas.{look-passed, kept}
use Rattle.mk_headline.specs.Laws.{KeepsNoJob, FirstBuildsAreTurns}
use Rattle.mk_headline.specs.Plans.{clean_plan, has_job, lines_of}
use Rattle.mk_headline.specs.Premises.{IsWellMade}
use Rattle.mk_plan.specs.Plans.{node_at}
use Rattle.mk_trace.proofs.BegunLemmas.{may-undecided}
use Rattle.mk_trace.specs.Builds.{Build, first_build, rules_of}
use Rattle.mk_trace.specs.Items.{Item, looks, keeps, refuses, starts, passes, waits, steps, ends, changes, leaves}
use Rattle.mk_trace.specs.Runs as run
use Rattle.mk_world.specs.History.{State as Stand, contents, state_of}
use Rattle.mk_world.specs.Talks.{Meaning}
use Rattle.mk_clean.specs.Clean.{AllWell}
use Rattle.mk_clean.specs.Jobs.{job}
use Rattle.mk_meta.specs.TrueHistory.{deeds_of_job}
use Rattle.mk_world.specs.Outer.{nothing_over, over_deeds}

none-over : (stands : Option (List ℕ)) → ◌≡◌ {A = Option (Option (List ℕ))} None (Some stands) → ⊥
none-over stands is = cc

-- a node without commands may be kept
pub none-keep : (meaning : Meaning) (work : Work) (tasks : run.Tasks) (clean : turn.Build) (n : ℕ)
    → has_job (node_at work.plan n) ≡ false → MayKeep meaning (clean_plan work tasks) clean n
none-keep meaning work tasks clean n none = record {
  well = subst (λ l. AllWell l (job meaning plan.command l (seen_by clean n))) (sym lines) tt;
  stands = λ bytes over.
      absurd (none-over bytes
      (subst (λ l. over_deeds nothing_over (deeds_of_job (job meaning plan.command l (seen_by clean n)))
      (plan.node n).name ≡ Some bytes) lines over));
}
  where
    plan : Plan
    plan = clean_plan work tasks

    lines : lines_of work tasks n ≡ []
    lines = rw none refl

keeps-none : (work : Work) (done rest : List Item) (n : ℕ) → KeepsNoJob work (done ++ keeps n ∷ rest)
    → has_job (node_at work.plan n) ≡ false
keeps-none work [] rest n none = none.0
keeps-none work (looks m seen ∷ done) rest n none = keeps-none work done rest n none
keeps-none work (keeps m ∷ done) rest n none = keeps-none work done rest n none.1
keeps-none work (refuses m number what ∷ done) rest n none = keeps-none work done rest n none
keeps-none work (starts m number ticket owner cmd ∷ done) rest n none = keeps-none work done rest n none
keeps-none work (passes m number ∷ done) rest n none = keeps-none work done rest n none
keeps-none work (waits ∷ done) rest n none = keeps-none work done rest n none
keeps-none work (steps ticket owner deed time ∷ done) rest n none = keeps-none work done rest n none
keeps-none work (ends m number owner ended ∷ done) rest n none = keeps-none work done rest n none
keeps-none work (changes m change ∷ done) rest n none = keeps-none work done rest n none
keeps-none work (leaves ticket owner ∷ done) rest n none = keeps-none work done rest n none

keeps-first : (work : Work) (items more : List Item) → KeepsNoJob work (items ++ more) → KeepsNoJob work items
keeps-first work [] more none = tt
keeps-first work (looks m seen ∷ items) more none = keeps-first work items more none
keeps-first work (keeps m ∷ items) more none = (none.0, keeps-first work items more none.1)
keeps-first work (refuses m number what ∷ items) more none = keeps-first work items more none
keeps-first work (starts m number ticket owner cmd ∷ items) more none = keeps-first work items more none
keeps-first work (passes m number ∷ items) more none = keeps-first work items more none
keeps-first work (waits ∷ items) more none = keeps-first work items more none
keeps-first work (steps ticket owner deed time ∷ items) more none = keeps-first work items more none
keeps-first work (ends m number owner ended ∷ items) more none = keeps-first work items more none
keeps-first work (changes m change ∷ items) more none = keeps-first work items more none
keeps-first work (leaves ticket owner ∷ items) more none = keeps-first work items more none

module _ (meaning : Meaning) (work : Work) (tasks : run.Tasks) (entry : Stand)
    (idle : entry.children ≡ []) (well : IsWellMade work) (whole : List Item)
    (no_job : KeepsNoJob work whole) where
  abbrev Nothing : List Item → Build → Stand → turn.Build → Type 0
  Nothing done build stand clean = Unit {0}

  step : Steps meaning work tasks entry idle well whole Nothing
  step done rest build stand turns clean (looks n seen) is good extra makes may fits none =
      (look-passed meaning work tasks build stand clean n seen good.files good.nodes, tt)
  step done rest build stand turns clean (keeps n) is good extra makes may fits none = (
    kept meaning work tasks build stand clean n good.files good.nodes makes.0.0.0
        (may-undecided (rules_of work) build.run.nodes n makes.0.0.1)
        (waits-ready meaning work tasks entry idle well done build stand turns clean good n makes.0.0)
        (sources-ready meaning work tasks entry idle well done build stand turns clean good n makes.0.0)
        (none-keep meaning work tasks clean n
        (keeps-none work done rest n (subst (KeepsNoJob work) is no_job))),
    tt,
  )
  step done rest build stand turns clean (refuses n number what) is good extra makes may fits none = (
    item-turns meaning work tasks entry idle well done build stand turns clean (refuses n number what) good
        makes may fits none tt,
    tt,
  )
  step done rest build stand turns clean (starts n number ticket owner cmd) is good extra makes may fits none = (
    item-turns meaning work tasks entry idle well done build stand turns clean
        (starts n number ticket owner cmd) good makes may fits none tt,
    tt,
  )
  step done rest build stand turns clean (passes n number) is good extra makes may fits none = (
    item-turns meaning work tasks entry idle well done build stand turns clean (passes n number) good
        makes may fits none tt,
    tt,
  )
  step done rest build stand turns clean waits is good extra makes may fits none = (
    item-turns meaning work tasks entry idle well done build stand turns clean waits good
        makes may fits none tt,
    tt,
  )
  step done rest build stand turns clean (steps ticket owner deed time) is good extra makes may fits none = (
    item-turns meaning work tasks entry idle well done build stand turns clean
        (steps ticket owner deed time) good makes may fits none tt,
    tt,
  )
  step done rest build stand turns clean (ends n number owner ended) is good extra makes may fits none = (
    item-turns meaning work tasks entry idle well done build stand turns clean (ends n number owner ended)
        good makes may fits none tt,
    tt,
  )
  step done rest build stand turns clean (changes n change) is good extra makes may fits none = (
    item-turns meaning work tasks entry idle well done build stand turns clean (changes n change) good
        makes may fits none tt,
    tt,
  )
  step done rest build stand turns clean (leaves ticket owner) is good extra makes may fits none = (
    item-turns meaning work tasks entry idle well done build stand turns clean (leaves ticket owner) good
        makes may fits none tt,
    tt,
  )

pub first_turns : FirstBuildsAreTurns
first_turns meaning work tasks items old new idle well no_job makes happens last =
    let entry = state_of old in
    let parts = last-parts meaning work tasks entry items last makes happens.lawful happens.fits in
    turned-last meaning work tasks items old new idle makes happens last
    (turned-all meaning work tasks entry idle well last.front _
    (step meaning work tasks entry idle well last.front
    (keeps-first work last.front (last.left ++ last.late) (subst (KeepsNoJob work) last.are no_job))) last.front []
    (first_build work) entry [] (turn.first_build (contents entry.files)) refl
    (good-first meaning work tasks entry idle well) tt parts.makes parts.happens parts.fits last.none)
