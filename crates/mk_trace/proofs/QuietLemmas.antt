-- Items that change nothing of a build.
use Rattle.std.proofs.Common.{◌≡◌, ◌∙◌, ℕ, List, [], ◌∷◌, ◌++◌, Option, Bool, true, false}
use Rattle.std.proofs.Common.{refl, ap}
use Rattle.std.proofs.lemmas.List.{append-nil}
use Rattle.mk_decision.specs.Decisions.{Work}
use Rattle.mk_trace.specs.Builds.{Build, Moment, Prints, Makes, build_after_all, first_build}
use Rattle.mk_trace.specs.Calls.{AreStepItems, AreLeaveItems}
use Rattle.mk_trace.specs.Growth.{IsMade, Standing, printed_by}
use Rattle.mk_trace.specs.Items.{Item, reported_all, outputs_of}
use Rattle.mk_trace.specs.Runs as run
use Rattle.mk_trace.proofs.CallLemmas.{on_leaves}
use Rattle.mk_trace.proofs.ItemLemmas.{reported_all-append, outputs_of-append, build_after_all-append, Makes-append}
use Rattle.mk_trace.proofs.MakeLemmas.{reported-steps, outputs-steps, after-steps, makes-steps}

-- items that change nothing of a build: steps of children, and children that were given up
pub record AreQuiet (work : Work) (items : List Item) : Type 0 where
  pub reported : reported_all items ≡ []
  pub outputs : outputs_of items ≡ []
  pub after : (tasks : run.Tasks) (build : Build)
      → build_after_all work tasks build items ≡ build
  pub makes : (tasks : run.Tasks) (build : Build) → Makes work tasks build items

pub quiet-steps : (work : Work) (items : List Item) → AreStepItems items → AreQuiet work items
quiet-steps work items are = record {
  reported = reported-steps items are;
  outputs = outputs-steps items are;
  after = λ tasks build. after-steps work tasks build items are;
  makes = λ tasks build. makes-steps work tasks build items are;
}

pub quiet-leaves : (work : Work) (items : List Item) → AreLeaveItems items → AreQuiet work items
quiet-leaves work = on_leaves (AreQuiet work)
    (record { reported = refl; outputs = refl; after = λ tasks build. refl; makes = λ tasks build. tt })
    (λ ticket owner items more. record {
      reported = more.reported;
      outputs = more.outputs;
      after = more.after;
      makes = λ tasks build. (tt, tt, tt, more.makes tasks build);
    })

pub quiet-append : (work : Work) (items more : List Item) → AreQuiet work items → AreQuiet work more
    → AreQuiet work (items ++ more)
quiet-append work items more first second = record {
  reported = reported_all-append items more ∙ rw (first.reported, second.reported) refl;
  outputs = outputs_of-append items more ∙ rw (first.outputs, second.outputs) refl;
  after = λ tasks build. build_after_all-append work tasks build items more
      ∙ (ap (λ b. build_after_all work tasks b more) (first.after tasks build)
      ∙ second.after tasks build);
  makes = λ tasks build. Makes-append work tasks build items more (first.makes tasks build)
      (second.makes tasks (build_after_all work tasks build items));
}

pub prints-out : (cut : Bool) (first now next : Moment) (bytes : List ℕ) → next.out ≡ now.out
    → Prints cut first now bytes → Prints cut first next bytes
prints-out true first now next bytes same prints = rw same prints
prints-out false first now next bytes same prints = rw same prints

pub made-quiet : (work : Work) (tasks : run.Tasks) (cut : Bool) (first now next : Moment)
    (last : Option ℕ) (items quiet : List Item) (P : Standing) → AreQuiet work quiet
    → next.out ≡ now.out → IsMade work tasks cut first now last items P
    → IsMade work tasks cut first next last (items ++ quiet) P
made-quiet work tasks cut first now next last items quiet P are same made =
    let reported : reported_all (items ++ quiet) ≡ reported_all items =
    reported_all-append items quiet ∙ rw are.reported (append-nil (reported_all items)) in
    let outputs : outputs_of (items ++ quiet) ≡ outputs_of items =
    outputs_of-append items quiet ∙ rw are.outputs (append-nil (outputs_of items)) in
    let printed : printed_by work tasks (items ++ quiet) ≡ printed_by work tasks items =
    rw (reported, outputs) refl in
    let build = build_after_all work tasks (first_build work) items in
    let after : build_after_all work tasks (first_build work) (items ++ quiet) ≡ build =
    build_after_all-append work tasks (first_build work) items quiet ∙ are.after tasks build in
    record {
      makes = Makes-append work tasks (first_build work) items quiet made.makes
          (are.makes tasks build);
      printed = rw printed (prints-out cut first now next _ same made.printed);
      ended = rw (printed, outputs) made.ended;
      last_is = rw printed made.last_is;
      stands = rw after made.stands;
    }
