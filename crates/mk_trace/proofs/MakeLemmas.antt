-- A build so far, and the items of one more call.
use Rattle.std.proofs.Common.{◌≡◌, ◌∙◌, ℕ, List, [], ◌∷◌, ◌++◌, length, Option, Bool, true, false}
use Rattle.std.proofs.Common.{refl, sym, ap, subst, arith}
use Rattle.std.proofs.lemmas.List.{append-nil}
use Rattle.mk_world.specs.History.{State as Stand}
use Rattle.mk_world.specs.Talks.{Meaning}
use Rattle.mk_world.specs.Sinks.{Gains}
use Rattle.mk_world.specs.Told.{Told}
use Rattle.mk_world.proofs.SinkLemmas.{Gains-nothing, Gains-then, GainsPart-then}
use Rattle.mk_decision.specs.Decisions.{Work}
use Rattle.mk_trace.specs.Builds.{Build, Moment, Makes, Prints, build_after_all, first_build, job_of}
use Rattle.mk_trace.specs.Calls.{AreStepItems, Called, NoItem, NoneLeft}
use Rattle.mk_trace.specs.Items.{Item, looks, keeps, refuses, starts, passes, waits, steps, ends, changes, leaves, happened_all, reported_all, outputs_of, FitsAll, Happened}
use Rattle.mk_trace.specs.Output.{Printed, printed_all, nothing_printed}
use Rattle.mk_trace.specs.Growth.{Known, HasTasks, IsMade, SoFar, Standing, printed_by}
use Rattle.mk_trace.specs.Runs as run
use Rattle.mk_trace.specs.Steps.{GoesOn, PrintsOwn}
use Rattle.mk_trace.proofs.CallLemmas.{called-own, on_steps}
use Rattle.mk_trace.proofs.ItemLemmas.{reported_all-append, outputs_of-append, build_after_all-append, Makes-append, told-then}
use Rattle.mk_trace.proofs.OutputLemmas.{printed_all-append, printed_all-same}

pub reported-steps : (items : List Item) → AreStepItems items → reported_all items ≡ []
reported-steps = on_steps (λ items. reported_all items ≡ []) refl
    (λ ticket owner deed time items more. more)

pub outputs-steps : (items : List Item) → AreStepItems items → outputs_of items ≡ []
outputs-steps = on_steps (λ items. outputs_of items ≡ []) refl
    (λ ticket owner deed time items more. more)

pub after-steps : (work : Work) (tasks : run.Tasks) (build : Build) (items : List Item)
    → AreStepItems items → build_after_all work tasks build items ≡ build
after-steps work tasks build = on_steps (λ items. build_after_all work tasks build items ≡ build)
    refl (λ ticket owner deed time items more. more)

pub makes-steps : (work : Work) (tasks : run.Tasks) (build : Build) (items : List Item)
    → AreStepItems items → Makes work tasks build items
makes-steps work tasks build = on_steps (λ items. Makes work tasks build items) tt
    (λ ticket owner deed time items more. (tt, tt, tt, more))

-- in neither of two lists a child is given up
pub none-append : (items more : List Item) → NoneLeft items → NoneLeft more → NoneLeft (items ++ more)
none-append [] more none then_none = then_none
none-append (looks node seen ∷ items) more none then_none = none-append items more none then_none
none-append (keeps node ∷ items) more none then_none = none-append items more none then_none
none-append (refuses node number what ∷ items) more none then_none = none-append items more none then_none
none-append (starts node number ticket owner cmd ∷ items) more none then_none =
    none-append items more none then_none
none-append (passes node number ∷ items) more none then_none = none-append items more none then_none
none-append (waits ∷ items) more none then_none = none-append items more none then_none
none-append (steps ticket owner deed time ∷ items) more none then_none =
    none-append items more none then_none
none-append (ends node number owner ended ∷ items) more none then_none =
    none-append items more none then_none
none-append (changes node change ∷ items) more none then_none = none-append items more none then_none
none-append (leaves ticket owner ∷ items) more none then_none = absurd none

pub none-steps : (items : List Item) → AreStepItems items → NoneLeft items
none-steps = on_steps NoneLeft tt (λ ticket owner deed time items more. more)

-- the items of a call, between the steps of children
module _ (early own late : List Item) (early_are : AreStepItems early)
    (late_are : AreStepItems late) where
  between : List Item
  between = early ++ (own ++ late)

  reported-between : reported_all (early ++ (own ++ late)) ≡ reported_all own
  reported-between =
      reported_all-append early (own ++ late)
      ∙ rw (
        reported-steps early early_are,
        reported_all-append own late,
        reported-steps late late_are,
      ) (append-nil (reported_all own))

  outputs-between : outputs_of (early ++ (own ++ late)) ≡ outputs_of own
  outputs-between =
      outputs_of-append early (own ++ late)
      ∙ rw (
        outputs-steps early early_are,
        outputs_of-append own late,
        outputs-steps late late_are,
      ) (append-nil (outputs_of own))

  after-between : (work : Work) (tasks : run.Tasks) (build : Build)
      → build_after_all work tasks build (early ++ (own ++ late))
      ≡ build_after_all work tasks build own
  after-between work tasks build =
      build_after_all-append work tasks build early (own ++ late)
      ∙ (ap (λ b. build_after_all work tasks b (own ++ late))
      (after-steps work tasks build early early_are)
      ∙ (build_after_all-append work tasks build own late
      ∙ after-steps work tasks (build_after_all work tasks build own) late late_are))

  makes-between : (work : Work) (tasks : run.Tasks) (build : Build) → Makes work tasks build own
      → Makes work tasks build (early ++ (own ++ late))
  makes-between work tasks build makes =
      Makes-append work tasks build early (own ++ late)
      (makes-steps work tasks build early early_are)
      (subst (λ b. Makes work tasks b (own ++ late))
      (sym (after-steps work tasks build early early_are))
      (Makes-append work tasks build own late makes
      (makes-steps work tasks (build_after_all work tasks build own) late late_are)))

prints-then : (cut : Bool) (first now next : Moment) (bytes text : List ℕ)
    → Prints false first now bytes → Prints cut now next text
    → Prints cut first next (bytes ++ text)
prints-then true first now next bytes text so_far more =
    GainsPart-then first.out now.out next.out bytes text so_far more
prints-then false first now next bytes text so_far more =
    Gains-then first.out now.out next.out bytes text so_far more

-- what was printed, with the items of one more call
printed-more : (work : Work) (tasks : run.Tasks) (items own : List Item)
    → (printed_by work tasks items).ended ≡ length (outputs_of items)
    → printed_all (job_of work tasks) (outputs_of items ++ outputs_of own) nothing_printed
    (reported_all items ++ reported_all own)
    ≡ printed_all (job_of work tasks) (outputs_of items ++ outputs_of own)
    (printed_by work tasks items) (reported_all own)
printed-more work tasks items own ended =
    printed_all-append (job_of work tasks) (outputs_of items ++ outputs_of own) nothing_printed
    (reported_all items) (reported_all own)
    ∙ ap (λ p. printed_all (job_of work tasks) (outputs_of items ++ outputs_of own) p
    (reported_all own))
    (printed_all-same (job_of work tasks) (outputs_of items) (outputs_of own) nothing_printed
    (reported_all items) (rw ended (omega arith)))

-- items that print nothing
pub silent : (work : Work) (tasks : run.Tasks) (now next : Moment) (last : Option ℕ) (own : List Item)
    → next.out ≡ now.out → outputs_of own ≡ []
    → ((outputs : List (List ℕ)) (p : Printed)
    → printed_all (job_of work tasks) outputs p (reported_all own) ≡ p)
    → PrintsOwn work tasks false now next last last own
silent work tasks now next last own same none nothing = record {
  text = [];
  grows = subst (λ o. Gains now.out o []) (sym same) (Gains-nothing now.out);
  bytes = λ outputs p ended last_is. ap (λ q. q.bytes) (nothing (outputs ++ outputs_of own) p)
      ∙ sym (append-nil p.bytes);
  ended = λ outputs p ended. ap (λ q. q.ended) (nothing (outputs ++ outputs_of own) p)
      ∙ (ended ∙ ap length (sym (ap (λ l. outputs ++ l) none ∙ append-nil outputs)));
  last_is = λ outputs p ended last_is.
      ap (λ q. q.last) (nothing (outputs ++ outputs_of own) p) ∙ last_is;
}

made-more : (work : Work) (tasks : run.Tasks) (cut : Bool) (first now next : Moment)
    (last later : Option ℕ) (items mid own : List Item) (P Q : Standing)
    → reported_all mid ≡ reported_all own → outputs_of mid ≡ outputs_of own
    → ((build : Build) → build_after_all work tasks build mid ≡ build_after_all work tasks build own)
    → ((build : Build) → Makes work tasks build own → Makes work tasks build mid)
    → IsMade work tasks false first now last items P
    → ((build : Build) → P tasks build → GoesOn work tasks build own Q)
    → ((build : Build) → P tasks build → PrintsOwn work tasks cut now next last later own)
    → IsMade work tasks cut first next later (items ++ mid) Q
made-more work tasks cut first now next last later items mid own P Q reported outputs after makes made
    step prints_own =
    let build = build_after_all work tasks (first_build work) items in
    let prints = prints_own build made.stands in
    let go = step build made.stands in
    let all_reported : reported_all (items ++ mid) ≡ reported_all items ++ reported_all own =
    reported_all-append items mid ∙ ap (λ l. reported_all items ++ l) reported in
    let all_outputs : outputs_of (items ++ mid) ≡ outputs_of items ++ outputs_of own =
    outputs_of-append items mid ∙ ap (λ l. outputs_of items ++ l) outputs in
    let all_printed : printed_by work tasks (items ++ mid)
    ≡ printed_all (job_of work tasks) (outputs_of items ++ outputs_of own)
    (printed_by work tasks items) (reported_all own) =
    rw (all_reported, all_outputs) (printed-more work tasks items own made.ended) in
    let stands_now : build_after_all work tasks (first_build work) (items ++ mid)
    ≡ build_after_all work tasks build own =
    build_after_all-append work tasks (first_build work) items mid ∙ after build in
    record {
      makes = Makes-append work tasks (first_build work) items mid made.makes
          (makes build go.makes);
      printed = subst (Prints cut first next)
          (sym (ap (λ p. p.bytes) all_printed
          ∙ prints.bytes (outputs_of items) (printed_by work tasks items) made.ended made.last_is))
          (prints-then cut first now next (printed_by work tasks items).bytes prints.text
          made.printed prints.grows);
      ended = ap (λ p. p.ended) all_printed
          ∙ (prints.ended (outputs_of items) (printed_by work tasks items) made.ended
          ∙ ap length (sym all_outputs));
      last_is = ap (λ p. p.last) all_printed
          ∙ prints.last_is (outputs_of items) (printed_by work tasks items) made.ended made.last_is;
      stands = subst (Q tasks) (sym stands_now) go.stands;
    }

-- A build goes on by the items of one call.
pub so_far-called : (meaning : Meaning) (work : Work) (cut : Bool) (first now next : Moment)
    (last later : Option ℕ) (known more : Known) (P Q : Standing) (OwnItems : List Item → Type 0)
    → SoFar meaning work false first now last known P
    → (call : Called meaning now.history next.history OwnItems) → NoneLeft call.own
    → next.events ≡ now.events ++ reported_all call.own
    → ((tasks : run.Tasks) → HasTasks tasks more → HasTasks tasks known)
    → ((tasks : run.Tasks) (build : Build) → HasTasks tasks more
    → P tasks build → GoesOn work tasks build call.own Q)
    → ((tasks : run.Tasks) (build : Build) → HasTasks tasks more → P tasks build
    → PrintsOwn work tasks cut now next last later call.own)
    → SoFar meaning work cut first next later more Q
so_far-called meaning work cut first now next last later known more P Q OwnItems so call none events
    grow step prints =
    let mid = call.early ++ (call.own ++ call.late) in
    let reported = reported-between call.early call.own call.late call.early_steps call.late_steps in
    record {
      items = so.items ++ mid;
      reported = events ∙ rw (so.reported, reported_all-append so.items mid, reported) refl;
      told = told-then meaning so.items mid first.history now.history next.history so.told call.told;
      none_left = none-append so.items mid so.none_left (none-append call.early (call.own ++ call.late)
          (none-steps call.early call.early_steps)
          (none-append call.own call.late none (none-steps call.late call.late_steps)));
      made = λ tasks has. made-more work tasks cut first now next last later so.items mid call.own P Q
          reported
          (outputs-between call.early call.own call.late call.early_steps call.late_steps)
          (after-between call.early call.own call.late call.early_steps call.late_steps work tasks)
          (makes-between call.early call.own call.late call.early_steps call.late_steps work tasks)
          (so.made tasks (grow tasks has)) (λ build. step tasks build has)
          (λ build. prints tasks build has);
    }

-- what is so of a build, may be said less strongly
pub so_far-weaken : (meaning : Meaning) (work : Work) (cut : Bool) (first now : Moment)
    (last : Option ℕ) (known more : Known) (P Q : Standing)
    → SoFar meaning work cut first now last known P
    → ((tasks : run.Tasks) → HasTasks tasks more → HasTasks tasks known)
    → ((tasks : run.Tasks) (build : Build) → HasTasks tasks more → P tasks build → Q tasks build)
    → SoFar meaning work cut first now last more Q
so_far-weaken meaning work cut first now last known more P Q so grow weaken = record {
  items = so.items;
  reported = so.reported;
  told = so.told;
  none_left = so.none_left;
  made = λ tasks has.
      let made = so.made tasks (grow tasks has) in
      record {
        makes = made.makes;
        printed = made.printed;
        ended = made.ended;
        last_is = made.last_is;
        stands = weaken tasks _ has made.stands;
      };
}

-- a call that added steps of children alone
pub so_far-nothing : (meaning : Meaning) (work : Work) (first now next : Moment)
    (last : Option ℕ) (known : Known) (P : Standing)
    → SoFar meaning work false first now last known P
    → Called meaning now.history next.history NoItem → next.events ≡ now.events
    → next.out ≡ now.out → SoFar meaning work false first next last known P
so_far-nothing meaning work first now next last known P so call events out =
    so_far-called meaning work false first now next last last known known P P NoItem so call
    (rw call.is_own tt) (events ∙ rw call.is_own (sym (append-nil now.events))) (λ tasks has. has)
    (λ tasks build has is. rw call.is_own (record { makes = tt; stands = is }))
    (λ tasks build has is. rw call.is_own
    (silent work tasks now next last [] out refl (λ outputs p. refl)))

-- items of the report alone, which print nothing
pub so_far-own : (meaning : Meaning) (work : Work) (first now next : Moment)
    (last : Option ℕ) (known more : Known) (P Q : Standing) (own : List Item)
    → SoFar meaning work false first now last known P
    → NoneLeft own
    → happened_all own ≡ [] → ((stand : Stand) → FitsAll meaning stand own) → outputs_of own ≡ []
    → next.history ≡ now.history → next.events ≡ now.events ++ reported_all own
    → next.out ≡ now.out → ((tasks : run.Tasks) → HasTasks tasks more → HasTasks tasks known)
    → ((tasks : run.Tasks) (build : Build) → HasTasks tasks more
    → P tasks build → GoesOn work tasks build own Q)
    → ((tasks : run.Tasks) (build : Build) → HasTasks tasks more → P tasks build
    → (outputs : List (List ℕ)) (p : Printed)
    → printed_all (job_of work tasks) outputs p (reported_all own) ≡ p)
    → SoFar meaning work false first next last more Q
so_far-own meaning work first now next last known more P Q own so stay nothing fits none history events
    out
    grow goes prints =
    let call : Called meaning now.history next.history (λ items. items ≡ own) =
    subst (λ h. Called meaning now.history h (λ items. items ≡ own)) (sym history)
    (called-own meaning now.history own nothing fits) in
    so_far-called meaning work false first now next last last known more P Q (λ items. items ≡ own) so
    call (rw call.is_own stay) (rw call.is_own events) grow
    (λ tasks build has is. rw call.is_own (goes tasks build has is))
    (λ tasks build has is. rw call.is_own
    (silent work tasks now next last own out none (prints tasks build has is)))
