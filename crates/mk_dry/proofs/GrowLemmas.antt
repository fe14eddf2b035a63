-- A dry run so far, and the items of one more call.
use Rattle.std.proofs.Common.{◌≡◌, ◌∙◌, ℕ, List, [], ◌∷◌, ◌++◌, map, Option, Some, None, Bool, true, false}
use Rattle.std.proofs.Common.{refl, sym, ap, subst, append_assoc}
use Rattle.std.proofs.lemmas.List.{append-nil}
use Rattle.mk_child.specs.Halts.{is_cut_by}
use Rattle.mk_child.specs.declared.halt.Halt.{Halt}
use Rattle.mk_decision.specs.Decisions.{Work}
use Rattle.mk_plan.specs.Deciding.{Rules}
use Rattle.mk_trace.specs.Builds.{Moment, Prints}
use Rattle.mk_trace.specs.Calls.{AreStepItems, Called, NoItem}
use Rattle.mk_trace.specs.Growth.{Known, HasTasks}
use Rattle.mk_trace.specs.Items.{Item, happened_all, FitsAll, Happened}
use Rattle.mk_trace.specs.Runs as run
use Rattle.mk_trace.proofs.CallLemmas.{called-own, on_steps}
use Rattle.mk_trace.proofs.ItemLemmas.{told-then}
use Rattle.mk_world.specs.History.{State as Stand}
use Rattle.mk_world.specs.Sinks.{Gains, GainsPart}
use Rattle.mk_world.specs.Talks.{Meaning}
use Rattle.mk_world.specs.Told.{Told}
use Rattle.mk_world.proofs.SinkLemmas.{Gains-nothing, Gains-then, GainsPart-then}
use Rattle.mk_dry.specs.Items.{DryItem, does, reported, reported_all, in_build, in_build_all, printed, printed_all}
use Rattle.mk_dry.specs.Progress.{HaltedAt, SoFar, Standing}
use Rattle.mk_dry.specs.Runs.{Dry, Makes, dry_after, dry_after_all, first_dry, rules_of}

-- items that follow others

pub reported_all-append : (items more : List DryItem)
    → reported_all (items ++ more) ≡ reported_all items ++ reported_all more
reported_all-append [] more = refl
reported_all-append (item ∷ items) more =
    ap (λ l. reported item ++ l) (reported_all-append items more)
    ∙ sym (append_assoc (reported item) (reported_all items) (reported_all more))

pub in_build_all-append : (items more : List DryItem)
    → in_build_all (items ++ more) ≡ in_build_all items ++ in_build_all more
in_build_all-append [] more = refl
in_build_all-append (item ∷ items) more =
    ap (λ l. in_build item ++ l) (in_build_all-append items more)
    ∙ sym (append_assoc (in_build item) (in_build_all items) (in_build_all more))

pub printed_all-append : (tasks : run.Tasks) (items more : List DryItem)
    → printed_all tasks (items ++ more) ≡ printed_all tasks items ++ printed_all tasks more
printed_all-append tasks [] more = refl
printed_all-append tasks (item ∷ items) more =
    ap (λ l. printed tasks item ++ l) (printed_all-append tasks items more)
    ∙ sym (append_assoc (printed tasks item) (printed_all tasks items) (printed_all tasks more))

pub dry_after_all-append : (rules : Rules) (tasks : run.Tasks) (dry : Dry) (items more : List DryItem)
    → dry_after_all rules tasks dry (items ++ more)
    ≡ dry_after_all rules tasks (dry_after_all rules tasks dry items) more
dry_after_all-append rules tasks dry [] more = refl
dry_after_all-append rules tasks dry (item ∷ items) more =
    dry_after_all-append rules tasks (dry_after rules tasks dry item) items more

pub Makes-append : (rules : Rules) (tasks : run.Tasks) (dry : Dry) (items more : List DryItem)
    → Makes rules tasks dry items → Makes rules tasks (dry_after_all rules tasks dry items) more
    → Makes rules tasks dry (items ++ more)
Makes-append rules tasks dry [] more makes then_makes = then_makes
Makes-append rules tasks dry (item ∷ items) more makes then_makes = (
  makes.0,
  makes.1,
  Makes-append rules tasks (dry_after rules tasks dry item) items more makes.2 then_makes,
)

-- what a call adds, as items of a dry run

pub in_build-does : (items : List Item) → in_build_all (map does items) ≡ items
in_build-does [] = refl
in_build-does (item ∷ items) = ap (λ l. item ∷ l) (in_build-does items)

pub reported-steps : (items : List Item) → AreStepItems items → reported_all (map does items) ≡ []
reported-steps = on_steps (λ items. reported_all (map does items) ≡ []) refl
    (λ ticket owner deed time items more. more)

pub printed-steps : (tasks : run.Tasks) (items : List Item) → AreStepItems items
    → printed_all tasks (map does items) ≡ []
printed-steps tasks = on_steps (λ items. printed_all tasks (map does items) ≡ []) refl
    (λ ticket owner deed time items more. more)

pub after-steps : (rules : Rules) (tasks : run.Tasks) (dry : Dry) (items : List Item)
    → AreStepItems items → dry_after_all rules tasks dry (map does items) ≡ dry
after-steps rules tasks dry = on_steps (λ items. dry_after_all rules tasks dry (map does items) ≡ dry)
    refl (λ ticket owner deed time items more. more)

pub makes-steps : (rules : Rules) (tasks : run.Tasks) (dry : Dry) (items : List Item)
    → AreStepItems items → Makes rules tasks dry (map does items)
makes-steps rules tasks dry = on_steps (λ items. Makes rules tasks dry (map does items)) tt
    (λ ticket owner deed time items more. (tt, tt, more))

-- the items of a call, between the steps of children
module _ (early : List Item) (own : List DryItem) (late : List Item)
    (early_are : AreStepItems early) (late_are : AreStepItems late) where
  in_build-between : in_build_all (map does early ++ (own ++ map does late))
      ≡ early ++ (in_build_all own ++ late)
  in_build-between =
      in_build_all-append (map does early) (own ++ map does late)
      ∙ rw (
        in_build-does early,
        in_build_all-append own (map does late),
        in_build-does late,
      ) refl

  reported-between : reported_all (map does early ++ (own ++ map does late)) ≡ reported_all own
  reported-between =
      reported_all-append (map does early) (own ++ map does late)
      ∙ rw (
        reported-steps early early_are,
        reported_all-append own (map does late),
        reported-steps late late_are,
      ) (append-nil (reported_all own))

  printed-between : (tasks : run.Tasks)
      → printed_all tasks (map does early ++ (own ++ map does late)) ≡ printed_all tasks own
  printed-between tasks =
      printed_all-append tasks (map does early) (own ++ map does late)
      ∙ rw (
        printed-steps tasks early early_are,
        printed_all-append tasks own (map does late),
        printed-steps tasks late late_are,
      ) (append-nil (printed_all tasks own))

  after-between : (rules : Rules) (tasks : run.Tasks) (dry : Dry)
      → dry_after_all rules tasks dry (map does early ++ (own ++ map does late))
      ≡ dry_after_all rules tasks dry own
  after-between rules tasks dry =
      dry_after_all-append rules tasks dry (map does early) (own ++ map does late)
      ∙ (ap (λ d. dry_after_all rules tasks d (own ++ map does late))
      (after-steps rules tasks dry early early_are)
      ∙ (dry_after_all-append rules tasks dry own (map does late)
      ∙ after-steps rules tasks (dry_after_all rules tasks dry own) late late_are))

  makes-between : (rules : Rules) (tasks : run.Tasks) (dry : Dry) → Makes rules tasks dry own
      → Makes rules tasks dry (map does early ++ (own ++ map does late))
  makes-between rules tasks dry makes =
      Makes-append rules tasks dry (map does early) (own ++ map does late)
      (makes-steps rules tasks dry early early_are)
      (subst (λ d. Makes rules tasks d (own ++ map does late))
      (sym (after-steps rules tasks dry early early_are))
      (Makes-append rules tasks dry own (map does late) makes
      (makes-steps rules tasks (dry_after_all rules tasks dry own) late late_are)))

pub prints-then : (cut : Bool) (first now next : Moment) (bytes text : List ℕ)
    → Prints false first now bytes → Prints cut now next text
    → Prints cut first next (bytes ++ text)
prints-then true first now next bytes text so_far more =
    GainsPart-then first.out now.out next.out bytes text so_far more
prints-then false first now next bytes text so_far more =
    Gains-then first.out now.out next.out bytes text so_far more

-- items that may be made next, and how they leave a dry run
pub record GoesOn (work : Work) (tasks : run.Tasks) (dry : Dry) (own : List DryItem)
    (Stands : Standing) : Type 0 where
  pub makes : Makes (rules_of work) tasks dry own
  pub stands : Stands tasks (dry_after_all (rules_of work) tasks dry own)

-- A dry run goes on by the items of one call.
pub so_far-called : (meaning : Meaning) (work : Work) (cut : Bool) (first now next : Moment)
    (known more : Known) (P Q : Standing) (OwnItems : List Item → Type 0) (own : List DryItem)
    → SoFar meaning work false first now known P
    → (call : Called meaning now.history next.history OwnItems) → call.own ≡ in_build_all own
    → next.events ≡ now.events ++ reported_all own
    → ((tasks : run.Tasks) → HasTasks tasks more → HasTasks tasks known)
    → ((tasks : run.Tasks) (dry : Dry) → HasTasks tasks more → P tasks dry → GoesOn work tasks dry own Q)
    → ((tasks : run.Tasks) (dry : Dry) → HasTasks tasks more → P tasks dry
    → Prints cut now next (printed_all tasks own))
    → SoFar meaning work cut first next more Q
so_far-called meaning work cut first now next known more P Q OwnItems own so call is events grow step
    prints =
    let mid = map does call.early ++ (own ++ map does call.late) in
    let told : Told now.history next.history (Happened meaning (in_build_all mid)) =
    subst (λ l. Told now.history next.history (Happened meaning l))
    (sym (in_build-between call.early own call.late call.early_steps call.late_steps))
    (subst (λ l. Told now.history next.history (Happened meaning (call.early ++ (l ++ call.late)))) is
    call.told) in
    record {
      items = so.items ++ mid;
      reported = events
          ∙ rw (
            so.reported,
            reported_all-append so.items mid,
            reported-between call.early own call.late call.early_steps call.late_steps,
          ) refl;
      told = subst (λ l. Told first.history next.history (Happened meaning l))
          (sym (in_build_all-append so.items mid))
          (told-then meaning (in_build_all so.items) (in_build_all mid) first.history now.history
          next.history so.told told);
      made = λ tasks has.
          let made = so.made tasks (grow tasks has) in
          let dry = dry_after_all (rules_of work) tasks (first_dry work) so.items in
          let go = step tasks dry has made.stands in
          let stands_now : dry_after_all (rules_of work) tasks (first_dry work) (so.items ++ mid)
          ≡ dry_after_all (rules_of work) tasks dry own =
          dry_after_all-append (rules_of work) tasks (first_dry work) so.items mid
          ∙ after-between call.early own call.late call.early_steps call.late_steps (rules_of work) tasks
          dry in
          let printed_now : printed_all tasks (so.items ++ mid)
          ≡ printed_all tasks so.items ++ printed_all tasks own =
          printed_all-append tasks so.items mid
          ∙ ap (λ l. printed_all tasks so.items ++ l)
          (printed-between call.early own call.late call.early_steps call.late_steps tasks) in
          record {
            makes = Makes-append (rules_of work) tasks (first_dry work) so.items mid made.makes
                (makes-between call.early own call.late call.early_steps call.late_steps (rules_of work)
                tasks dry go.makes);
            printed = subst (Prints cut first next) (sym printed_now)
                (prints-then cut first now next (printed_all tasks so.items) (printed_all tasks own)
                made.printed (prints tasks dry has made.stands));
            stands = subst (Q tasks) (sym stands_now) go.stands;
          };
    }

-- where nothing is printed
pub unprinted : (now next : Moment) (text : List ℕ) → next.out ≡ now.out → text ≡ []
    → Prints false now next text
unprinted now next text same none =
    rw none (subst (λ o. Gains now.out o []) (sym same) (Gains-nothing now.out))

-- what is so of a dry run, may be said less strongly
pub so_far-weaken : (meaning : Meaning) (work : Work) (cut : Bool) (first now : Moment)
    (known more : Known) (P Q : Standing) → SoFar meaning work cut first now known P
    → ((tasks : run.Tasks) → HasTasks tasks more → HasTasks tasks known)
    → ((tasks : run.Tasks) (dry : Dry) → HasTasks tasks more → P tasks dry → Q tasks dry)
    → SoFar meaning work cut first now more Q
so_far-weaken meaning work cut first now known more P Q so grow weaken = record {
  items = so.items;
  reported = so.reported;
  told = so.told;
  made = λ tasks has.
      let made = so.made tasks (grow tasks has) in
      record {
        makes = made.makes;
        printed = made.printed;
        stands = weaken tasks _ has made.stands;
      };
}

-- a call that added steps of children alone
pub so_far-nothing : (meaning : Meaning) (work : Work) (first now next : Moment) (known : Known)
    (P : Standing) → SoFar meaning work false first now known P
    → Called meaning now.history next.history NoItem → next.events ≡ now.events
    → next.out ≡ now.out → SoFar meaning work false first next known P
so_far-nothing meaning work first now next known P so call events out =
    so_far-called meaning work false first now next known known P P NoItem [] so call call.is_own
    (events ∙ sym (append-nil now.events)) (λ tasks has. has)
    (λ tasks dry has is. record { makes = tt; stands = is })
    (λ tasks dry has is. unprinted now next [] out refl)

-- items of the report alone
pub so_far-own : (meaning : Meaning) (work : Work) (cut : Bool) (first now next : Moment)
    (known more : Known) (P Q : Standing) (own : List DryItem)
    → SoFar meaning work false first now known P
    → happened_all (in_build_all own) ≡ []
    → ((stand : Stand) → FitsAll meaning stand (in_build_all own))
    → next.history ≡ now.history → next.events ≡ now.events ++ reported_all own
    → ((tasks : run.Tasks) → HasTasks tasks more → HasTasks tasks known)
    → ((tasks : run.Tasks) (dry : Dry) → HasTasks tasks more → P tasks dry → GoesOn work tasks dry own Q)
    → ((tasks : run.Tasks) (dry : Dry) → HasTasks tasks more → P tasks dry
    → Prints cut now next (printed_all tasks own))
    → SoFar meaning work cut first next more Q
so_far-own meaning work cut first now next known more P Q own so nothing fits history events grow goes
    prints =
    let call : Called meaning now.history next.history (λ items. items ≡ in_build_all own) =
    subst (λ h. Called meaning now.history h (λ items. items ≡ in_build_all own)) (sym history)
    (called-own meaning now.history (in_build_all own) nothing fits) in
    so_far-called meaning work cut first now next known more P Q (λ items. items ≡ in_build_all own) own so
    call call.is_own events grow goes prints

-- what was printed is a part of itself
part-whole : (before after : Option (List ℕ)) (bytes : List ℕ) → Gains before after bytes
    → GainsPart before after bytes
part-whole before None bytes gains = tt
part-whole None (Some after) bytes gains = absurd gains
part-whole (Some before) (Some after) bytes gains =
    (bytes, record { rest = []; is = sym (append-nil bytes) }, gains)

pub prints-cut : (cut : Bool) (first now : Moment) (bytes : List ℕ) → Prints false first now bytes
    → Prints cut first now bytes
prints-cut true first now bytes prints = part-whole first.out now.out bytes prints
prints-cut false first now bytes prints = prints

-- a dry run that the outside ended, as far as it came
pub halted : (meaning : Meaning) (work : Work) (halt : Halt) (first now : Moment) (known : Known)
    (P : Standing) → SoFar meaning work false first now known P → HaltedAt meaning work halt first now
halted meaning work halt first now known P so = (
  known,
  record {
    items = so.items;
    reported = so.reported;
    told = so.told;
    made = λ tasks has.
        let made = so.made tasks has in
        record {
          makes = made.makes;
          printed = prints-cut (is_cut_by halt) first now (printed_all tasks so.items) made.printed;
          stands = tt;
        };
  },
)
