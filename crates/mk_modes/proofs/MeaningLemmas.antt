-- The meaning of a run, by its first steps.
use Rattle.std.proofs.Common.{◌≡◌, ◌⊎◌, ◌<◌, ◌≤◌, ℕ, Bool, false, List, [], Option, Some, None, Ok}
use Rattle.std.proofs.Common.{◌∙◌, inl, inr, refl, sym, ap, subst, arith}
use Rattle.std.proofs.Math.Nat.{lt_irrefl}
use Rattle.std.proofs.lemmas.Bool.{cases_lt}
use Rattle.mk_graph.specs.declared.Made.{Made}
use Rattle.mk_makefile.specs.declared.fault.ReadFault.TheVariants as read
use Rattle.mk_plan.specs.Asking.{answers_by}
use Rattle.mk_plan.specs.Plans.{planned}
use Rattle.mk_plan.specs.Tasks.{setting_of}
use Rattle.mk_plan.specs.Refusals.{IsRefusedBy}
use Rattle.mk_plan.specs.declared.fault.PlanFault.{PlanFault}
use Rattle.mk_plan.specs.declared.fault.PlanFault.TheVariants as plan
use Rattle.mk_world.specs.Causes.{HasCause, Rose, last_count}
use Rattle.mk_world.specs.Deeds.{Store}
use Rattle.mk_world.specs.Runs.{Same}
use Rattle.mk_world.specs.Talks.{Meaning}
use Rattle.mk_world.specs.Told.{Told}
use Rattle.mk_world.specs.declared.history.History.{History}
use Rattle.mk_dirs.proofs.LookLemmas.{ByLooks-map, ByLooks-none, dates-none}
use Rattle.mk_dirs.specs.Answered.{ByLooks}
use Rattle.mk_world.proofs.SinkLemmas.{Gains-nothing}
use Rattle.mk_modes.specs.Building.{IsUnplanned, point, unbuilt}
use Rattle.mk_modes.specs.Causes.{EndCause, LineCause, SinkCause}
use Rattle.mk_modes.specs.Ends.{IsOutside, of_plan}
use Rattle.mk_modes.specs.Meaning.{Outcome, Meant, only, prints, audits, explains, queries, shows, builds, printed, ended}
use Rattle.mk_modes.specs.Modes.{Printed, Goes}
use Rattle.mk_modes.specs.declared.report.End.{End}
use Rattle.mk_modes.specs.declared.report.End.TheVariants.{NoMemory, SinkFault}
use Rattle.mk_modes.proofs.PrintLemmas.{held, Printed-ended, Printed-stopped}

-- nothing happened in between
pub Same-told : (h : Option History) → Told h h Same
Same-told None = tt
Same-told (Some h) = record { base = refl; events = refl }

-- what is printed is all that happens
pub Goes-only : (meaning : Meaning) (outcome : Outcome) (h : Option History) (a b : Option (List ℕ))
    (end : End) → Printed outcome (held a b) end
    → Goes meaning (only outcome) (point h a) (point h b) (unbuilt end)
Goes-only meaning outcome h a b end printed =
    record { printed = printed; unbuilt = refl; same = Same-told h }

-- an end without a line
pub Goes-ended : (meaning : Meaning) (end : End) (h : Option History) (a : Option (List ℕ))
    → Goes meaning (only (ended end)) (point h a) (point h a) (unbuilt end)
Goes-ended meaning end h a = Goes-only meaning (ended end) h a a end (Printed-ended end a)

-- how the outside refuses a plan
outside_fault : (end : End) → IsOutside end
    → (fault : PlanFault) × (end ≡ of_plan fault)
    × ((fault ≡ plan.Failed) ⊎ (fault ≡ plan.NoMemory))
outside_fault end (inl failed) = (plan.Failed, failed, inl refl)
outside_fault end (inr want) = (plan.NoMemory, want, inr refl)

unplanned-stopped : (made : Made) (requested : List (List ℕ)) (query : Bool) (end : End)
    (h : Option History) (a : Option (List ℕ)) → IsOutside end
    → IsUnplanned made requested query (point h a) (point h a) (unbuilt end)
unplanned-stopped made requested query end h a outside =
    let refused = outside_fault end outside in
    record {
      fault = refused.0;
      refused = ByLooks-none h
          (λ files. IsRefusedBy refused.0 (planned files made requested query))
          (λ files. inl refused.2);
      is = ap unbuilt refused.1;
      printed = Gains-nothing a;
    }

-- there was no memory for the names of a plan
pub unplanned-behind : (made : Made) (requested : List (List ℕ)) (query : Bool) (first last : Option History)
    (a : Option (List ℕ)) (Planned : Store → Type 0) → ByLooks first last Planned
    → IsUnplanned made requested query (point first a) (point last a) (unbuilt NoMemory)
unplanned-behind made requested query first last a Planned by = record {
  fault = plan.NoMemory;
  refused = ByLooks-map first last Planned (λ files. IsRefusedBy plan.NoMemory (planned files made requested query)) by
      (λ files is. inl (inr refl));
  is = refl;
  printed = Gains-nothing a;
}

-- the outside or want of memory may end a run before it does what is meant
pub Goes-stopped : (meaning : Meaning) (meant : Meant) (end : End) (h : Option History)
    (a : Option (List ℕ)) → IsOutside end
    → Goes meaning meant (point h a) (point h a) (unbuilt end)
Goes-stopped meaning (only outcome) end h a outside =
    Goes-only meaning outcome h a a end (Printed-stopped outcome end a outside)
Goes-stopped meaning (prints variables lists all) end h a outside = record {
  looked = [];
  told = dates-none h;
  printed = Printed-stopped (printed (setting_of variables lists (answers_by [])) [] 0 all) end a
      outside;
  unbuilt = refl;
}
Goes-stopped meaning (audits env made order) end h a outside =
    inl (unplanned-stopped made order.flags.requested false end h a outside)
Goes-stopped meaning (explains made flags) end h a outside =
    inl (unplanned-stopped made flags.requested false end h a outside)
Goes-stopped meaning (queries made flags) end h a outside =
    inl (unplanned-stopped made flags.requested flags.query end h a outside)
Goes-stopped meaning (shows made flags) end h a outside =
    inl (unplanned-stopped made flags.requested flags.query end h a outside)
Goes-stopped meaning (builds made flags) end h a outside =
    inl (unplanned-stopped made flags.requested flags.query end h a outside)

-- an end that is not this object's, where its count stands still
pub EndCause-never : (failed end : End) (n : ℕ) → (end ≡ failed → ⊥) → EndCause failed n n end
EndCause-never failed end n never = record {
  kept = grind (arith);
  answered = λ rose. absurd (lt_irrefl n rose);
  rose = λ is. absurd (never is);
}

-- a count that a call does not fail by stands still
pub HasCause-same : {A E : Type 0} (failed : E) (before after : ℕ) (given : A)
    → HasCause failed before after (Ok given) → after ≡ before
HasCause-same failed before after given cause =
    let none : before < after → ⊥ = λ rose. let is = cause.answered rose in absurd cc in
    let kept : before ≤ after = cause.kept in omega (arith, none)

-- what ends a run behind a call that went well
pub EndCause-behind : {A E : Type 0} (other : E) (failed end : End) (before mid after : ℕ)
    (given : A) → HasCause other before mid (Ok given) → EndCause failed mid after end
    → EndCause failed before after end
EndCause-behind other failed end before mid after given cause behind =
    subst (λ n. EndCause failed n after end) (HasCause-same other before mid given cause) behind

-- the sinks' counts where the makefiles were read, and output was written behind
pub SinkCause-behind : {A : Type 0} (out later before after : ℕ) (given : A) (end : End)
    → HasCause {T = A} read.Sink before after (Ok given) → EndCause SinkFault out later end
    → SinkCause out later before after end
SinkCause-behind out later before after given end cause behind = record {
  kept_out = behind.kept;
  kept_err = cause.kept;
  rose = λ is. inl (behind.rose is);
  answered = λ rose. answered rose;
}
  where
    answered : (out < later) ⊎ (before < after) → end ≡ SinkFault
    answered (inl rose) = behind.answered rose
    answered (inr rose) = let is = cause.answered rose in absurd cc

-- a rise of a part of the way is one of all of it
rose_at_first : (before mid after : ℕ) → mid ≤ after → Rose before mid → Rose before after
rose_at_first before mid after more (inl rose) = inl (omega (arith, rose, more))
rose_at_first before mid after more (inr full) = inr full

rose_at_last : (before mid after : ℕ) → before ≤ mid → mid ≤ after → Rose mid after
    → Rose before after
rose_at_last before mid after first last (inl rose) = inl (omega (arith, rose, first))
rose_at_last before mid after first last (inr full) = whole (cases_lt before after)
  where
    whole : (before < after) ⊎ (after ≤ before) → Rose before after
    whole (inl rose) = inl rose
    whole (inr same) =
        let equal : before ≡ mid = omega (arith, first, last, same) in
        inr (subst (λ n. last_count ≤ n) (sym equal) full)

-- the sinks' counts of all of a run, with the line of its end
pub SinkCause-closed : (out later before mid after : ℕ) (went end : End)
    → SinkCause out later before mid went → LineCause mid after went end
    → SinkCause out later before after end
SinkCause-closed out later before mid after went end carried line =
    let first : before ≤ mid = carried.kept_err in
    let last : mid ≤ after = line.kept in
    record {
      kept_out = carried.kept_out;
      kept_err = omega (arith, first, last);
      rose = λ is. rose is line.same;
      answered = answered;
    }
  where
    earlier : Rose out later ⊎ Rose before mid → Rose out later ⊎ Rose before after
    earlier (inl a) = inl a
    earlier (inr b) = inr (rose_at_first before mid after line.kept b)

    rose : end ≡ SinkFault → (end ≡ went) ⊎ ((end ≡ SinkFault) × Rose mid after)
        → Rose out later ⊎ Rose before after
    rose is (inl same) = earlier (carried.rose (sym same ∙ is))
    rose is (inr own) = inr (rose_at_last before mid after carried.kept_err line.kept own.1)

    by_line : went ≡ SinkFault → (end ≡ went) ⊎ ((end ≡ SinkFault) × Rose mid after)
        → end ≡ SinkFault
    by_line is (inl same) = same ∙ is
    by_line is (inr own) = own.0

    by_rise : before < after → (before < mid) ⊎ (mid ≤ before) → end ≡ SinkFault
    by_rise all (inl rose) = by_line (carried.answered (inr rose)) line.same
    by_rise all (inr still) = line.answered (omega (arith, all, still))

    answered : (out < later) ⊎ (before < after) → end ≡ SinkFault
    answered (inl a) = by_line (carried.answered (inl a)) line.same
    answered (inr b) = by_rise b (cases_lt before mid)
