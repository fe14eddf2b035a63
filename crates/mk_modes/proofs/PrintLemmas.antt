-- What standard output has after some prints.
use Rattle.std.proofs.Common.{◌≡◌, ◌∷◌, ◌++◌, ℕ, ◌+◌, List, [], Option, inl, inr, refl, ap, subst, ◌∙◌}
use Rattle.std.proofs.Common.{Result, Ok, Err, ◌⊎◌, ◌<◌, ◌≤◌, length, drop, get_or, arith}
use Rattle.std.proofs.lemmas.Grind.{common_steps}
use Rattle.std.proofs.Common.{append_assoc}
use Rattle.mk_bytes.specs.Bytes.{newline}
use Rattle.mk_cli.specs.declared.order.Print.{Print}
use Rattle.mk_values.specs.declared.fault.ExpandFault.{ExpandFault}
use Rattle.mk_values.specs.Facts.{IsOutside as IsOutsideText}
use Rattle.mk_values.specs.declared.facts.Asked.{Asked}
use Rattle.mk_values.specs.Facts.{Lists}
use Rattle.mk_values.proofs.FactLemmas.{asks_both, asks_nothing}
use Rattle.mk_plan.specs.Tasks.{Setting}
use Rattle.mk_world.specs.Sinks.{Gains, GainsPart}
use Rattle.mk_world.proofs.SinkLemmas.{Gains-nothing, Gains-then, GainsPart-more, GainsPart-then}
use Rattle.mk_modes.specs.Ends.{IsOutside}
use Rattle.mk_modes.specs.Meaning.{Outcome, ended, line_first, print_end}
use Rattle.mk_modes.specs.Meaning.{before_others, shown, printed}
use Rattle.mk_modes.specs.Modes.{bytes_of, Held, Stands, Printed}
use Rattle.mk_modes.specs.Modes.{PrintedLine, Questions}
use Rattle.mk_modes.specs.declared.report.End.{End}
use Rattle.mk_modes.specs.declared.report.End.TheVariants.{Done, SinkFault}
use Rattle.mk_modes.specs.declared.report.End.TheVariants.{NoMemory as no_memory, WorldFault as world_failed}

abbrev pub held : Option (List ℕ) → Option (List ℕ) → Held
held before after = record { before = before; after = after }

-- an end without a line
pub Printed-ended : (end : End) (a : Option (List ℕ)) → Printed (ended end) (held a a) end
Printed-ended end a = inl (record {
  stood = ended end;
  stands = inl refl;
  is = refl;
  printed = Gains-nothing a;
})

-- a fault of the outside or of memory may come before anything is printed
pub Printed-stopped : (meant : Outcome) (end : End) (a : Option (List ℕ)) → IsOutside end
    → Printed meant (held a a) end
Printed-stopped meant end a outside = inl (record {
  stood = ended end;
  stands = inr (record { outside = outside; others = meant.lines; first = refl });
  is = refl;
  printed = Gains-nothing a;
})

-- a line that could not be written whole
pub Printed-cut : (line : List ℕ) (others : Outcome) (a b : Option (List ℕ))
    → GainsPart a b (line ++ newline ∷ []) → Printed (line_first line others) (held a b) SinkFault
Printed-cut line others a b part = inr (record {
  is = refl;
  printed = subst (GainsPart a b) (append_assoc line (newline ∷ []) (bytes_of others.lines))
      (GainsPart-more a b (line ++ newline ∷ []) (bytes_of others.lines) part);
})

Stands-line : (line : List ℕ) (stood meant : Outcome) → Stands stood meant
    → Stands (line_first line stood) (line_first line meant)
Stands-line line stood meant (inl is) = inl (ap (line_first line) is)
Stands-line line stood meant (inr stopped) = inr (record {
  outside = stopped.outside;
  others = stopped.others;
  first = ap (λ lines. line ∷ lines) stopped.first;
})

-- a line, and then the others
pub Printed-next : (line : List ℕ) (others : Outcome) (a b c : Option (List ℕ)) (end : End)
    → Gains a b (line ++ newline ∷ []) → Printed others (held b c) end
    → Printed (line_first line others) (held a c) end
Printed-next line others a b c end gains (inl whole) = inl (record {
  stood = line_first line whole.stood;
  stands = Stands-line line whole.stood others whole.stands;
  is = whole.is;
  printed = subst (Gains a c) (append_assoc line (newline ∷ []) (bytes_of whole.stood.lines))
      (Gains-then a b c (line ++ newline ∷ []) (bytes_of whole.stood.lines) gains whole.printed);
})
Printed-next line others a b c end gains (inr cut) = inr (record {
  is = cut.is;
  printed = subst (GainsPart a c) (append_assoc line (newline ∷ []) (bytes_of others.lines))
      (GainsPart-then a b c (line ++ newline ∷ []) (bytes_of others.lines) gains cut.printed);
})

-- prints from a place on: the first of them, and those behind it
pub printed-print : (s : Setting) (asked : List Asked) (i : ℕ) (print : Print) (prints : List Print)
    → printed s asked i (print ∷ prints)
    ≡ before_others i (shown s asked print) (λ now. printed s now (i + 1) prints)
unfolding printed
printed-print s asked i print prints = refl

pub printed-none : (s : Setting) (asked : List Asked) (i : ℕ) → printed s asked i [] ≡ ended Done
unfolding printed
printed-none s asked i = refl

-- what comes of the prints behind one that went well comes of all of them
pub Printed-behind : (s : Setting) (asked now : List Asked) (i : ℕ) (print : Print)
    (left prints : List Print) (a b c : Option (List ℕ)) (end : End) → left ≡ print ∷ prints
    → PrintedLine (shown s asked print) now (held a b)
    → Printed (printed s now (i + 1) prints) (held b c) end
    → Printed (printed s asked i left) (held a c) end
Printed-behind s asked now i print left prints a b c end is line behind =
    let here : printed s asked i left ≡ line_first line.line (printed s now (i + 1) prints) =
    rw (is, printed-print s asked i print prints, line.is) refl
    in
    rw here (Printed-next line.line (printed s now (i + 1) prints) a b c end line.gains behind)

-- the end at a print's fault is the end of all prints
pub Printed-at : (s : Setting) (asked : List Asked) (i : ℕ) (print : Print)
    (left prints : List Print) (a b : Option (List ℕ)) (end : End) → left ≡ print ∷ prints
    → ((others : List Asked → Outcome)
    → Printed (before_others i (shown s asked print) others) (held a b) end)
    → Printed (printed s asked i left) (held a b) end
Printed-at s asked i print left prints a b end is ends =
    let here : printed s asked i left
    ≡ before_others i (shown s asked print) (λ now. printed s now (i + 1) prints) =
    rw is (printed-print s asked i print prints)
    in
    rw here (ends (λ now. printed s now (i + 1) prints))

-- no print is left
pub Printed-over : (s : Setting) (asked : List Asked) (i : ℕ) (left : List Print)
    (a : Option (List ℕ)) → left ≡ [] → Printed (printed s asked i left) (held a a) Done
Printed-over s asked i left a is =
    let here : printed s asked i left ≡ ended Done = rw is (printed-none s asked i) in
    rw here (Printed-ended Done a)

-- the end of one print: a fault of its own, want of memory or of the outside, or a write that failed
pub Printed-fault : (i : ℕ) (fault : ExpandFault) (value : Result (List ℕ × List Asked) ExpandFault)
    (others : List Asked → Outcome) (a : Option (List ℕ))
    → IsOutsideText fault ⊎ (value ≡ Err fault)
    → Printed (before_others i value others) (held a a) (print_end i fault)
Printed-fault i fault value others a (inl (inl want)) =
    let is : print_end i fault ≡ no_memory = rw want refl in
    rw is (Printed-stopped (before_others i value others) no_memory a (inr refl))
Printed-fault i fault value others a (inl (inr failed)) =
    let is : print_end i fault ≡ world_failed = rw failed refl in
    rw is (Printed-stopped (before_others i value others) world_failed a (inl refl))
Printed-fault i fault value others a (inr is) = rw is (Printed-ended (print_end i fault) a)

pub Printed-cut_line : (i : ℕ) (line : List ℕ) (now : List Asked)
    (value : Result (List ℕ × List Asked) ExpandFault)
    (others : List Asked → Outcome) (a b : Option (List ℕ)) → value ≡ Ok (line, now)
    → GainsPart a b (line ++ newline ∷ [])
    → Printed (before_others i value others) (held a b) SinkFault
Printed-cut_line i line now value others a b is part =
    rw is (Printed-cut line (others now) a b part)

-- the items from a place on, where its item is known, and behind the last one
pub drop-item : {X : Type 0} (items : List X) (i : ℕ) (item : X) → i < length items
    → item ≡ get_or items i item → drop i items ≡ item ∷ drop (i + 1) items
drop-item items i item within is = grind (arith, common_steps)

pub drop-all : {X : Type 0} (items : List X) (i : ℕ) → length items ≤ i → drop i items ≡ []
drop-all items i behind = grind (arith, common_steps)

-- no question
pub questions-none : {leads : Type 0} (stays : leads) (lists : Lists) (asked : List Asked)
    → Questions leads lists lists asked asked
questions-none stays lists asked = record { led = stays; lists = refl; asked = asks_nothing asked }

-- questions, one after the other
pub questions-then : {one two both : Type 0} {l0 l1 l2 : Lists} {a0 a1 a2 : List Asked}
    → (one → two → both) → Questions one l0 l1 a0 a1 → Questions two l1 l2 a1 a2
    → Questions both l0 l2 a0 a2
questions-then {one} {two} {both} {l0} {l1} {l2} {a0} {a1} {a2} goes_on first second = record {
  led = goes_on first.led second.led;
  lists = second.lists ∙ first.lists;
  asked = asks_both a0 a1 a2 first.asked second.asked;
}
