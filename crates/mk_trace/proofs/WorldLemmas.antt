-- What calls of a world add, as items.
use Rattle.std.proofs.Common.{◌≡◌, ◌⊎◌, ◌∙◌, inl, inr, ℕ, ◌==◌, List, [], ◌∷◌, ◌++◌, Option, Some, None, Bool, true, false, if◌then◌else◌}
use Rattle.std.proofs.Common.{refl, sym, ap, subst, arith}
use Rattle.std.proofs.lemmas.Grind.{common_steps}
use Rattle.mk_world.proofs.ChildLemmas.{child_in-ticket}
use Rattle.mk_world.specs.Calls.{AreSteps, IsTaken, AddsEvents, Adds, OwnNothing, OwnTime, OwnRead, OwnStamp, OwnPut, OwnPart, OwnStampPart, OwnPutPart, OwnGone, OwnStart, OwnEnd, OwnLeft, left_all}
use Rattle.mk_world.specs.History.{State as Stand, MayAll as MayHappen, after_all as stand_after, state_of, child_in}
use Rattle.mk_world.specs.Looks.{Seen, dated, read, OwnSeen}
use Rattle.mk_world.specs.Sinks.{Begins}
use Rattle.mk_world.specs.Talks.{Meaning}
use Rattle.mk_world.specs.declared.command.Cmd.{Cmd}
use Rattle.mk_world.specs.declared.history.Child.{Child}
use Rattle.mk_world.specs.declared.history.Happening.{Happening}
use Rattle.mk_world.specs.declared.history.Happening.TheVariants as world
use Rattle.mk_world.specs.declared.history.History.{History}
use Rattle.mk_world.specs.declared.step.Ended.{Ended}
use Rattle.mk_trace.specs.Calls.{AreStepItems, AreLeaveItems, Called, NoItem, StartItem, EndItem, LookItem, GoneItem, ChangeItem, PartItem}
use Rattle.mk_trace.specs.Items.{Change, gone, head, whole, cut_head, cut_whole, changed, Item, looks, starts, steps, ends, changes, leaves, happened, happened_all, FitsAll, IsEndOf}
use Rattle.mk_trace.proofs.CallLemmas.{on_steps}
use Rattle.mk_trace.proofs.ItemLemmas.{happened_all-append, FitsAll-append}

abbrev items_of_steps : (events : List Happening) → AreSteps events → List Item
items_of_steps [] are = []
items_of_steps (event ∷ events) are =
    steps are.0.0 are.0.1 are.0.2 are.0.3 ∷ items_of_steps events are.1

happened-steps : (events : List Happening) (are : AreSteps events)
    → happened_all (items_of_steps events are) ≡ events
happened-steps [] are = refl
happened-steps (event ∷ events) are =
    ap (λ l. world.Step are.0.0 are.0.1 are.0.2 are.0.3 ∷ l) (happened-steps events are.1)
    ∙ ap (λ e. e ∷ events) (sym are.0.4)

are_steps : (events : List Happening) (are : AreSteps events)
    → AreStepItems (items_of_steps events are)
are_steps [] are = tt
are_steps (event ∷ events) are =
    ((are.0.0, are.0.1, are.0.2, are.0.3, refl), are_steps events are.1)

fits-steps : (meaning : Meaning) (stand : Stand) (items : List Item) → AreStepItems items
    → FitsAll meaning stand items
fits-steps meaning stand items are =
    on_steps (λ l. (s : Stand) → FitsAll meaning s l) (λ s. tt)
    (λ ticket owner deed time l more s.
    (tt, more (stand_after s (happened (steps ticket owner deed time))))) items are stand

-- the items of a call, by its own events
abbrev pub ItemsFor : Meaning → (List Item → Type 0) → Stand → List Happening → Type 0
ItemsFor meaning OwnItems stand own =
    (items : List Item) × (happened_all items ≡ own) × FitsAll meaning stand items × OwnItems items

called_told : (meaning : Meaning) (Own : Stand → List Happening → Type 0)
    (OwnItems : List Item → Type 0) (old new : History)
    → ((stand : Stand) (own : List Happening) → Own stand own → ItemsFor meaning OwnItems stand own)
    → AddsEvents meaning Own old new → Called meaning (Some old) (Some new) OwnItems
called_told meaning Own OwnItems old new items_for adds =
    let stand = stand_after (state_of old) adds.early in
    let own = items_for stand adds.own adds.is_own in
    let early = items_of_steps adds.early adds.early_steps in
    let late = items_of_steps adds.late adds.late_steps in
    let early_is = happened-steps adds.early adds.early_steps in
    let late_is = happened-steps adds.late adds.late_steps in
    let all_is : happened_all (early ++ (own.0 ++ late)) ≡ adds.early ++ (adds.own ++ adds.late) =
    happened_all-append early (own.0 ++ late)
    ∙ rw (early_is, happened_all-append own.0 late, own.1, late_is) refl in
    record {
      early = early;
      own = own.0;
      late = late;
      early_steps = are_steps adds.early adds.early_steps;
      late_steps = are_steps adds.late adds.late_steps;
      is_own = own.3;
      told = record {
        base = adds.base;
        events = adds.events ∙ ap (λ l. old.events ++ l) (sym all_is);
        lawful = subst (MayHappen meaning (state_of old)) (sym all_is) adds.lawful;
        fits = FitsAll-append meaning (state_of old) early (own.0 ++ late)
            (fits-steps meaning (state_of old) early (are_steps adds.early adds.early_steps))
            (subst (λ l. FitsAll meaning (stand_after (state_of old) l) (own.0 ++ late))
            (sym early_is)
            (FitsAll-append meaning stand own.0 late own.2
            (fits-steps meaning _ late (are_steps adds.late adds.late_steps))));
      };
    }

-- a call adds steps of children and items of its own
pub called : (meaning : Meaning) (Own : Stand → List Happening → Type 0)
    (OwnItems : List Item → Type 0) (before after : Option History)
    → ((stand : Stand) (own : List Happening) → Own stand own → ItemsFor meaning OwnItems stand own)
    → (items : List Item) → OwnItems items
    → Adds meaning before after Own → Called meaning before after OwnItems
called meaning Own OwnItems before None items_for items are adds = record {
  early = [];
  own = items;
  late = [];
  early_steps = tt;
  late_steps = tt;
  is_own = are;
  told = tt;
}
called meaning Own OwnItems None (Some new) items_for items are adds = absurd adds
called meaning Own OwnItems (Some old) (Some new) items_for items are adds =
    called_told meaning Own OwnItems old new items_for adds

pub called-nothing : (meaning : Meaning) (before after : Option History)
    → Adds meaning before after OwnNothing → Called meaning before after NoItem
called-nothing meaning before after adds =
    called meaning OwnNothing NoItem before after
    (λ stand own is. ([], sym is, tt, refl)) [] refl adds

pub called-start : (meaning : Meaning) (before after : Option History)
    (node number ticket owner : ℕ) (cmd : Cmd)
    → Adds meaning before after (OwnStart ticket owner cmd)
    → Called meaning before after (StartItem node number ticket owner cmd)
called-start meaning before after node number ticket owner cmd adds =
    called meaning (OwnStart ticket owner cmd) (StartItem node number ticket owner cmd) before after
    (λ stand own is. (starts node number ticket owner cmd ∷ [], sym is, (tt, tt), refl))
    (starts node number ticket owner cmd ∷ []) refl adds

ends_for : (meaning : Meaning) (node number : ℕ) (ended : Ended) (stand : Stand)
    (own : List Happening) (child : Option Child)
    → child_in stand.children ended.ticket.0 ≡ child → IsTaken meaning ended child own
    → ItemsFor meaning (EndItem node number ended) stand own
ends_for meaning node number ended stand own None is taken = absurd taken
ends_for meaning node number ended stand own (Some child) is taken =
    let ticket = child_in-ticket ended.ticket.0 stand.children child is in (
      ends node number child.owner ended ∷ [],
      ap (λ t. world.End t child.owner ∷ []) (sym ticket) ∙ sym taken.0,
      (
        subst (IsEndOf meaning ended child.owner) (sym is) (ticket, refl, taken.1),
        tt,
      ),
      (child.owner, refl),
    )

pub called-end : (meaning : Meaning) (before after : Option History) (node number : ℕ)
    (ended : Ended) → Adds meaning before after (OwnEnd meaning ended)
    → Called meaning before after (EndItem node number ended)
called-end meaning before after node number ended adds =
    called meaning (OwnEnd meaning ended) (EndItem node number ended) before after
    (λ stand own is. ends_for meaning node number ended stand own
    (child_in stand.children ended.ticket.0) refl is)
    (ends node number 0 ended ∷ []) (0, refl) adds

leave_items : List Child → List Item
leave_items [] = []
leave_items (child ∷ children) = leaves child.ticket child.owner ∷ leave_items children

leaves_for : (meaning : Meaning) (stand : Stand) (children : List Child)
    → ItemsFor meaning AreLeaveItems stand (left_all children)
leaves_for meaning stand [] = ([], refl, tt, tt)
leaves_for meaning stand (child ∷ children) =
    let more = leaves_for meaning
    (stand_after stand (world.Left child.ticket child.owner ∷ [])) children in (
      leaves child.ticket child.owner ∷ more.0,
      ap (λ l. world.Left child.ticket child.owner ∷ l) more.1,
      (tt, more.2),
      ((child.ticket, child.owner, refl), more.3),
    )

pub called-left : (meaning : Meaning) (before after : Option History)
    → Adds meaning before after OwnLeft → Called meaning before after AreLeaveItems
called-left meaning before after adds =
    called meaning OwnLeft AreLeaveItems before after
    (λ stand own is. subst (ItemsFor meaning AreLeaveItems stand) (sym is)
    (leaves_for meaning stand stand.children)) [] tt adds

-- a look
look_for : (meaning : Meaning) (node : ℕ) (seen : Seen) (stand : Stand) (own : List Happening)
    → OwnSeen seen stand own → ItemsFor meaning (LookItem node seen) stand own
look_for meaning node (dated one) stand own is = (looks node (dated one) ∷ [], sym is.0, (is.1, tt), refl)
look_for meaning node (read path bytes) stand own is =
    (looks node (read path bytes) ∷ [], sym is.0, (is.1, tt), refl)

pub called-look : (meaning : Meaning) (before after : Option History) (node : ℕ) (seen : Seen)
    → Adds meaning before after (OwnSeen seen) → Called meaning before after (LookItem node seen)
called-look meaning before after node seen adds =
    called meaning (OwnSeen seen) (LookItem node seen) before after
    (look_for meaning node seen) (looks node seen ∷ []) refl adds

-- a removal
pub called-gone : (meaning : Meaning) (before after : Option History) (node : ℕ) (path : List ℕ)
    → Adds meaning before after (OwnGone path)
    → Called meaning before after (GoneItem node path)
called-gone meaning before after node path adds =
    called meaning (OwnGone path) (GoneItem node path) before after
    (λ stand own is. (changes node (gone path is.0) ∷ [], sym is.1, (tt, tt), (is.0, refl)))
    (changes node (gone path 0) ∷ []) (0, refl) adds

-- a head, or a part of one
pub called-head : (meaning : Meaning) (before after : Option History) (node : ℕ) (path bytes : List ℕ)
    (time : ℕ) → Adds meaning before after (OwnStamp path bytes time)
    → Called meaning before after (ChangeItem node (head path bytes time))
called-head meaning before after node path bytes time adds =
    called meaning (OwnStamp path bytes time) (ChangeItem node (head path bytes time)) before after
    (λ stand own is. (changes node (head path bytes time) ∷ [], sym is, (tt, tt), refl))
    (changes node (head path bytes time) ∷ []) refl adds

-- a whole file, or a part of one
pub called-whole : (meaning : Meaning) (before after : Option History) (node : ℕ)
    (path bytes : List ℕ) (time : ℕ) → Adds meaning before after (OwnPut path bytes time)
    → Called meaning before after (ChangeItem node (whole path bytes time))
called-whole meaning before after node path bytes time adds =
    called meaning (OwnPut path bytes time) (ChangeItem node (whole path bytes time)) before after
    (λ stand own is. (changes node (whole path bytes time) ∷ [], sym is, (tt, tt), refl))
    (changes node (whole path bytes time) ∷ []) refl adds

part_for : (meaning : Meaning) (node : ℕ) (written : List ℕ → ℕ → Happening)
    (cut : List ℕ → ℕ → Change) → ((part : List ℕ) (time : ℕ) → changed (cut part time) ≡ written part time)
    → (bytes : List ℕ) (stand : Stand) (own : List Happening) → OwnPart written bytes stand own
    → ItemsFor meaning (PartItem node cut bytes) stand own
part_for meaning node written cut same bytes stand own (inl none) = ([], sym none, tt, inl refl)
part_for meaning node written cut same bytes stand own (inr is) = (
  changes node (cut is.0 is.1) ∷ [],
  ap (λ e. e ∷ []) (same is.0 is.1) ∙ sym is.3,
  (tt, tt),
  inr (is.0, is.1, is.2, refl),
)

pub called-head_part : (meaning : Meaning) (before after : Option History) (node : ℕ)
    (path bytes : List ℕ) → Adds meaning before after (OwnStampPart path bytes)
    → Called meaning before after (PartItem node (λ part time. cut_head path part time) bytes)
called-head_part meaning before after node path bytes adds =
    called meaning (OwnStampPart path bytes) (PartItem node (λ part time. cut_head path part time) bytes)
    before after
    (part_for meaning node _ (λ part time. cut_head path part time) (λ part time. refl) bytes) []
    (inl refl) adds

pub called-whole_part : (meaning : Meaning) (before after : Option History) (node : ℕ)
    (path bytes : List ℕ) → Adds meaning before after (OwnPutPart path bytes)
    → Called meaning before after (PartItem node (λ part time. cut_whole path part time) bytes)
called-whole_part meaning before after node path bytes adds =
    called meaning (OwnPutPart path bytes) (PartItem node (λ part time. cut_whole path part time) bytes)
    before after
    (part_for meaning node _ (λ part time. cut_whole path part time) (λ part time. refl) bytes) []
    (inl refl) adds
