-- Steps of children, children that were given up, and calls without an event of the world.
use Rattle.std.proofs.Common.{◌≡◌, ◌∙◌, ℕ, List, [], ◌∷◌, ◌++◌, Option, Some, None}
use Rattle.std.proofs.Common.{refl, sym, ap, subst}
use Rattle.std.proofs.lemmas.List.{append-nil}
use Rattle.mk_world.specs.History.{State as Stand, MayAll as MayHappen, state_of}
use Rattle.mk_world.specs.Talks.{Meaning}
use Rattle.mk_world.specs.Told.{Told}
use Rattle.mk_world.specs.declared.history.History.{History}
use Rattle.mk_world.specs.declared.step.Deed.{Deed}
use Rattle.mk_trace.specs.Calls.{AreStepItems, AreLeaveItems, Called, NoItem}
use Rattle.mk_trace.specs.Items.{Item, steps, leaves, happened_all, FitsAll, Happened}
use Rattle.mk_trace.proofs.ItemLemmas.{told-none}

-- what holds of no items, and of one step more, holds of steps
pub on_steps : (P : List Item → Type 0) → P []
    → ((ticket owner : ℕ) (deed : Deed) (time : ℕ) (items : List Item) → P items
    → P (steps ticket owner deed time ∷ items))
    → (items : List Item) → AreStepItems items → P items
on_steps P none more [] are = none
on_steps P none more (item ∷ items) are =
    subst (λ one. P (one ∷ items)) (sym are.0.4)
    (more are.0.0 are.0.1 are.0.2 are.0.3 items (on_steps P none more items are.1))

-- and so of children that were given up
pub on_leaves : (P : List Item → Type 0) → P []
    → ((ticket owner : ℕ) (items : List Item) → P items → P (leaves ticket owner ∷ items))
    → (items : List Item) → AreLeaveItems items → P items
on_leaves P none more [] are = none
on_leaves P none more (item ∷ items) are =
    subst (λ one. P (one ∷ items)) (sym are.0.2)
    (more are.0.0 are.0.1 items (on_leaves P none more items are.1))

-- where no call was made
pub called-none : (meaning : Meaning) (told : Option History) → Called meaning told told NoItem
called-none meaning told = record {
  early = [];
  own = [];
  late = [];
  early_steps = tt;
  late_steps = tt;
  is_own = refl;
  told = told-none meaning told;
}

-- items of the report alone
told-own : (meaning : Meaning) (told : Option History) (own : List Item) → happened_all own ≡ []
    → ((stand : Stand) → FitsAll meaning stand own) → Told told told (Happened meaning own)
told-own meaning None own nothing fits = tt
told-own meaning (Some h) own nothing fits = record {
  base = refl;
  events = sym (ap (λ l. h.events ++ l) nothing ∙ append-nil h.events);
  lawful = subst (MayHappen meaning (state_of h)) (sym nothing) tt;
  fits = fits (state_of h);
}

pub called-own : (meaning : Meaning) (told : Option History) (own : List Item)
    → happened_all own ≡ [] → ((stand : Stand) → FitsAll meaning stand own)
    → Called meaning told told (λ items. items ≡ own)
called-own meaning told own nothing fits = record {
  early = [];
  own = own;
  late = [];
  early_steps = tt;
  late_steps = tt;
  is_own = refl;
  told = subst (λ l. Told told told (Happened meaning l)) (sym (append-nil own))
      (told-own meaning told own nothing fits);
}

pub called-none-left : (meaning : Meaning) (told : Option History)
    → Called meaning told told AreLeaveItems
called-none-left meaning told = record {
  early = [];
  own = [];
  late = [];
  early_steps = tt;
  late_steps = tt;
  is_own = tt;
  told = told-none meaning told;
}
