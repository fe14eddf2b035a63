-- What one call of a world adds to a build, as items.
use Rattle.std.specs.Prelude.{◌≡◌, ◌⊎◌, ℕ, List, [], ◌∷◌, ◌++◌, Option}
use Rattle.mk_world.specs.Looks.{Seen}
use Rattle.mk_world.specs.Sinks.{Begins}
use Rattle.mk_world.specs.Talks.{Meaning}
use Rattle.mk_world.specs.Told.{Told}
use Rattle.mk_world.specs.declared.command.Cmd.{Cmd}
use Rattle.mk_world.specs.declared.history.History.{History}
use Rattle.mk_world.specs.declared.step.Deed.{Deed}
use Rattle.mk_world.specs.declared.step.Ended.{Ended}
use Rattle.mk_trace.specs.Items.{Change, gone, head, whole, cut_head, cut_whole, Item, looks, keeps}
use Rattle.mk_trace.specs.Items.{refuses, starts, passes, waits, steps, ends, changes, leaves}
use Rattle.mk_trace.specs.Items.{Happened}

-- items that are all steps of children
abbrev pub AreStepItems : List Item → Type 0
AreStepItems [] = Unit {0}
AreStepItems (item ∷ items) =
    ((ticket owner : ℕ) × (deed : Deed) × (time : ℕ) × (item ≡ steps ticket owner deed time))
    × AreStepItems items

-- items that are all children that were given up
abbrev pub AreLeaveItems : List Item → Type 0
AreLeaveItems [] = Unit {0}
AreLeaveItems (item ∷ items) =
    ((ticket owner : ℕ) × (item ≡ leaves ticket owner)) × AreLeaveItems items

-- steps of children, the call's own items, and steps again
pub record Called (meaning : Meaning) (before after : Option History)
    (Own : List Item → Type 0) : Type 0 where
  pub early : List Item
  pub own : List Item
  pub late : List Item
  pub early_steps : AreStepItems early
  pub late_steps : AreStepItems late
  pub is_own : Own own
  pub told : Told before after (Happened meaning (early ++ (own ++ late)))

abbrev pub NoItem : List Item → Type 0
NoItem own = own ≡ []

abbrev pub StartItem : ℕ → ℕ → ℕ → ℕ → Cmd → List Item → Type 0
StartItem node number ticket owner cmd own = own ≡ starts node number ticket owner cmd ∷ []

abbrev pub EndItem : ℕ → ℕ → Ended → List Item → Type 0
EndItem node number ended own = (owner : ℕ) × (own ≡ ends node number owner ended ∷ [])

abbrev pub LookItem : ℕ → Seen → List Item → Type 0
LookItem node one own = own ≡ looks node one ∷ []

abbrev pub GoneItem : ℕ → List ℕ → List Item → Type 0
GoneItem node path own = (time : ℕ) × (own ≡ changes node (gone path time) ∷ [])

abbrev pub ChangeItem : ℕ → Change → List Item → Type 0
ChangeItem node change own = own ≡ changes node change ∷ []

-- a refused write left nothing, or a part
abbrev pub PartItem : ℕ → (List ℕ → ℕ → Change) → List ℕ → List Item → Type 0
PartItem node cut bytes own =
    (own ≡ [])
    ⊎ ((part : List ℕ) × (time : ℕ) × Begins part bytes × (own ≡ changes node (cut part time) ∷ []))

-- no child is given up
abbrev pub NoneLeft : List Item → Type 0
NoneLeft [] = Unit {0}
NoneLeft (leaves ticket owner ∷ items) = ⊥
NoneLeft (looks node seen ∷ items) = NoneLeft items
NoneLeft (keeps node ∷ items) = NoneLeft items
NoneLeft (refuses node number what ∷ items) = NoneLeft items
NoneLeft (starts node number ticket owner cmd ∷ items) = NoneLeft items
NoneLeft (passes node number ∷ items) = NoneLeft items
NoneLeft (waits ∷ items) = NoneLeft items
NoneLeft (steps ticket owner deed time ∷ items) = NoneLeft items
NoneLeft (ends node number owner ended ∷ items) = NoneLeft items
NoneLeft (changes node change ∷ items) = NoneLeft items

-- Children are given up last: behind that, children do steps at most.
pub record GivesUpLast (items : List Item) : Type 0 where
  pub front : List Item
  pub left : List Item
  pub late : List Item
  pub are : items ≡ front ++ (left ++ late)
  pub none : NoneLeft front
  pub left_are : AreLeaveItems left
  pub late_are : AreStepItems late
