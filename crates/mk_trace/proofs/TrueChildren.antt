-- Running children, by their tickets and owners, and what their steps change.
use Rattle.std.proofs.Common.{◌≡◌, ◌≢◌, ℕ, zero, suc, ◌==◌, List, [], ◌∷◌, ◌++◌, map, Option, Some, None}
use Rattle.std.proofs.Common.{refl, sym, ap, subst, arith, eq-eqb, ne_eqb}
use Rattle.std.proofs.lemmas.Bool.{cond_both}
use Rattle.std.specs.List.{Contains}
use Rattle.mk_meta.specs.TrueHistory.{LeavesAlone, changed_paths}
use Rattle.mk_world.proofs.ChildLemmas.{child_in-none, Once, once-last, once-step, once-without}
use Rattle.mk_world.specs.Calls.{EndsAs}
use Rattle.mk_world.specs.Deeds.{Spot, Store, changes}
use Rattle.mk_world.specs.History.{State, May, MayAll, MayStep, IsStep, after, after_all, at_time, child_in, children_after, stepped}
use Rattle.mk_world.specs.Talks.{Meaning, NextOf}
use Rattle.mk_world.specs.declared.history.Child.{Child}
use Rattle.mk_world.specs.declared.history.Happening.{Happening}
use Rattle.mk_world.specs.declared.history.Happening.TheVariants.{Edit, Look, Stamp, Put, Gone, Ask, Start, Step, End, Left}
use Rattle.mk_world.specs.declared.step.Deed.{Deed}
use Rattle.mk_world.specs.declared.step.Ended.{Ended}
use Rattle.mk_trace.specs.Items.{IsEndOf}

pub contains-more : {A : Type 0} (first : A) (items : List A) (one : A) → Contains items one
    → Contains (first ∷ items) one
contains-more first items one has = (suc has.0, let less = has.1 in omega (arith, less), has.2)

pub contains-here : {A : Type 0} (one : A) (items : List A) → Contains (one ∷ items) one
contains-here one items = (0, omega arith, refl)

pub contains-mid : {A : Type 0} (before items : List A) (one : A) → Contains items one
    → Contains (before ++ items) one
contains-mid [] items one has = has
contains-mid (first ∷ before) items one has =
    contains-more first (before ++ items) one (contains-mid before items one has)

pub child_in-contains : (children : List Child) (ticket : ℕ) (child : Child)
    → child_in children ticket ≡ Some child → Contains children child
child_in-contains [] ticket child is = cc
child_in-contains (first ∷ others) ticket child is =
    cond_both (first.ticket == ticket) (Some first) (child_in others ticket)
    (λ r. r ≡ Some child → Contains (first ∷ others) child)
    (λ here given. let same : first ≡ child = cc in subst (Contains (first ∷ others)) same (contains-here first others))
    (λ other given. contains-more first others child (child_in-contains others ticket child given)) is

pub once-found : (children : List Child) (one : Child) → Once children → Contains children one
    → child_in children one.ticket ≡ Some one
once-found [] one once has = let less = has.1 in absurd (omega (arith, less))
once-found (first ∷ others) one once (zero, less, is) =
    let same : first ≡ one = is in
    rw (eq-eqb first.ticket one.ticket (ap (λ (c : Child). c.ticket) same)) (ap Some same)
once-found (first ∷ others) one once (suc place, less, is) =
    let has : Contains others one = (place, omega (arith, less), is) in
    let apart : first.ticket ≢ one.ticket = λ same.
    child_in-none first.ticket others one once.0 has (sym same) in
    rw (ne_eqb first.ticket one.ticket apart) (once-found others one once.1 has)

pub once-after : (meaning : Meaning) (state : State) (event : Happening) → May meaning state event
    → Once state.children → Once (children_after state.children event)
once-after meaning state (Start ticket owner cmd) may once = once-last state.children _ once may.1
once-after meaning state (Step ticket owner deed time) may once = once-step ticket deed state.children once
once-after meaning state (End ticket owner) may once = once-without ticket state.children once
once-after meaning state (Left ticket owner) may once = once-without ticket state.children once
once-after meaning state (Edit path bytes time) may once = once
once-after meaning state (Look path) may once = once
once-after meaning state (Stamp path bytes time) may once = once
once-after meaning state (Put path bytes time) may once = once
once-after meaning state (Gone path time) may once = once
once-after meaning state (Ask cmd steps) may once = once

pub once-all : (meaning : Meaning) (state : State) (events : List Happening) → MayAll meaning state events
    → Once state.children → Once (after_all state events).children
once-all meaning state [] may once = once
once-all meaning state (event ∷ events) may once =
    once-all meaning (after state event) events may.1 (once-after meaning state event may.0 once)

-- a step changes no owner
pub owner-stepped : (ticket : ℕ) (deed : Deed) (children : List Child) (one : Child)
    → Contains (stepped ticket deed children) one
    → (before : Child) × Contains children before × (before.owner ≡ one.owner)
owner-stepped ticket deed [] one has = let less = has.1 in absurd (omega (arith, less))
owner-stepped ticket deed (first ∷ others) one has =
    let new : Child = record first { deeds = first.deeds ++ deed ∷ [] } in
    cond_both (first.ticket == ticket) (new ∷ others) (first ∷ stepped ticket deed others)
    (λ l. Contains l one → (before : Child) × Contains (first ∷ others) before × (before.owner ≡ one.owner))
    (λ here given. now given) (λ other given. later (owner-stepped ticket deed others one) given) has
  where
    now : Contains (record first { deeds = first.deeds ++ deed ∷ [] } ∷ others) one
        → (before : Child) × Contains (first ∷ others) before × (before.owner ≡ one.owner)
    now (zero, less, is) = (first, contains-here first others, ap (λ (c : Child). c.owner) is)
    now (suc place, less, is) = (one, (suc place, less, is), refl)

    later : (Contains (stepped ticket deed others) one
        → (before : Child) × Contains others before × (before.owner ≡ one.owner))
        → Contains (first ∷ stepped ticket deed others) one
        → (before : Child) × Contains (first ∷ others) before × (before.owner ≡ one.owner)
    later go (zero, less, is) = (first, contains-here first others, ap (λ (c : Child). c.owner) is)
    later go (suc place, less, is) =
        let more = go (place, omega (arith, less), is) in
        (more.0, contains-more first others more.0 more.1, more.2)

-- the child of a step, and of an end

pub step-child : (next : NextOf) (store : Store) (owner : ℕ) (deed : Deed) (found : Option Child)
    → MayStep next store owner deed found
    → (child : Child) × (found ≡ Some child) × IsStep next store owner deed child
step-child next store owner deed None may = absurd may
step-child next store owner deed (Some child) may = (child, refl, may)

pub end-child : (meaning : Meaning) (one : Ended) (owner : ℕ) (found : Option Child)
    → IsEndOf meaning one owner found
    → (child : Child) × (found ≡ Some child) × (child.owner ≡ owner) × EndsAs meaning one child
end-child meaning one owner None is = absurd is
end-child meaning one owner (Some child) is = (child, refl, is.1, is.2)

-- a step that does not change a path

spots-leave : (time : ℕ) (path : List ℕ) (spots : List Spot)
    → (Contains (map (λ (spot : Spot). spot.path) spots ++ []) path → ⊥)
    → LeavesAlone path (at_time time spots)
spots-leave time path [] none = tt
spots-leave time path (spot ∷ spots) none = (
  (λ same. none (0, omega arith, same)),
  spots-leave time path spots (λ has. none (contains-more spot.path _ path has)),
)

pub step-leaves : (time : ℕ) (path : List ℕ) (deed : Deed) → (Contains (changed_paths (deed ∷ [])) path → ⊥)
    → LeavesAlone path (at_time time (changes deed))
step-leaves time path deed none = spots-leave time path (changes deed) none
