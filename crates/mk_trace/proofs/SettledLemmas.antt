-- Children along a history: those started are those that run, are taken in or given up.
use Rattle.std.proofs.Common.{◌≡◌, ◌∙◌, ℕ, ◌==◌, ◌+◌, List, [], ◌∷◌, ◌++◌, Option, Some, None, Bool, true, false, if◌then◌else◌}
use Rattle.std.proofs.Common.{refl, sym, ap, arith}
use Rattle.std.proofs.lemmas.Bool.Decides.{nat_tests}
use Rattle.std.proofs.lemmas.Grind.{common_steps}
use Rattle.mk_world.specs.History.{State as Stand, MayAll as MayHappen, after as stand_next, after_all as stand_after, child_in, without_child, stepped, children_after, state_of, MayEnd, MayLeave}
use Rattle.mk_world.specs.Talks.{Meaning}
use Rattle.mk_world.specs.declared.history.Child.{Child}
use Rattle.mk_world.specs.declared.history.Happening.{Happening}
use Rattle.mk_world.specs.declared.history.Happening.TheVariants.{Edit, Look, Stamp, Put, Gone, Ask, Start, Step, End, Left}
use Rattle.mk_world.specs.declared.step.Deed.{Deed}
use Rattle.mk_world.specs.Told.{Told}
use Rattle.mk_world.specs.declared.history.History.{History}
use Rattle.mk_world.proofs.CallLemmas.{no_tickets}
use Rattle.mk_world.proofs.IdleLemmas.{IsIdle}
use Rattle.mk_trace.specs.Items.{Item, happened_all, Happened}
use Rattle.mk_trace.specs.Settled.{is_start, is_settled, times, EachSettled}
use Rattle.mk_trace.proofs.ItemLemmas.{state_of-happened}

abbrev has_ticket : ℕ → Child → Bool
has_ticket one child = child.ticket == one

-- how many children run under a ticket
abbrev held : ℕ → List Child → ℕ
held one children = times (has_ticket one) children

held-append : (one : ℕ) (children : List Child) (child : Child)
    → held one (children ++ child ∷ []) ≡ held one children + (if child.ticket == one then 1 else 0)
held-append one [] child = omega arith
held-append one (first ∷ children) child =
    let more = held-append one children child in omega arith

held-stepped : (one ticket : ℕ) (deed : Deed) (children : List Child)
    → held one (stepped ticket deed children) ≡ held one children
held-stepped one ticket deed [] = refl
held-stepped one ticket deed (child ∷ children) =
    by (child.ticket == ticket) refl (held-stepped one ticket deed children)
  where
    by : (same : Bool) → (child.ticket == ticket) ≡ same
        → held one (stepped ticket deed children) ≡ held one children
        → held one (stepped ticket deed (child ∷ children)) ≡ held one (child ∷ children)
    by true is more = rw is refl
    by false is more = rw is (ap (λ k. (if child.ticket == one then 1 else 0) + k) more)

held-without : (one ticket : ℕ) (children : List Child) (child : Child)
    → child_in children ticket ≡ Some child
    → held one (without_child ticket children) + (if ticket == one then 1 else 0)
    ≡ held one children
held-without one ticket [] child is = cc
held-without one ticket (first ∷ children) child is =
    by (first.ticket == ticket) refl is (held-without one ticket children child)
  where
    by : (same : Bool) → (first.ticket == ticket) ≡ same
        → (if same then Some first else child_in children ticket) ≡ Some child
        → (child_in children ticket ≡ Some child
        → held one (without_child ticket children) + (if ticket == one then 1 else 0)
        ≡ held one children)
        → held one (without_child ticket (first ∷ children)) + (if ticket == one then 1 else 0)
        ≡ held one (first ∷ children)
    by true same found more =
        let tickets : first.ticket ≡ ticket = grind (arith, nat_tests, common_steps) in
        rw (same, tickets) (omega arith)
    by false other found more =
        let rest = more found in rw other (omega (arith, rest))

ends-balance : (one ticket : ℕ) (children : List Child) (child : Option Child)
    → child_in children ticket ≡ child → (child ≡ None → ⊥)
    → held one children
    ≡ (if ticket == one then 1 else 0) + held one (without_child ticket children)
ends-balance one ticket children None is some = absurd (some refl)
ends-balance one ticket children (Some child) is some =
    let less = held-without one ticket children child is in omega (arith, less)

may-end : (meaning : Meaning) (owner : ℕ) (child : Option Child)
    → MayEnd meaning.next owner child → child ≡ None → ⊥
may-end meaning owner None may is = may
may-end meaning owner (Some child) may is = cc

may-leave : (owner : ℕ) (child : Option Child) → MayLeave owner child → child ≡ None → ⊥
may-leave owner None may is = may
may-leave owner (Some child) may is = cc

-- one event: a start adds a child, and an end or a leaving takes one away
balance-one : (meaning : Meaning) (one : ℕ) (stand : Stand) (event : Happening)
    → MayHappen meaning stand (event ∷ [])
    → (if is_start one event then 1 else 0) + held one stand.children
    ≡ (if is_settled one event then 1 else 0) + held one (children_after stand.children event)
balance-one meaning one stand (Edit path bytes time) may = refl
balance-one meaning one stand (Look path) may = refl
balance-one meaning one stand (Stamp path bytes time) may = refl
balance-one meaning one stand (Put path bytes time) may = refl
balance-one meaning one stand (Gone path time) may = refl
balance-one meaning one stand (Ask cmd steps) may = refl
balance-one meaning one stand (Start ticket owner cmd) may =
    let more = held-append one stand.children
    (record { ticket = ticket; owner = owner; cmd = cmd; deeds = [] }) in omega (arith, more)
balance-one meaning one stand (Step ticket owner deed time) may =
    ap (λ k. 0 + k) (sym (held-stepped one ticket deed stand.children))
balance-one meaning one stand (End ticket owner) may =
    let more = ends-balance one ticket stand.children (child_in stand.children ticket) refl
    (may-end meaning owner (child_in stand.children ticket) may.0.1) in omega (arith, more)
balance-one meaning one stand (Left ticket owner) may =
    let more = ends-balance one ticket stand.children (child_in stand.children ticket) refl
    (may-leave owner (child_in stand.children ticket) may.0.1) in omega (arith, more)

balance : (meaning : Meaning) (one : ℕ) (stand : Stand) (events : List Happening)
    → MayHappen meaning stand events
    → times (is_start one) events + held one stand.children
    ≡ times (is_settled one) events + held one (stand_after stand events).children
balance meaning one stand [] may = refl
balance meaning one stand (event ∷ events) may =
    let here = balance-one meaning one stand event (may.0, tt) in
    let more = balance meaning one (stand_next stand event) events may.1 in
    omega (arith, here, more)

-- where no child runs before and behind some events, each that was started is settled
pub each-settled : (meaning : Meaning) (stand : Stand) (events : List Happening)
    → MayHappen meaning stand events → stand.children ≡ []
    → (stand_after stand events).children ≡ [] → EachSettled events
each-settled meaning stand events may before behind one =
    let all = balance meaning one stand events may in
    let none : held one stand.children ≡ 0 = ap (held one) before in
    let none_left : held one (stand_after stand events).children ≡ 0 = ap (held one) behind in
    omega (arith, all, none, none_left)

-- a build of a world that tells, in which no child runs before and behind it
pub told-settled : (meaning : Meaning) (items : List Item) (before after : Option History)
    → Told before after (Happened meaning items) → IsIdle before → IsIdle after
    → Told before after (λ old new. EachSettled (happened_all items))
told-settled meaning items before None told idle still = tt
told-settled meaning items None (Some new) told idle still = absurd told
told-settled meaning items (Some old) (Some new) told idle still =
    let behind : (stand_after (state_of old) (happened_all items)).children ≡ [] =
    ap (λ s. s.children) (sym (state_of-happened meaning items old new told))
    ∙ no_tickets (state_of new).children (still new refl) in
    each-settled meaning (state_of old) (happened_all items) told.lawful
    (no_tickets (state_of old).children (idle old refl)) behind
