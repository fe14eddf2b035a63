-- The running children, by their tickets.
use Rattle.std.proofs.Common.{◌≡◌, ◌≢◌, ◌∙◌, ◌⊎◌, ℕ, zero, suc, ◌==◌, true, false, List, [], ◌∷◌, ◌++◌, Some, None}
use Rattle.std.proofs.Common.{inl, inr, refl, sym, ap, subst, arith, eq-eqb, eqb-true, ne_eqb}
use Rattle.std.proofs.lemmas.Bool.{cond_both, false≢true}
use Rattle.std.proofs.lemmas.Bool.Decides.{nat_tests}
use Rattle.std.proofs.lemmas.Grind.{common_steps}
use Rattle.std.specs.List.{Contains}
use Rattle.mk_world.specs.History.{child_in, stepped, tickets_of, without_child}
use Rattle.mk_world.specs.declared.history.Child.{Child}
use Rattle.mk_world.specs.declared.step.Deed.{Deed}

-- the first of the children
pub child_in-first : (child : Child) (others : List Child) (ticket : ℕ) → child.ticket ≡ ticket
    → child_in (child ∷ others) ticket ≡ Some child
child_in-first child others ticket is = grind (arith, nat_tests, common_steps)

pub without_child-first : (child : Child) (others : List Child)
    → without_child child.ticket (child ∷ others) ≡ others
without_child-first child others = grind (arith, nat_tests, common_steps)

-- a child that is found has the ticket
pub child_in-ticket : (ticket : ℕ) (children : List Child) (child : Child)
    → child_in children ticket ≡ Some child → child.ticket ≡ ticket
child_in-ticket ticket [] child is = cc
child_in-ticket ticket (first ∷ others) child is =
    grind (arith, nat_tests, common_steps, child_in-ticket ticket others child)

-- a child that has done one step more is found
pub child_in-stepped : (ticket : ℕ) (deed : Deed) (children : List Child) (child : Child)
    → child_in children ticket ≡ Some child
    → child_in (stepped ticket deed children) ticket
    ≡ Some (record child { deeds = child.deeds ++ deed ∷ [] })
child_in-stepped ticket deed [] child is = cc
child_in-stepped ticket deed (first ∷ others) child is =
    grind (arith, nat_tests, common_steps, child_in-stepped ticket deed others child)

-- a step of one child leaves the others
pub child_in-other : (ticket other : ℕ) (deed : Deed) (children : List Child)
    → (ticket == other) ≡ false
    → child_in (stepped ticket deed children) other ≡ child_in children other
child_in-other ticket other deed [] differ = refl
child_in-other ticket other deed (first ∷ others) differ =
    grind (arith, nat_tests, common_steps, child_in-other ticket other deed others)

-- a child that is taken out after a step
pub without_child-stepped : (ticket : ℕ) (deed : Deed) (children : List Child)
    → without_child ticket (stepped ticket deed children) ≡ without_child ticket children
without_child-stepped ticket deed [] = refl
without_child-stepped ticket deed (first ∷ others) =
    grind (arith, nat_tests, common_steps, without_child-stepped ticket deed others)

-- a step changes no ticket
pub tickets_of-stepped : (ticket : ℕ) (deed : Deed) (children : List Child)
    → tickets_of (stepped ticket deed children) ≡ tickets_of children
tickets_of-stepped ticket deed [] = refl
tickets_of-stepped ticket deed (first ∷ others) =
    grind (arith, nat_tests, common_steps, tickets_of-stepped ticket deed others)

-- children of other tickets, one child more and one less

pub child_in-none : (ticket : ℕ) (children : List Child) (one : Child) → child_in children ticket ≡ None
    → Contains children one → one.ticket ≢ ticket
child_in-none ticket [] one none has same = absurd (omega (arith, has.1))
child_in-none ticket (first ∷ others) one none (zero, less, is) same =
    let here : (first.ticket == ticket) ≡ true =
    eq-eqb first.ticket ticket (ap (λ (c : Child). c.ticket) is ∙ same) in
    let found : child_in (first ∷ others) ticket ≡ Some first = rw here refl in cc
child_in-none ticket (first ∷ others) one none (suc k, less, is) same =
    child_in-none ticket others one
    (cond_both (first.ticket == ticket) (Some first) (child_in others ticket)
    (λ r. r ≡ None → child_in others ticket ≡ None) (λ _ given. cc) (λ _ given. given) none)
    (k, omega (arith, less), is) same

-- one child more
pub child_in-front : (children : List Child) (new : Child) (ticket : ℕ) (child : Child)
    → child_in children ticket ≡ Some child → child_in (children ++ new ∷ []) ticket ≡ Some child
child_in-front [] new ticket child is = cc
child_in-front (first ∷ others) new ticket child is =
    cond_both (first.ticket == ticket) (Some first) (child_in others ticket)
    (λ r. r ≡ Some child → child_in ((first ∷ others) ++ new ∷ []) ticket ≡ Some child)
    (λ here given. rw here given)
    (λ other given. rw other (child_in-front others new ticket child given)) is

pub child_in-last : (children : List Child) (new : Child) → child_in children new.ticket ≡ None
    → child_in (children ++ new ∷ []) new.ticket ≡ Some new
child_in-last [] new none = rw (eq-eqb new.ticket new.ticket refl) refl
child_in-last (first ∷ others) new none =
    cond_both (first.ticket == new.ticket) (Some first) (child_in others new.ticket)
    (λ r. r ≡ None → child_in ((first ∷ others) ++ new ∷ []) new.ticket ≡ Some new)
    (λ here given. cc) (λ other given. rw other (child_in-last others new given)) none

pub contains-last : (children : List Child) (new one : Child) → Contains (children ++ new ∷ []) one
    → Contains children one ⊎ (new ≡ one)
contains-last [] new one (zero, less, is) = inr is
contains-last [] new one (suc k, less, is) = absurd (omega (arith, less))
contains-last (first ∷ others) new one (zero, less, is) = inl (0, omega arith, is)
contains-last (first ∷ others) new one (suc k, less, is) =
    elim (contains-last others new one (k, omega (arith, less), is)) [
      | inl before ↦ inl (suc before.0, omega (arith, before.1), before.2)
      | inr last ↦ inr last
    ]

-- one child less
pub child_in-without : (ticket other : ℕ) (children : List Child) (child : Child) → other ≢ ticket
    → child_in children other ≡ Some child
    → child_in (without_child ticket children) other ≡ Some child
child_in-without ticket other [] child apart is = cc
child_in-without ticket other (first ∷ others) child apart is =
    cond_both (first.ticket == ticket) others (first ∷ without_child ticket others)
    (λ l. child_in l other ≡ Some child)
    (λ taken. cond_both (first.ticket == other) (Some first) (child_in others other)
    (λ r. r ≡ Some child → child_in others other ≡ Some child)
    (λ same given.
    absurd (apart (sym (eqb-true first.ticket other same) ∙ eqb-true first.ticket ticket taken)))
    (λ _ given. given) is)
    (λ stays. cond_both (first.ticket == other) (Some first) (child_in others other)
    (λ r. r ≡ Some child → child_in (first ∷ without_child ticket others) other ≡ Some child)
    (λ same given. rw same given)
    (λ differ given. rw differ (child_in-without ticket other others child apart given)) is)

pub contains-without : (ticket : ℕ) (children : List Child) (one : Child)
    → Contains (without_child ticket children) one → Contains children one
contains-without ticket [] one has = has
contains-without ticket (first ∷ others) one has =
    cond_both (first.ticket == ticket) others (first ∷ without_child ticket others)
    (λ l. Contains l one → Contains (first ∷ others) one)
    (λ taken given. (suc given.0, omega (arith, given.1), given.2))
    (λ stays given. at (contains-without ticket others one) given) has
  where
    at : (Contains (without_child ticket others) one → Contains others one)
        → Contains (first ∷ without_child ticket others) one → Contains (first ∷ others) one
    at go (zero, less, is) = (0, omega arith, is)
    at go (suc k, less, is) =
        let rest = go (k, omega (arith, less), is) in (suc rest.0, omega (arith, rest.1), rest.2)

-- no two children have one ticket
abbrev pub Once : List Child → Type 0
Once [] = Unit {0}
Once (child ∷ more) = (child_in more child.ticket ≡ None) × Once more

none-append : (children : List Child) (new : Child) (ticket : ℕ) → child_in children ticket ≡ None
    → new.ticket ≢ ticket → child_in (children ++ new ∷ []) ticket ≡ None
none-append [] new ticket none apart =
    cond_both (new.ticket == ticket) (Some new) None (λ r. r ≡ None)
    (λ same. absurd (apart (eqb-true new.ticket ticket same))) (λ other. refl)
none-append (first ∷ others) new ticket none apart =
    cond_both (first.ticket == ticket) (Some first) (child_in others ticket)
    (λ r. r ≡ None → child_in ((first ∷ others) ++ new ∷ []) ticket ≡ None) (λ here given. cc)
    (λ other given. rw other (none-append others new ticket given apart)) none

head-none : (first : Child) (others : List Child) (ticket : ℕ) → child_in (first ∷ others) ticket ≡ None
    → (first.ticket ≢ ticket) × (child_in others ticket ≡ None)
head-none first others ticket none =
    cond_both (first.ticket == ticket) (Some first) (child_in others ticket)
    (λ r. r ≡ None → (first.ticket ≢ ticket) × (child_in others ticket ≡ None)) (λ here given. cc)
    (λ other given.
    ((λ same. false≢true (sym other ∙ eq-eqb first.ticket ticket same)), given)) none

pub once-last : (children : List Child) (new : Child) → Once children → child_in children new.ticket ≡ None
    → Once (children ++ new ∷ [])
once-last [] new once none = (refl, tt)
once-last (first ∷ others) new once none =
    let parts = head-none first others new.ticket none in
    (none-append others new first.ticket once.0 (λ same. parts.0 (sym same)), once-last others new once.1 parts.1)

none-without : (ticket other : ℕ) (children : List Child) → child_in children other ≡ None
    → child_in (without_child ticket children) other ≡ None
none-without ticket other [] none = refl
none-without ticket other (first ∷ others) none =
    let parts = head-none first others other none in
    cond_both (first.ticket == ticket) others (first ∷ without_child ticket others)
    (λ l. child_in l other ≡ None) (λ taken. parts.1)
    (λ stays. cond_both (first.ticket == other) (Some first)
    (child_in (without_child ticket others) other) (λ r. r ≡ None)
    (λ same. absurd (parts.0 (eqb-true first.ticket other same)))
    (λ differ. none-without ticket other others parts.1))

pub once-without : (ticket : ℕ) (children : List Child) → Once children → Once (without_child ticket children)
once-without ticket [] once = tt
once-without ticket (first ∷ others) once =
    cond_both (first.ticket == ticket) others (first ∷ without_child ticket others) Once
    (λ taken. once.1)
    (λ stays. (none-without ticket first.ticket others once.0, once-without ticket others once.1))

-- the child that was taken out is not there any more
pub none-taken : (ticket : ℕ) (children : List Child) → Once children
    → child_in (without_child ticket children) ticket ≡ None
none-taken ticket [] once = refl
none-taken ticket (first ∷ others) once =
    cond_both (first.ticket == ticket) others (first ∷ without_child ticket others)
    (λ l. child_in l ticket ≡ None)
    (λ taken. subst (λ k. child_in others k ≡ None) (eqb-true first.ticket ticket taken) once.0)
    (λ stays. rw stays (none-taken ticket others once.1))

-- a step of a child changes neither tickets nor commands

pub child_in-step : (ticket other : ℕ) (deed : Deed) (children : List Child) (child : Child)
    → child_in children other ≡ Some child → (one : Child)
    × (child_in (stepped ticket deed children) other ≡ Some one) × (one.cmd ≡ child.cmd)
child_in-step ticket other deed [] child is = cc
child_in-step ticket other deed (first ∷ others) child is =
    let new : Child = record first { deeds = first.deeds ++ deed ∷ [] } in
    let Goal = λ (l : List Child). (one : Child) × (child_in l other ≡ Some one) × (one.cmd ≡ child.cmd) in
    cond_both (first.ticket == ticket) (new ∷ others) (first ∷ stepped ticket deed others) Goal
    (λ steps_now. cond_both (first.ticket == other) (Some first) (child_in others other)
    (λ r. r ≡ Some child → Goal (new ∷ others))
    (λ same given.
    let here : first ≡ child = cc in
    (new, rw same refl, ap (λ (c : Child). c.cmd) here))
    (λ differ given. (child, rw differ given, refl)) is)
    (λ waits_on. cond_both (first.ticket == other) (Some first) (child_in others other)
    (λ r. r ≡ Some child → Goal (first ∷ stepped ticket deed others))
    (λ same given. (child, rw same given, refl))
    (λ differ given.
    let rest = child_in-step ticket other deed others child given in
    (rest.0, rw differ rest.1, rest.2)) is)

none-step : (ticket other : ℕ) (deed : Deed) (children : List Child) → child_in children other ≡ None
    → child_in (stepped ticket deed children) other ≡ None
none-step ticket other deed [] none = refl
none-step ticket other deed (first ∷ others) none =
    let parts = head-none first others other none in
    let new : Child = record first { deeds = first.deeds ++ deed ∷ [] } in
    let differ : (first.ticket == other) ≡ false = ne_eqb first.ticket other parts.0 in
    cond_both (first.ticket == ticket) (new ∷ others) (first ∷ stepped ticket deed others)
    (λ l. child_in l other ≡ None) (λ steps_now. rw differ parts.1)
    (λ waits_on. rw differ (none-step ticket other deed others parts.1))

pub once-step : (ticket : ℕ) (deed : Deed) (children : List Child) → Once children
    → Once (stepped ticket deed children)
once-step ticket deed [] once = tt
once-step ticket deed (first ∷ others) once =
    let new : Child = record first { deeds = first.deeds ++ deed ∷ [] } in
    cond_both (first.ticket == ticket) (new ∷ others) (first ∷ stepped ticket deed others) Once
    (λ steps_now. once)
    (λ waits_on. (none-step ticket first.ticket deed others once.0, once-step ticket deed others once.1))

pub contains-step : (ticket : ℕ) (deed : Deed) (children : List Child) (one : Child)
    → Contains (stepped ticket deed children) one
    → (before : Child) × Contains children before × (before.ticket ≡ one.ticket)
contains-step ticket deed [] one has = absurd (omega (arith, has.1))
contains-step ticket deed (first ∷ others) one has =
    let new : Child = record first { deeds = first.deeds ++ deed ∷ [] } in
    cond_both (first.ticket == ticket) (new ∷ others) (first ∷ stepped ticket deed others)
    (λ l. Contains l one → (before : Child) × Contains (first ∷ others) before × (before.ticket ≡ one.ticket))
    (λ steps_now given. now given)
    (λ waits_on given. later (contains-step ticket deed others one) given) has
  where
    now : Contains (record first { deeds = first.deeds ++ deed ∷ [] } ∷ others) one
        → (before : Child) × Contains (first ∷ others) before × (before.ticket ≡ one.ticket)
    now (zero, less, is) = (first, (0, omega arith, refl), ap (λ (c : Child). c.ticket) is)
    now (suc k, less, is) = (one, (suc k, less, is), refl)

    later : (Contains (stepped ticket deed others) one
        → (before : Child) × Contains others before × (before.ticket ≡ one.ticket))
        → Contains (first ∷ stepped ticket deed others) one
        → (before : Child) × Contains (first ∷ others) before × (before.ticket ≡ one.ticket)
    later go (zero, less, is) = (first, (0, omega arith, refl), ap (λ (c : Child). c.ticket) is)
    later go (suc k, less, is) =
        let rest = go (k, omega (arith, less), is) in
        (rest.0, (suc rest.1.0, omega (arith, rest.1.1), rest.1.2), rest.2)
