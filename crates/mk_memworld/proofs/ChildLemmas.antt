-- The running children, by their tickets.
use Rattle.std.proofs.Common.{◌≡◌, ℕ, zero, suc, ◌<◌, ◌==◌, Bool, true, false, cond, List, [], ◌∷◌, ◌++◌, Option, Some, length, position, slice_get, slice_index_or, slice_set, refl, sym, ◌∙◌, ap, subst, arith, eq-eqb, IsSome}
use Rattle.std.proofs.lemmas.Bool.Decides.{nat_tests}
use Rattle.std.proofs.lemmas.Grind.{common_steps}
use Rattle.std.specs.List.{position_or_len, remove}
use Rattle.mk_world.specs.History.{child_in, stepped, tickets_of, without_child}
use Rattle.mk_world.specs.declared.history.Child.{Child}
use Rattle.mk_world.specs.declared.step.Deed.{Deed}
use Rattle.mk_memworld.specs.Children.{StandsAt, without_first}

pub tickets_of-without : (ticket : ℕ) (children : List Child)
    → tickets_of (without_child ticket children) ≡ without_first ticket (tickets_of children)
tickets_of-without ticket [] = refl
tickets_of-without ticket (first ∷ others) =
    grind (arith, nat_tests, common_steps, tickets_of-without ticket others)

-- the first child with a ticket, by its place
pub found-at : (ticket place : ℕ) (children : List Child) → StandsAt ticket place children
    → slice_get children place ≡ child_in children ticket
found-at ticket place [] stands = absurd stands
found-at ticket zero (child ∷ others) stands = rw stands refl
found-at ticket (suc place) (child ∷ others) stands =
    rw stands.0 (found-at ticket place others stands.1)

pub removed-at : (ticket place : ℕ) (children : List Child) → StandsAt ticket place children
    → remove children place ≡ without_child ticket children
removed-at ticket place [] stands = absurd stands
removed-at ticket zero (child ∷ others) stands = rw stands refl
removed-at ticket (suc place) (child ∷ others) stands =
    rw stands.0 (ap (λ cs. child ∷ cs) (removed-at ticket place others stands.1))

pub stepped-at : (ticket place : ℕ) (deed : Deed) (children : List Child) (child : Child)
    → StandsAt ticket place children → slice_get children place ≡ Some child
    → slice_set children place (record child { deeds = child.deeds ++ deed ∷ [] })
    ≡ stepped ticket deed children
stepped-at ticket place deed [] child stands is = absurd stands
stepped-at ticket zero deed (first ∷ others) child stands is = rw stands (cc)
stepped-at ticket (suc place) deed (first ∷ others) child stands is =
    rw stands.0 (ap (λ cs. first ∷ cs) (stepped-at ticket place deed others child stands.1 is))

-- the oldest child, as it was read
pub without_child-read : (children : List Child) (child : Child) → 0 < length children
    → child ≡ slice_index_or children 0 child
    → remove children 0 ≡ without_child child.ticket children
without_child-read [] child some is = absurd (omega arith)
without_child-read (first ∷ others) child some is =
    rw (eq-eqb first.ticket child.ticket (ap (λ (c : Child). c.ticket) (sym is))) refl

-- where a place is found, it is the first that passes
pub position-is : {X : Type 0} (p : X → Bool) (xs : List X) → position_or_len p xs < length xs
    → position p xs ≡ Some (position_or_len p xs)
position-is p xs within = grind (arith, nat_tests, common_steps)

-- a ticket's test
abbrev pub has_ticket : ℕ → Child → Bool
has_ticket ticket child = child.ticket == ticket

within_if : (test : Bool) (ticket : ℕ) (child : Child) (others : List Child)
    → has_ticket ticket child ≡ test → IsSome (child_in (child ∷ others) ticket)
    → (IsSome (child_in others ticket)
    → position_or_len (has_ticket ticket) others < length others)
    → position_or_len (has_ticket ticket) (child ∷ others) < length (child ∷ others)
within_if true ticket child others is some go_on = rw is (omega arith)
within_if false ticket child others is some go_on =
    let rest = go_on (subst (λ t. IsSome (cond t (Some child) (child_in others ticket))) is some) in
    rw is (omega arith)

place_within : (ticket : ℕ) (children : List Child) → IsSome (child_in children ticket)
    → position_or_len (has_ticket ticket) children < length children
place_within ticket [] some = absurd (cc)
place_within ticket (child ∷ others) some =
    within_if (has_ticket ticket child) ticket child others refl some (place_within ticket others)

stands_if : (test : Bool) (ticket : ℕ) (child : Child) (others : List Child)
    → has_ticket ticket child ≡ test
    → (IsSome (child_in others ticket)
    → StandsAt ticket (position_or_len (has_ticket ticket) others) others)
    → IsSome (child_in (child ∷ others) ticket)
    → StandsAt ticket (position_or_len (has_ticket ticket) (child ∷ others)) (child ∷ others)
stands_if true ticket child others is go_on some =
    let here : position_or_len (has_ticket ticket) (child ∷ others) ≡ 0 = rw is refl in
    subst (λ n. StandsAt ticket n (child ∷ others)) (sym here) is
stands_if false ticket child others is go_on some =
    let there : position_or_len (has_ticket ticket) (child ∷ others)
    ≡ suc (position_or_len (has_ticket ticket) others) = rw is (omega arith) in
    subst (λ n. StandsAt ticket n (child ∷ others)) (sym there)
    (is, go_on (subst (λ t. IsSome (cond t (Some child) (child_in others ticket))) is some))

stands_first : (ticket : ℕ) (children : List Child) → IsSome (child_in children ticket)
    → StandsAt ticket (position_or_len (has_ticket ticket) children) children
stands_first ticket [] some = absurd (cc)
stands_first ticket (child ∷ others) some =
    stands_if (has_ticket ticket child) ticket child others refl (stands_first ticket others) some

-- a child that is held has a place
pub place-some : (ticket : ℕ) (children : List Child) (found : Option ℕ)
    → IsSome (child_in children ticket) → found ≡ position (has_ticket ticket) children
    → IsSome found
place-some ticket children found some is =
    subst IsSome (sym (is ∙ position-is (has_ticket ticket) children
    (place_within ticket children some))) refl

pub place-stands : (ticket place : ℕ) (children : List Child)
    → IsSome (child_in children ticket) → position (has_ticket ticket) children ≡ Some place
    → StandsAt ticket place children
place-stands ticket place children some is =
    let found = position-is (has_ticket ticket) children (place_within ticket children some) in
    let same : position_or_len (has_ticket ticket) children ≡ place = cc in
    subst (λ n. StandsAt ticket n children) same (stands_first ticket children some)

pub StandsAt-within : (ticket place : ℕ) (children : List Child) → StandsAt ticket place children
    → place < length children
StandsAt-within ticket place [] stands = absurd stands
StandsAt-within ticket zero (child ∷ others) stands = omega arith
StandsAt-within ticket (suc place) (child ∷ others) stands =
    let rest = StandsAt-within ticket place others stands.1 in omega arith
