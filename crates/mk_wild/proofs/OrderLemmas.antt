-- Texts in order, behind a common beginning.
use Rattle.std.proofs.Common.{◌≡◌, ℕ, Bool, List, [], ◌∷◌, ◌++◌, map, filter, refl, ap, ◌∙◌, Less, Equal}
use Rattle.std.proofs.lemmas.Cmp.{nat_cmp_total, tied_itself}
use Rattle.std.proofs.lemmas.List.Kept.{IsStrictlySortedBy-filter}
use Rattle.std.specs.Cmp.Lexicographic.{slice_cmp}
use Rattle.std.specs.List.Sorted.{IsStrictlySortedBy}
use Rattle.std.specs.List.{AllByRecursion}
use Rattle.std.specs.Ordering.{nat_cmp, ordering_then}
use Rattle.mk_world.specs.Listings.{AreInOrder}

same-beginning : (start one other : List ℕ)
    → slice_cmp nat_cmp (start ++ one) (start ++ other) ≡ slice_cmp nat_cmp one other
same-beginning [] one other = refl
same-beginning (byte ∷ start) one other =
    ap (λ o. ordering_then o (slice_cmp nat_cmp (start ++ one) (start ++ other)))
    (tied_itself nat_cmp_total byte)
    ∙ same-beginning start one other

all-behind : (start one : List ℕ) (others : List (List ℕ))
    → AllByRecursion (λ other. slice_cmp nat_cmp one other ≡ Less) others
    → AllByRecursion (λ other. slice_cmp nat_cmp (start ++ one) other ≡ Less)
    (map (λ name. start ++ name) others)
all-behind start one [] before = tt
all-behind start one (other ∷ others) before =
    (same-beginning start one other ∙ before.0, all-behind start one others before.1)

pub none-in-order : AreInOrder []
unfolding IsStrictlySortedBy
none-in-order = tt

pub one-in-order : (name : List ℕ) → AreInOrder (name ∷ [])
unfolding IsStrictlySortedBy
one-in-order name = (tt, tt)

pub behind-in-order : (start : List ℕ) (names : List (List ℕ)) → AreInOrder names
    → AreInOrder (map (λ name. start ++ name) names)
unfolding IsStrictlySortedBy
behind-in-order start [] ordered = tt
behind-in-order start (name ∷ names) ordered =
    (all-behind start name names ordered.0, behind-in-order start names ordered.1)

pub kept-in-order : (test : List ℕ → Bool) (names : List (List ℕ)) → AreInOrder names
    → AreInOrder (filter test names)
kept-in-order test names ordered = IsStrictlySortedBy-filter (slice_cmp nat_cmp) test names ordered
