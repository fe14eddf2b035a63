-- Names without some of them stay in order.
use Rattle.std.proofs.Common.{◌≡◌, ℕ, Bool, true, false, not, List, [], ◌∷◌, filter, Less}
use Rattle.std.specs.Cmp.Lexicographic.{slice_cmp}
use Rattle.std.specs.List.{AllByRecursion}
use Rattle.std.specs.List.Sorted.{IsStrictlySortedBy}
use Rattle.std.specs.Ordering.{nat_cmp}
use Rattle.mk_filemon.proofs.EscapeLemmas.{cases}
use Rattle.mk_world.specs.Listings.{AreInOrder}
use Rattle.mk_veil.specs.Names.{bare_names, is_hidden}

all-filter : (test : List ℕ → Bool) (P : List ℕ → Type 0) (names : List (List ℕ)) → AllByRecursion P names
    → AllByRecursion P (filter test names)
all-filter test P [] all = tt
all-filter test P (name ∷ names) all =
    cases (test name)
    (λ is. rw is (all.0, all-filter test P names all.1))
    (λ off. rw off (all-filter test P names all.1))

in-order-filter : (test : List ℕ → Bool) (names : List (List ℕ)) → IsStrictlySortedBy (slice_cmp nat_cmp) names
    → IsStrictlySortedBy (slice_cmp nat_cmp) (filter test names)
unfolding IsStrictlySortedBy
in-order-filter test [] ordered = tt
in-order-filter test (name ∷ names) ordered =
    cases (test name)
    (λ is. rw is (
      all-filter test (λ other. slice_cmp nat_cmp name other ≡ Less) names ordered.0,
      in-order-filter test names ordered.1,
    ))
    (λ off. rw off (in-order-filter test names ordered.1))

pub bare_in_order : (hidden : List (List ℕ)) (dir : List ℕ) (names : List (List ℕ)) → AreInOrder names
    → AreInOrder (bare_names hidden dir names)
bare_in_order hidden dir names = in-order-filter (λ name. not (is_hidden hidden dir name)) names
