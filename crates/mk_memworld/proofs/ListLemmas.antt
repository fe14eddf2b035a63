-- What a directory holds.
use Rattle.std.proofs.Common.{◌≡◌, ◌≢◌, ℕ, Bool, true, false, List, [], ◌∷◌, Option, Some, None, IfSome, sym, subst}
use Rattle.std.proofs.lemmas.Slice.Eq.{bytes_eq-Decides}
use Rattle.std.specs.Str.{bytes_eq}
use Rattle.mk_bytes.specs.Bytes.{dot}
use Rattle.mk_world.specs.Deeds.{Store}
use Rattle.mk_world.specs.Listings.{AreInOrder, AreNamesBelow, Lists}

pub lists-ordered : (store : Store) (dir : List ℕ) (names : Option (List (List ℕ)))
    → Lists store dir names → IfSome names AreInOrder
lists-ordered store dir None lists = tt
lists-ordered store dir (Some names) lists = lists.1.ordered

-- nothing stands there, and it is not `.`
pub lists-none : (store kept : Store) (dir : List ℕ) (names : List (List ℕ)) → kept ≡ store
    → AreNamesBelow kept dir names → names ≡ [] → dir ≢ dot ∷ [] → Lists store dir None
lists-none store kept dir names same are none other =
    (other, subst (λ s. AreNamesBelow s dir []) same (subst (AreNamesBelow kept dir) none are))

-- something stands there, or it is `.`
pub lists-some : (store kept : Store) (dir : List ℕ) (names : List (List ℕ)) → kept ≡ store
    → AreNamesBelow kept dir names → (names ≡ [] → dir ≡ dot ∷ []) → Lists store dir (Some names)
lists-some store kept dir names same are there =
    (there, subst (λ s. AreNamesBelow s dir names) same are)
