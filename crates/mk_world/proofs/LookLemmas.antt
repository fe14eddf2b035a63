-- Looks one after the other.
use Rattle.std.proofs.Common.{◌≡◌, List, [], ◌∷◌, ◌++◌, Option, Some, None, refl, ap, subst}
use Rattle.mk_world.specs.Looks.{Seen, LooksAll, answered}
use Rattle.mk_world.specs.Talks.{Meaning}
use Rattle.mk_world.specs.Told.{Told}
use Rattle.mk_world.specs.declared.history.History.{History}

pub looks-none : (meaning : Meaning) (told : Option History) → Told told told (LooksAll meaning [])
looks-none meaning None = tt
looks-none meaning (Some history) = refl

looks-append : (meaning : Meaning) (a b c : History) (first second : List (Option Seen))
    → LooksAll meaning first a b → LooksAll meaning second b c
    → LooksAll meaning (first ++ second) a c
looks-append meaning a b c [] second same more =
    subst (λ h. LooksAll meaning second h c) same more
looks-append meaning a b c (one ∷ first) second looks more =
    (looks.0, looks.1, looks-append meaning looks.0 b c first second looks.2 more)

pub looks-then : (meaning : Meaning) (a b c : Option History) (first second : List (Option Seen))
    → Told a b (LooksAll meaning first) → Told b c (LooksAll meaning second)
    → Told a c (LooksAll meaning (first ++ second))
looks-then meaning a b None first second looks more = tt
looks-then meaning a None (Some z) first second looks more = absurd more
looks-then meaning None (Some y) (Some z) first second looks more = absurd looks
looks-then meaning (Some x) (Some y) (Some z) first second looks more =
    looks-append meaning x y z first second looks more

pub answered-append : {A : Type 0} → (first second : List (Option A))
    → answered (first ++ second) ≡ answered first ++ answered second
answered-append [] second = refl
answered-append (None ∷ first) second = answered-append first second
answered-append (Some one ∷ first) second = ap (λ l. one ∷ l) (answered-append first second)
