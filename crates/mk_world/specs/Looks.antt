-- Looks of make at files.
use Rattle.std.specs.Prelude.{◌≡◌, ℕ, Bool, true, false, List, [], ◌∷◌, ◌++◌, map, Option, Some}
use Rattle.std.specs.Prelude.{None}
use Rattle.mk_world.specs.Calls.{AddsEvents, OwnNothing, OwnRead, OwnTime, when_of}
use Rattle.mk_world.specs.Deeds.{Store}
use Rattle.mk_world.specs.History.{State, files_of, state_of}
use Rattle.mk_world.specs.Talks.{Meaning}
use Rattle.mk_world.specs.Told.{Told}
use Rattle.mk_world.specs.declared.history.Happening.{Happening}
use Rattle.mk_world.specs.declared.history.Happening.TheVariants.{Look}
use Rattle.mk_world.specs.declared.history.History.{History}
use Rattle.mk_world.specs.declared.time.When.{When}
use Rattle.mk_world.specs.declared.time.When.TheVariants.{Missing, At, Unknown}

-- what a file's time tells of its being there
abbrev pub is_missing : When → Bool
is_missing Missing = true
is_missing (At time) = false
is_missing Unknown = false

-- the time of a path, as it was told at a look
pub record Dated : Type 0 where
  pub path : List ℕ
  pub when : When

-- what was told at a look: the time of a path, or its bytes
pub data Seen : Type 0 where
  dated : (one : Dated) → Seen
  read : (path : List ℕ) → (bytes : Option (List ℕ)) → Seen

-- each look tells what stands there
abbrev pub OwnSeen : Seen → State → List Happening → Type 0
OwnSeen (dated one) = OwnTime one.path one.when
OwnSeen (read path bytes) = OwnRead path bytes

-- a look, or a call for one that was refused
abbrev pub OwnLook : Option Seen → State → List Happening → Type 0
OwnLook None = OwnNothing
OwnLook (Some seen) = OwnSeen seen

-- Make looked so, at one path after the other, each at a moment of its own. Children may have done
-- steps before and behind each look, calls may have been refused, and nothing else happened.
abbrev pub LooksAll : Meaning → List (Option Seen) → History → History → Type 0
LooksAll meaning [] old new = new ≡ old
LooksAll meaning (one ∷ more) old new =
    (mid : History) × AddsEvents meaning (OwnLook one) old mid × LooksAll meaning more mid new

-- those that were answered
abbrev pub answered : {A : Type 0} → List (Option A) → List A
answered [] = []
answered (None ∷ more) = answered more
answered (Some one ∷ more) = one ∷ answered more

-- where no child runs

-- make looked at the time of one path, was told what stands there, and nothing else happened
pub record DatesOnce (one : Dated) (old new : History) : Type 0 where
  pub base : new.base ≡ old.base
  pub event : new.events ≡ old.events ++ Look one.path ∷ []
  pub told : one.when ≡ when_of ((state_of old).files one.path)

-- make looked so, at one path after the other
abbrev pub DatesAll : List Dated → History → History → Type 0
DatesAll [] old new = new ≡ old
DatesAll (one ∷ more) old new = (mid : History) × DatesOnce one old mid × DatesAll more mid new

-- make looked at these paths, and nothing else happened
pub record OnlyLooks (old new : History) : Type 0 where
  pub looks : List (List ℕ)
  pub base : new.base ≡ old.base
  pub events : new.events ≡ old.events ++ map (λ path. Look path) looks

-- Where the world tells, make only looked at it, and this is so of its files.
abbrev pub OnLooks : Option History → Option History → (Store → Type 0) → Type 0
OnLooks before after Fact = Told before after (λ old new. OnlyLooks old new × Fact (files_of old))

abbrev pub OnlyLooked : Option History → Option History → Type 0
OnlyLooked before after = OnLooks before after (λ files. Unit {0})
