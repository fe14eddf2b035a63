-- What records tell of steps: exact ones of each look, and those of some steps and of others of both.
use Rattle.std.proofs.Common.{◌≡◌, ℕ, ◌||◌, ◌&&◌, Bool, true, false, not, List, [], ◌∷◌, ◌++◌, map}
use Rattle.std.proofs.Common.{if◌then◌else◌, Option, Some, None, refl, sym, ◌∙◌, ap}
use Rattle.std.proofs.lemmas.List.Folds.{list_any-append}
use Rattle.std.specs.List.{list_any}
use Rattle.std.specs.Str.{bytes_eq}
use Rattle.std.specs.Cmp.Lexicographic.{bytes_decides}
use Rattle.mk_world.specs.Deeds.{Spot, saw, changes}
use Rattle.mk_world.specs.Outer.{Over, over_spot, over_spots, over_deed, over_deeds, nothing_over}
use Rattle.mk_world.specs.Records.{op_of, finds, misses, alters, says, is_told, IsToldIn, LookAt, EachLook}
use Rattle.mk_world.specs.Records.{Tell, ExactRecordsTell, RecordsAreJoined}
use Rattle.mk_world.specs.declared.step.Deed.{Deed}
use Rattle.mk_world.specs.declared.step.Deed.TheVariants.{Read, Miss, Write, Delete, Move}
use Rattle.mk_world.specs.declared.step.Op.{Op}

bytes_eq-same : (x : List ℕ) → bytes_eq x x ≡ true
bytes_eq-same x = (bytes_decides x x).1 refl

cases : {P : Type 0} (t : Bool) → (t ≡ true → P) → (t ≡ false → P) → P
cases true here there = here refl
cases false here there = there refl

abbrev Told : Type 1
Told = List ℕ → Option (List ℕ) → Type 0

-- a look that is told one way over some changes is told another way over others
abbrev Gives : Told → Told → Over → Over → Type 0
Gives first second over other =
    (path : List ℕ) → other path ≡ None
    → (over path ≡ None) × ((bytes : Option (List ℕ)) → first path bytes → second path bytes)

gives-spot : (first second : Told) (over other : Over) (spot : Spot)
    → Gives first second over other
    → Gives first second (over_spot over spot) (over_spot other spot)
gives-spot first second over other spot gives path none =
    cases (bytes_eq spot.path path)
    (λ is. let no : Some spot.bytes ≡ None = rw is at none in absurd cc)
    (λ apart. let free : other path ≡ None = rw apart at none in
    let both = gives path free in
    (rw apart both.0, both.1))

gives-spots : (first second : Told) (over other : Over) (spots : List Spot)
    → Gives first second over other
    → Gives first second (over_spots over spots) (over_spots other spots)
gives-spots first second over other [] gives = gives
gives-spots first second over other (spot ∷ spots) gives =
    gives-spots first second (over_spot over spot) (over_spot other spot) spots
    (gives-spot first second over other spot gives)

look-at : (first second : Told) (over other : Over) (spot : Option Spot)
    → Gives first second over other → LookAt first over spot → LookAt second other spot
look-at first second over other None gives look = tt
look-at first second over other (Some spot) gives look =
    λ none. let both = gives spot.path none in both.1 spot.bytes (look both.0)

pub each-look : (first second : Told) (over other : Over) (deeds : List Deed)
    → Gives first second over other → EachLook first over deeds → EachLook second other deeds
each-look first second over other [] gives each = tt
each-look first second over other (deed ∷ deeds) gives each = (
  look-at first second over other (saw deed) gives each.0,
  each-look first second (over_deed over deed) (over_deed other deed) deeds
      (gives-spots first second over other (changes deed) gives) each.1,
)

each-append : (told : Told) (over : Over) (first second : List Deed) → EachLook told over first
    → EachLook told (over_deeds over first) second → EachLook told over (first ++ second)
each-append told over [] second one other = other
each-append told over (deed ∷ first) second one other =
    (one.0, each-append told (over_deed over deed) first second one.1 other)

-- a path that is left alone behind a step was so before it, and the record says no change of it

free-spots : (over : Over) (spots : List Spot) (path : List ℕ) → over_spots over spots path ≡ None
    → over path ≡ None
free-spots over [] path none = none
free-spots over (spot ∷ spots) path none =
    let behind : (if bytes_eq spot.path path then Some spot.bytes else over path) ≡ None =
    free-spots (over_spot over spot) spots path none in
    cases (bytes_eq spot.path path)
    (λ is. let no : Some spot.bytes ≡ None = rw is at behind in absurd cc)
    (λ apart. rw apart at behind)

pub free-deeds : (over : Over) (deeds : List Deed) (path : List ℕ) → over_deeds over deeds path ≡ None
    → over path ≡ None
free-deeds over [] path none = none
free-deeds over (deed ∷ deeds) path none =
    free-spots over (changes deed) path (free-deeds (over_deed over deed) deeds path none)

over-append : (over : Over) (first second : List Deed)
    → over_deeds over (first ++ second) ≡ over_deeds (over_deeds over first) second
over-append over [] second = refl
over-append over (deed ∷ first) second = over-append (over_deed over deed) first second

-- what is left alone over some changes is left alone over fewer

abbrev Fewer : Over → Over → List ℕ → Type 0
Fewer over other path = over path ≡ None → other path ≡ None

fewer-spots : (over other : Over) (spots : List Spot) (path : List ℕ) → Fewer over other path
    → Fewer (over_spots over spots) (over_spots other spots) path
fewer-spots over other [] path fewer = fewer
fewer-spots over other (spot ∷ spots) path fewer =
    fewer-spots (over_spot over spot) (over_spot other spot) spots path
    (λ none. cases (bytes_eq spot.path path)
    (λ is. let no : Some spot.bytes ≡ None = rw is at none in absurd cc)
    (λ apart. let free : over path ≡ None = rw apart at none in rw apart (fewer free)))

fewer-deeds : (over other : Over) (deeds : List Deed) (path : List ℕ) → Fewer over other path
    → Fewer (over_deeds over deeds) (over_deeds other deeds) path
fewer-deeds over other [] path fewer = fewer
fewer-deeds over other (deed ∷ deeds) path fewer =
    fewer-deeds (over_deed over deed) (over_deed other deed) deeds path
    (fewer-spots over other (changes deed) path fewer)

-- the record of a step

unaltered : (deed : Deed) (path : List ℕ) → over_deed nothing_over deed path ≡ None
    → alters path (op_of deed) ≡ false
unaltered (Read at bytes) path none = refl
unaltered (Miss at) path none = refl
unaltered (Write at bytes) path none =
    cases (bytes_eq at path)
    (λ is. let no : Some (Some bytes) ≡ None = rw is at none in absurd cc) (λ apart. apart)
unaltered (Delete at) path none =
    cases (bytes_eq at path)
    (λ is. let no : Some None ≡ None = rw is at none in absurd cc) (λ apart. apart)
unaltered (Move from to bytes) path none =
    cases (bytes_eq to path)
    (λ is. let no : Some (Some bytes) ≡ None = rw is at none in absurd cc)
    (λ apart. cases (bytes_eq from path)
    (λ is. let rest : (if bytes_eq to path then Some (Some bytes) else Some None) ≡ None =
    rw is at none in
    let no : Some None ≡ None = rw apart at rest in absurd cc)
    (λ nor. rw (nor, apart) refl))

or_true : (t : Bool) → (t || true) ≡ true
or_true true = refl
or_true false = refl

-- behind a record that says no change of a path, what was told is told
told-later : (looks changes : Op → Bool) (one : Op) (more : List Op) → changes one ≡ false
    → is_told looks changes more ≡ true → is_told looks changes (one ∷ more) ≡ true
told-later looks changes one more none told = rw (none, told) (or_true (looks one))

told-more : (looks changes : Op → Bool) (first second : List Op)
    → is_told looks changes first ≡ true → is_told looks changes (first ++ second) ≡ true
told-more looks changes [] second told = absurd cc
told-more looks changes (one ∷ first) second told =
    cases (looks one)
    (λ is. rw is refl)
    (λ none. cases (changes one)
    (λ is. let no : false ≡ true = rw (none, is) at told in absurd cc)
    (λ apart. let rest : is_told looks changes first ≡ true = rw (none, apart) at told in
    rw (none, apart) (told-more looks changes first second rest)))

told-behind : (looks changes : Op → Bool) (first second : List Op) → list_any changes first ≡ false
    → is_told looks changes second ≡ true → is_told looks changes (first ++ second) ≡ true
told-behind looks changes [] second none told = told
told-behind looks changes (one ∷ first) second none told =
    cases (changes one)
    (λ is. let no : true ≡ false = rw is at none in absurd cc)
    (λ apart. let rest : list_any changes first ≡ false = rw apart at none in
    told-later looks changes one (first ++ second) apart
    (told-behind looks changes first second rest told))

first-look : (deed : Deed) (rest : List Op)
    → LookAt (IsToldIn (op_of deed ∷ rest)) nothing_over (saw deed)
first-look (Read path bytes) rest = λ none. rw (bytes_eq-same path) refl
first-look (Miss path) rest = λ none. rw (bytes_eq-same path) refl
first-look (Write path bytes) rest = tt
first-look (Delete path) rest = tt
first-look (Move from to bytes) rest = λ none. rw (bytes_eq-same from) refl

exact-looks : (deeds : List Deed) → EachLook (IsToldIn (map op_of deeds)) nothing_over deeds
exact-looks [] = tt
exact-looks (deed ∷ deeds) =
    let rest = map op_of deeds in (
      first-look deed rest,
      each-look (IsToldIn rest) (IsToldIn (op_of deed ∷ rest)) nothing_over
          (over_deed nothing_over deed) deeds
          (λ path none. (
            refl,
            λ bytes. told-later (says bytes path) (alters path) (op_of deed) rest
                (unaltered deed path none),
          )) (exact-looks deeds),
    )

exact-changes : (deeds : List Deed) (path : List ℕ) → over_deeds nothing_over deeds path ≡ None
    → list_any (alters path) (map op_of deeds) ≡ false
exact-changes [] path none = refl
exact-changes (deed ∷ deeds) path none =
    rw (unaltered deed path (free-deeds (over_deed nothing_over deed) deeds path none))
    (exact-changes deeds path
    (fewer-deeds (over_deed nothing_over deed) nothing_over deeds path (λ free. refl) none))

pub exact_records_tell : ExactRecordsTell
exact_records_tell deeds = record { looks = exact-looks deeds; changes = exact-changes deeds }

pub records_are_joined : RecordsAreJoined
records_are_joined first second before behind tell later = record {
  looks = each-append (IsToldIn (first ++ second)) nothing_over before behind
      (each-look (IsToldIn first) (IsToldIn (first ++ second)) nothing_over nothing_over before
      (λ path none. (refl, λ bytes. told-more (says bytes path) (alters path) first second)) tell.looks)
      (each-look (IsToldIn second) (IsToldIn (first ++ second)) nothing_over
      (over_deeds nothing_over before) behind
      (λ path none. (
        refl,
        λ bytes. told-behind (says bytes path) (alters path) first second
            (tell.changes path none),
      )) later.looks);
  changes = λ path none.
      let both : over_deeds (over_deeds nothing_over before) behind path ≡ None =
      ap (λ over. over path) (sym (over-append nothing_over before behind)) ∙ none in
      list_any-append (alters path) first second
      ∙ rw (
        tell.changes path (free-deeds (over_deeds nothing_over before) behind path both),
        later.changes path
            (fewer-deeds (over_deeds nothing_over before) nothing_over behind path (λ free. refl) both),
      ) refl;
}
