-- Two maps that agree on what steps take from outside are alike to these steps.
use Rattle.std.proofs.Common.{◌≡◌, ℕ, List, [], ◌∷◌, ◌++◌, Option, Some, None, Bool, true, false}
use Rattle.std.proofs.Common.{if◌then◌else◌, refl, sym, ◌∙◌, ap, subst}
use Rattle.std.specs.Str.{bytes_eq}
use Rattle.mk_world.specs.Deeds.{Store, Spot, saw, changes, put, put_all, after_deeds, Holds, Meets}
use Rattle.mk_world.specs.Outer.{Over, over_spot, over_spots, over_deed, over_deeds, or_stood, on}
use Rattle.mk_world.specs.Outer.{outer_at, outer_spot, outer, AgreeOn}
use Rattle.mk_world.specs.declared.step.Deed.{Deed}

or_stood-over : (here : Bool) (spot : Option (List ℕ)) (over : Option (Option (List ℕ)))
    (stood : Option (List ℕ))
    → or_stood (if here then Some spot else over) stood
    ≡ (if here then spot else or_stood over stood)
or_stood-over true spot over stood = refl
or_stood-over false spot over stood = refl

-- a change over a map is a change of the map under it
pub on-over_spot : (over : Over) (store : Store) (spot : Spot)
    → on (over_spot over spot) store ≡ put (on over store) spot
on-over_spot over store spot =
    λ i path. or_stood-over (bytes_eq spot.path path) spot.bytes (over path) (store path) i

pub on-over_spots : (over : Over) (store : Store) (spots : List Spot)
    → on (over_spots over spots) store ≡ put_all (on over store) spots
on-over_spots over store [] = refl
on-over_spots over store (spot ∷ spots) =
    on-over_spots (over_spot over spot) store spots
    ∙ ap (λ under. put_all under spots) (on-over_spot over store spot)

pub on-over_deeds : (over : Over) (store : Store) (deeds : List Deed)
    → on (over_deeds over deeds) store ≡ after_deeds (on over store) deeds
on-over_deeds over store [] = refl
on-over_deeds over store (deed ∷ deeds) =
    on-over_deeds (over_deed over deed) store deeds
    ∙ ap (λ under. after_deeds under deeds) (on-over_spots over store (changes deed))

AgreeOn-append : (first second : Store) (paths more : List (List ℕ))
    → AgreeOn first second (paths ++ more)
    → AgreeOn first second paths × AgreeOn first second more
AgreeOn-append first second [] more agree = (tt, agree)
AgreeOn-append first second (path ∷ paths) more agree =
    let rest = AgreeOn-append first second paths more agree.1 in ((agree.0, rest.0), rest.1)

agree_at : (first second : Store) (over : Option (Option (List ℕ))) (path : List ℕ)
    → AgreeOn first second (outer_at over path)
    → or_stood over (first path) ≡ or_stood over (second path)
agree_at first second None path agree = agree.0
agree_at first second (Some stands) path agree = refl

holds_on_both : (over : Over) (first second : Store) (spot : Option Spot)
    → AgreeOn first second (outer_spot over spot) → Holds (on over first) spot
    → Holds (on over second) spot
holds_on_both over first second None agree holds = tt
holds_on_both over first second (Some spot) agree holds =
    sym (agree_at first second (over spot.path) spot.path agree) ∙ holds

-- steps that are right on one map are right on the other
pub meets_on_both : (over : Over) (first second : Store) (deeds : List Deed)
    → AgreeOn first second (outer over deeds) → Meets (on over first) deeds
    → Meets (on over second) deeds
meets_on_both over first second [] agree meets = tt
meets_on_both over first second (deed ∷ deeds) agree meets =
    let both = AgreeOn-append first second (outer_spot over (saw deed))
    (outer (over_deed over deed) deeds) agree in
    let before : Meets (on (over_deed over deed) first) deeds =
    subst (λ under. Meets under deeds) (sym (on-over_spots over first (changes deed))) meets.1 in (
      holds_on_both over first second (saw deed) both.0 meets.0,
      subst (λ under. Meets under deeds) (on-over_spots over second (changes deed))
          (meets_on_both (over_deed over deed) first second deeds both.1 before),
    )
