-- The records of steps tell each look at what the steps have left alone, and what they left written.
use Rattle.std.proofs.Common.{◌≡◌, ℕ, suc, Bool, true, false, List, [], ◌∷◌, ◌++◌}
use Rattle.std.proofs.Common.{map, filter, if◌then◌else◌, Option, Some, None, refl, sym, ◌∙◌, arith}
use Rattle.std.proofs.lemmas.List.Elements.{All-contains, filter_passes}
use Rattle.std.specs.List.{Contains}
use Rattle.std.specs.Str.{bytes_eq}
use Rattle.mk_world.proofs.RecordLemmas.{each-look}
use Rattle.mk_world.specs.Records.{op_of, finds, misses, alters, is_told, IsToldIn}
use Rattle.mk_world.specs.Outer.{over_deeds, nothing_over}
use Rattle.mk_world.specs.declared.step.Deed.{Deed}
use Rattle.mk_world.specs.declared.step.Op.{Op}
use Rattle.mk_world.specs.declared.step.Op.TheVariants as op
use Rattle.mk_filemon.specs.Outer.{Touched, touches, all_touches, is_found, is_missed, is_written}
use Rattle.mk_filemon.specs.Outer.{named}
use Rattle.mk_filemon.specs.Steps.{IsToldBy, TellLooks, TellWritten, stands_by}
use Rattle.mk_filemon.proofs.EscapeLemmas.{cases}
use Rattle.mk_filemon.proofs.PathLemmas.{among, among-once, same_bytes, bytes_eq-same, bytes_eq-sym}
use Rattle.mk_filemon.proofs.StepLemmas.{written_behind}

-- a path that records tell is found or missed by what they touch
found-told : (records : List Op) (path : List ℕ) → is_told (finds path) (alters path) records ≡ true
    → is_found (all_touches records) path ≡ true
found-told [] path told = absurd cc
found-told (op.Read at ∷ more) path told =
    cases (bytes_eq at path)
    (λ is. rw is refl)
    (λ apart. rw apart (found-told more path (rw apart at told)))
found-told (op.Miss at ∷ more) path told =
    let rest : is_found (all_touches more) path ≡ true = found-told more path told in
    cases (bytes_eq at path) (λ is. rw is rest) (λ apart. rw apart rest)
found-told (op.Write at ∷ more) path told =
    cases (bytes_eq at path)
    (λ is. let no : false ≡ true = rw is at told in absurd cc)
    (λ apart. rw apart (found-told more path (rw apart at told)))
found-told (op.Delete at ∷ more) path told =
    cases (bytes_eq at path)
    (λ is. let no : false ≡ true = rw is at told in absurd cc)
    (λ apart. rw apart (found-told more path (rw apart at told)))
found-told (op.Move from to ∷ more) path told =
    cases (bytes_eq from path)
    (λ is. rw is refl)
    (λ nor. cases (bytes_eq to path)
    (λ is. let no : false ≡ true = rw (nor, is) at told in absurd cc)
    (λ apart. rw (nor, apart) (found-told more path (rw (nor, apart) at told))))

missed-told : (records : List Op) (path : List ℕ)
    → is_told (misses path) (alters path) records ≡ true
    → is_missed (all_touches records) path ≡ true
missed-told [] path told = absurd cc
missed-told (op.Read at ∷ more) path told =
    let rest : is_missed (all_touches more) path ≡ true = missed-told more path told in
    cases (bytes_eq at path) (λ is. rw is rest) (λ apart. rw apart rest)
missed-told (op.Miss at ∷ more) path told =
    cases (bytes_eq at path)
    (λ is. rw is refl)
    (λ apart. rw apart (missed-told more path (rw apart at told)))
missed-told (op.Write at ∷ more) path told =
    cases (bytes_eq at path)
    (λ is. let no : false ≡ true = rw is at told in absurd cc)
    (λ apart. rw apart (missed-told more path (rw apart at told)))
missed-told (op.Delete at ∷ more) path told =
    cases (bytes_eq at path)
    (λ is. let no : false ≡ true = rw is at told in absurd cc)
    (λ apart. rw apart (missed-told more path (rw apart at told)))
missed-told (op.Move from to ∷ more) path told =
    cases (bytes_eq from path)
    (λ is. let no : false ≡ true = rw is at told in absurd cc)
    (λ nor. cases (bytes_eq to path)
    (λ is. let no : false ≡ true = rw (nor, is) at told in absurd cc)
    (λ apart. rw (nor, apart) (missed-told more path (rw (nor, apart) at told))))

-- what the touches of records say of a look
abbrev IsSeen : List Touched → List ℕ → Option (List ℕ) → Type 0
IsSeen all path (Some bytes) = is_found all path ≡ true
IsSeen all path None = is_missed all path ≡ true

told-seen : (records : List Op) (path : List ℕ) (bytes : Option (List ℕ)) → IsToldIn records path bytes
    → IsSeen (all_touches records) path bytes
told-seen records path (Some bytes) told = found-told records path told
told-seen records path None told = missed-told records path told

-- a path among others that passes a test is among those that pass it
passes : (test : List ℕ → Bool) (paths : List (List ℕ)) (path : List ℕ)
    → among paths path ≡ true → test path ≡ true → Contains (filter test paths) path
passes test [] path there yes' = absurd cc
passes test (p ∷ ps) path there yes' =
    cases (bytes_eq path p)
    (λ is. let same : path ≡ p = same_bytes path p is in
    let too : test p ≡ true = rw (← same) yes' in
    rw too (0, omega arith, sym same))
    (λ apart. let rest : among ps path ≡ true = rw apart at there in
    cases (test p)
    (λ too. rw too (let at = passes test ps path rest yes' in
    let lt = at.1 in (suc at.0, omega arith, at.2)))
    (λ not'. rw not' (passes test ps path rest yes')))

passed : (test : List ℕ → Bool) (paths : List (List ℕ)) (path : List ℕ)
    → Contains (filter test paths) path → test path ≡ true
passed test paths path there =
    All-contains (λ other. test other ≡ true) (filter test paths) path (filter_passes test paths)
    there

abbrev path_of : Touched → List ℕ
path_of touched = touched.0

named-touched : (all : List Touched) (path : List ℕ) → among (map path_of all) path ≡ true
    → among (named all) path ≡ true
named-touched all path there = among-once (map path_of all) path ∙ there

found-touched : (all : List Touched) (path : List ℕ) → is_found all path ≡ true
    → among (map path_of all) path ≡ true
found-touched [] path found = absurd cc
found-touched (touched ∷ more) path found =
    cases (bytes_eq path touched.0)
    (λ is. rw is refl)
    (λ apart. let turned : bytes_eq touched.0 path ≡ false = bytes_eq-sym touched.0 path ∙ apart in
    let rest : is_found more path ≡ true = rw turned at found in
    rw apart (found-touched more path rest))

missed-touched : (all : List Touched) (path : List ℕ) → is_missed all path ≡ true
    → among (map path_of all) path ≡ true
missed-touched [] path missed = absurd cc
missed-touched (touched ∷ more) path missed =
    cases (bytes_eq path touched.0)
    (λ is. rw is refl)
    (λ apart. let turned : bytes_eq touched.0 path ≡ false = bytes_eq-sym touched.0 path ∙ apart in
    let rest : is_missed more path ≡ true = rw turned at missed in
    rw apart (missed-touched more path rest))

written-touched : (all : List Touched) (path : List ℕ) → is_written false all path ≡ true
    → among (map path_of all) path ≡ true
written-touched [] path written = absurd cc
written-touched (touched ∷ more) path written =
    cases (bytes_eq path touched.0)
    (λ is. rw is refl)
    (λ apart. let turned : bytes_eq touched.0 path ≡ false = bytes_eq-sym touched.0 path ∙ apart in
    let rest : is_written false more path ≡ true = rw turned at written in
    rw apart (written-touched more path rest))

seen-told : (records : List Op) (path : List ℕ) (bytes : Option (List ℕ))
    → IsSeen (all_touches records) path bytes → IsToldBy records path bytes
seen-told records path (Some bytes) seen =
    let all = all_touches records in
    passes (is_found all) (named all) path (named-touched all path (found-touched all path seen)) seen
seen-told records path None seen =
    let all = all_touches records in
    passes (is_missed all) (named all) path (named-touched all path (missed-touched all path seen)) seen

pub tell_looks : TellLooks
tell_looks records deeds tell =
    each-look (IsToldIn records) (IsToldBy records) nothing_over nothing_over deeds
    (λ path none. (refl, λ bytes told. seen-told records path bytes (told-seen records path bytes told)))
    tell.looks

pub tell_written : TellWritten
tell_written deeds path =
    let all = all_touches (map op_of deeds) in
    let same : is_written false all path ≡ stands_by (over_deeds nothing_over deeds path) =
    written_behind nothing_over deeds path in (
      λ there. sym same ∙ passed (is_written false all) (named all) path there,
      λ stands. let written = same ∙ stands in
          passes (is_written false all) (named all) path
          (named-touched all path (written-touched all path written)) written,
    )
