-- The records of steps tell what the steps took from outside, and what they left.
use Rattle.std.proofs.Common.{◌≡◌, ℕ, Bool, true, false, not, ◌||◌, ◌&&◌, List, [], ◌∷◌, ◌++◌, map}
use Rattle.std.proofs.Common.{filter, if◌then◌else◌, Option, Some, None, is_none, refl, sym, ◌∙◌}
use Rattle.std.proofs.Common.{ap}
use Rattle.std.specs.Str.{bytes_eq}
use Rattle.mk_world.specs.Records.{op_of}
use Rattle.mk_world.specs.Deeds.{Store, Spot}
use Rattle.mk_world.specs.Outer.{Over, over_spot, over_deeds, nothing_over, outer_at, outer}
use Rattle.mk_world.specs.Outer.{AgreeOn, SameDoing}
use Rattle.mk_world.specs.Talks.{Meaning, does}
use Rattle.mk_world.specs.declared.step.Deed.{Deed}
use Rattle.mk_world.specs.declared.step.Deed.TheVariants.{Read, Miss, Write, Delete, Move}
use Rattle.mk_filemon.specs.Outer.{Touched, all_touches, is_found, is_missed, is_written, without}
use Rattle.mk_filemon.specs.Outer.{once, named}
use Rattle.mk_filemon.specs.Steps.{TellOuterReads, SameByRecords, stands_by}
use Rattle.mk_filemon.specs.declared.trace.Touch.TheVariants.{Found, Missed, Written, Gone}
use Rattle.mk_filemon.proofs.EscapeLemmas.{cases}
use Rattle.mk_filemon.proofs.PathLemmas.{same_bytes, bytes_eq-same}

abbrev Paths : Type 0
Paths = List (List ℕ)

-- the looks at paths that no earlier record has changed, each as often as it comes
abbrev looks : List Touched → Paths
looks [] = []
looks ((path, Found) ∷ more) = path ∷ looks more
looks ((path, Missed) ∷ more) = path ∷ looks more
looks ((path, Written) ∷ more) = without path (looks more)
looks ((path, Gone) ∷ more) = without path (looks more)

abbrev is_outer : List Touched → List ℕ → Bool
is_outer all path = is_found all path || is_missed all path

-- filters, one after the other
pub filter-both : (first second both : List ℕ → Bool) (paths : Paths)
    → ((path : List ℕ) → both path ≡ (second path && first path))
    → filter first (filter second paths) ≡ filter both paths
filter-both first second both [] is = refl
filter-both first second both (p ∷ ps) is =
    rw (is p) (cases (second p)
    (λ yes'. rw yes' (cases (first p)
    (λ too. rw too (ap (λ rest. p ∷ rest) (filter-both first second both ps is)))
    (λ not'. rw not' (filter-both first second both ps is))))
    (λ not'. rw not' (filter-both first second both ps is)))

and-turned : (a b : Bool) → (a && b) ≡ (b && a)
and-turned true true = refl
and-turned true false = refl
and-turned false true = refl
and-turned false false = refl

and-same : (a : Bool) → a ≡ (a && a)
and-same true = refl
and-same false = refl

without-without : (one other : List ℕ) (paths : Paths)
    → without one (without other paths) ≡ without other (without one paths)
without-without one other paths =
    filter-both (λ p. not (bytes_eq one p)) (λ p. not (bytes_eq other p))
    (λ p. not (bytes_eq other p) && not (bytes_eq one p)) paths (λ p. refl)
    ∙ sym (filter-both (λ p. not (bytes_eq other p)) (λ p. not (bytes_eq one p))
    (λ p. not (bytes_eq other p) && not (bytes_eq one p)) paths
    (λ p. and-turned (not (bytes_eq other p)) (not (bytes_eq one p))))

without-again : (path : List ℕ) (paths : Paths)
    → without path (without path paths) ≡ without path paths
without-again path paths =
    filter-both (λ p. not (bytes_eq path p)) (λ p. not (bytes_eq path p))
    (λ p. not (bytes_eq path p)) paths (λ p. and-same (not (bytes_eq path p)))

once-without : (path : List ℕ) (paths : Paths)
    → once (without path paths) ≡ without path (once paths)
once-without path [] = refl
once-without path (p ∷ ps) =
    cases (bytes_eq path p)
    (λ is. rw is (once-without path ps ∙ sym (without-again path (once ps))
    ∙ ap (λ one. without path (without one (once ps))) (same_bytes path p is)))
    (λ apart. rw apart (ap (λ rest. p ∷ rest)
    (ap (without p) (once-without path ps) ∙ without-without p path (once ps))))

-- a filter of what is left without a path need be right of the others alone
filter-without : (first second : List ℕ → Bool) (path : List ℕ) (paths : Paths)
    → ((other : List ℕ) → bytes_eq path other ≡ false → first other ≡ second other)
    → filter first (without path paths) ≡ without path (filter second paths)
filter-without first second path [] same = refl
filter-without first second path (p ∷ ps) same =
    cases (bytes_eq path p)
    (λ is. rw is (cases (second p)
    (λ there. rw there (rw is (filter-without first second path ps same)))
    (λ none. rw none (filter-without first second path ps same))))
    (λ apart. rw (apart, same p apart) (cases (second p)
    (λ there. rw (there, apart) (ap (λ rest. p ∷ rest) (filter-without first second path ps same)))
    (λ none. rw none (filter-without first second path ps same))))

or-true : (a : Bool) → (a || true) ≡ true
or-true true = refl
or-true false = refl

-- the outer reads are the looks, each once
reads-looks : (all : List Touched) → filter (is_outer all) (named all) ≡ once (looks all)
reads-looks [] = refl
reads-looks ((path, Found) ∷ more) =
    rw (bytes_eq-same path) (ap (λ rest. path ∷ rest)
    (filter-without (is_outer ((path, Found) ∷ more)) (is_outer more) path (named more)
    (λ other apart. rw apart refl) ∙ ap (without path) (reads-looks more)))
reads-looks ((path, Missed) ∷ more) =
    rw (bytes_eq-same path, or-true (is_found more path)) (ap (λ rest. path ∷ rest)
    (filter-without (is_outer ((path, Missed) ∷ more)) (is_outer more) path (named more)
    (λ other apart. rw apart refl) ∙ ap (without path) (reads-looks more)))
reads-looks ((path, Written) ∷ more) =
    rw (bytes_eq-same path)
    (filter-without (is_outer ((path, Written) ∷ more)) (is_outer more) path (named more)
    (λ other apart. rw apart refl) ∙ ap (without path) (reads-looks more)
    ∙ sym (once-without path (looks more)))
reads-looks ((path, Gone) ∷ more) =
    rw (bytes_eq-same path)
    (filter-without (is_outer ((path, Gone) ∷ more)) (is_outer more) path (named more)
    (λ other apart. rw apart refl) ∙ ap (without path) (reads-looks more)
    ∙ sym (once-without path (looks more)))

abbrev is_free : Over → List ℕ → Bool
is_free over path = is_none (over path)

look-first : (over : Option (Option (List ℕ))) (path : List ℕ) (paths : Paths)
    → outer_at over path ++ paths ≡ (if is_none over then path ∷ paths else paths)
look-first None path paths = refl
look-first (Some stands) path paths = refl

free-behind : (over : Over) (spot : Spot) (path : List ℕ)
    → is_free (over_spot over spot) path ≡ (not (bytes_eq spot.path path) && is_free over path)
free-behind over spot path =
    cases (bytes_eq spot.path path) (λ is. rw is refl) (λ apart. rw apart refl)

changed-looks : (over : Over) (spot : Spot) (paths : Paths)
    → filter (is_free (over_spot over spot)) paths
    ≡ filter (is_free over) (without spot.path paths)
changed-looks over spot paths =
    sym (filter-both (is_free over) (λ p. not (bytes_eq spot.path p))
    (is_free (over_spot over spot)) paths (free-behind over spot))

-- what steps take from outside is the looks of their records at paths that stand as before
outer-looks : (over : Over) (deeds : List Deed)
    → outer over deeds ≡ filter (is_free over) (looks (all_touches (map op_of deeds)))
outer-looks over [] = refl
outer-looks over (Read path bytes ∷ deeds) =
    rw (outer-looks over deeds) (look-first (over path) path
    (filter (is_free over) (looks (all_touches (map op_of deeds)))))
outer-looks over (Miss path ∷ deeds) =
    rw (outer-looks over deeds) (look-first (over path) path
    (filter (is_free over) (looks (all_touches (map op_of deeds)))))
outer-looks over (Write path bytes ∷ deeds) =
    let spot : Spot = record { path = path; bytes = Some bytes } in
    outer-looks (over_spot over spot) deeds
    ∙ changed-looks over spot (looks (all_touches (map op_of deeds)))
outer-looks over (Delete path ∷ deeds) =
    let spot : Spot = record { path = path; bytes = None } in
    outer-looks (over_spot over spot) deeds
    ∙ changed-looks over spot (looks (all_touches (map op_of deeds)))
outer-looks over (Move from to bytes ∷ deeds) =
    let gone : Spot = record { path = from; bytes = None } in
    let stands : Spot = record { path = to; bytes = Some bytes } in
    let rest = looks (all_touches (map op_of deeds)) in
    ap (λ paths. outer_at (over from) from ++ paths)
    (outer-looks (over_spot (over_spot over gone) stands) deeds
    ∙ changed-looks (over_spot over gone) stands rest
    ∙ changed-looks over gone (without to rest))
    ∙ look-first (over from) from (filter (is_free over) (without from (without to rest)))

filter-all : (paths : Paths) → filter (is_free nothing_over) paths ≡ paths
filter-all [] = refl
filter-all (p ∷ ps) = ap (λ rest. p ∷ rest) (filter-all ps)

pub tell_outer_reads : TellOuterReads
tell_outer_reads deeds =
    reads-looks (all_touches (map op_of deeds))
    ∙ ap once (sym (outer-looks nothing_over deeds
    ∙ filter-all (looks (all_touches (map op_of deeds)))))

stands_by-spot : (over : Over) (spot : Spot) (path : List ℕ)
    → stands_by (over_spot over spot path)
    ≡ (if bytes_eq spot.path path then stands_by (Some spot.bytes) else stands_by (over path))
stands_by-spot over spot path =
    cases (bytes_eq spot.path path) (λ is. rw is refl) (λ apart. rw apart refl)

pub written_behind : (over : Over) (deeds : List Deed) (path : List ℕ)
    → is_written (stands_by (over path)) (all_touches (map op_of deeds)) path
    ≡ stands_by (over_deeds over deeds path)
written_behind over [] path = refl
written_behind over (Read from bytes ∷ deeds) path =
    cases (bytes_eq from path)
    (λ is. rw is (written_behind over deeds path))
    (λ apart. rw apart (written_behind over deeds path))
written_behind over (Miss from ∷ deeds) path =
    cases (bytes_eq from path)
    (λ is. rw is (written_behind over deeds path))
    (λ apart. rw apart (written_behind over deeds path))
written_behind over (Write to bytes ∷ deeds) path =
    let spot : Spot = record { path = to; bytes = Some bytes } in
    rw (← stands_by-spot over spot path) (written_behind (over_spot over spot) deeds path)
written_behind over (Delete to ∷ deeds) path =
    let spot : Spot = record { path = to; bytes = None } in
    rw (← stands_by-spot over spot path) (written_behind (over_spot over spot) deeds path)
written_behind over (Move from to bytes ∷ deeds) path =
    let gone : Spot = record { path = from; bytes = None } in
    let stands : Spot = record { path = to; bytes = Some bytes } in
    ap (λ before. is_written before (all_touches (map op_of deeds)) path)
    (sym (stands_by-spot (over_spot over gone) stands path
    ∙ ap (λ t. if bytes_eq to path then true else t) (stands_by-spot over gone path
    ∙ found-stays (bytes_eq from path) (stands_by (over path)))))
    ∙ written_behind (over_spot (over_spot over gone) stands) deeds path
  where
    found-stays : (here : Bool) (before : Bool)
        → (if here then false else before)
        ≡ (if here then false else (if here then before else before))
    found-stays true before = refl
    found-stays false before = refl

-- maps that agree on paths, each once, agree on them all
agree-without : (first second : Store) (path : List ℕ) (paths : Paths) → first path ≡ second path
    → AgreeOn first second (without path paths) → AgreeOn first second paths
agree-without first second path [] here agree = tt
agree-without first second path (p ∷ ps) here agree =
    cases (bytes_eq path p)
    (λ is. let same : path ≡ p = same_bytes path p is in
    let rest : AgreeOn first second (without path ps) = rw is at agree in
    (rw (← same) here, agree-without first second path ps here rest))
    (λ apart. let rest : (first p ≡ second p) × AgreeOn first second (without path ps) =
    rw apart at agree in
    (rest.0, agree-without first second path ps here rest.1))

agree-once : (first second : Store) (paths : Paths) → AgreeOn first second (once paths)
    → AgreeOn first second paths
agree-once first second [] agree = tt
agree-once first second (p ∷ ps) agree = (
  agree.0,
  agree-once first second ps
      (agree-without first second p (once ps) agree.0 agree.1),
)

pub same_by_records : (meaning : Meaning) → SameDoing meaning → SameByRecords meaning
same_by_records meaning same cmd first second agree =
    same cmd first second (agree-once first second (outer nothing_over
    (does meaning cmd first).deeds)
    (rw (tell_outer_reads (does meaning cmd first).deeds) at agree))
