-- What a run takes from outside itself, and what it leaves, by its records.
use Rattle.std.specs.Prelude.{ℕ, Bool, true, false, not, ◌||◌, List, [], ◌∷◌, map, filter, flat_map}
use Rattle.std.specs.Prelude.{if◌then◌else◌, nat_eq}
use Rattle.std.specs.List.{list_any, starts_with}
use Rattle.std.specs.Str.{bytes_eq}
use Rattle.mk_world.specs.declared.step.Op.{Op}
use Rattle.mk_world.specs.declared.step.Op.TheVariants as op
use Rattle.mk_filemon.specs.declared.record.Rec.{Rec}
use Rattle.mk_filemon.specs.declared.trace.Touch.{Touch}
use Rattle.mk_filemon.specs.declared.trace.Touch.TheVariants.{Found, Missed, Written, Gone}

-- what a record says of one path
abbrev pub Touched : Type 0
Touched = List ℕ × Touch

-- What a record says of its paths: a move finds its first file and takes it away, and then writes
-- the second.
abbrev pub touches : Op → List Touched
touches (op.Read path) = (path, Found) ∷ []
touches (op.Miss path) = (path, Missed) ∷ []
touches (op.Write path) = (path, Written) ∷ []
touches (op.Delete path) = (path, Gone) ∷ []
touches (op.Move from to) = (from, Found) ∷ (from, Gone) ∷ (to, Written) ∷ []

abbrev pub all_touches : List Op → List Touched
all_touches ops = flat_map touches ops

-- whether a path is found before anything has changed it, where this comes first
abbrev pub found_by : Touch → Bool → Bool
found_by Found later = true
found_by Missed later = later
found_by Written later = false
found_by Gone later = false

abbrev pub missed_by : Touch → Bool → Bool
missed_by Found later = later
missed_by Missed later = true
missed_by Written later = false
missed_by Gone later = false

-- A path is found outside where a record finds it before any has changed it.
abbrev pub is_found : List Touched → List ℕ → Bool
is_found [] path = false
is_found (touched ∷ more) path =
    if bytes_eq touched.0 path then found_by touched.1 (is_found more path) else is_found more path

-- It is missed outside where a record misses it before any has changed it.
abbrev pub is_missed : List Touched → List ℕ → Bool
is_missed [] path = false
is_missed (touched ∷ more) path =
    if bytes_eq touched.0 path then missed_by touched.1 (is_missed more path)
    else is_missed more path

-- whether a path stands written behind this, where it did before or not
abbrev pub written_by : Touch → Bool → Bool
written_by Found before = before
written_by Missed before = before
written_by Written before = true
written_by Gone before = false

-- Whether the last change of a path writes it, or moves a file onto it; without a change it is as
-- it was before.
abbrev pub is_written : Bool → List Touched → List ℕ → Bool
is_written before [] path = before
is_written before (touched ∷ more) path =
    is_written (if bytes_eq touched.0 path then written_by touched.1 before else before) more path

abbrev pub without : List ℕ → List (List ℕ) → List (List ℕ)
without path paths = filter (λ other. not (bytes_eq path other)) paths

-- each path once, where it stands first
abbrev pub once : List (List ℕ) → List (List ℕ)
once [] = []
once (path ∷ paths) = path ∷ without path (once paths)

-- the paths that records name, in the order of first record
abbrev pub named : List Touched → List (List ℕ)
named all = once (map (λ touched. touched.0) all)

abbrev pub ops_of : List Rec → List Op
ops_of records = map (λ one. one.op) records

-- The paths that are found outside: read, or moved away.
abbrev pub outer_found : List Op → List (List ℕ)
outer_found ops = filter (is_found (all_touches ops)) (named (all_touches ops))

-- The paths that are looked for outside and missed.
abbrev pub outer_missed : List Op → List (List ℕ)
outer_missed ops = filter (is_missed (all_touches ops)) (named (all_touches ops))

-- The outer reads: the paths that are found or missed before any record has changed them, each
-- once, in the order of first record.
abbrev pub outer_reads : List Op → List (List ℕ)
outer_reads ops =
    filter (λ path. is_found (all_touches ops) path || is_missed (all_touches ops) path)
    (named (all_touches ops))

-- The paths that are left written, in the order of their first record of any kind.
abbrev pub left_written : List Op → List (List ℕ)
left_written ops = filter (is_written false (all_touches ops)) (named (all_touches ops))

-- A path is ignored where its bytes begin with one of the words, as it is (make(1),
-- `.MAKE.META.IGNORE_PATHS`).
abbrev pub is_ignored : List (List ℕ) → List ℕ → Bool
is_ignored words path = list_any (λ word. starts_with nat_eq path word) words

abbrev pub counted : List (List ℕ) → List (List ℕ) → List (List ℕ)
counted words paths = filter (λ path. not (is_ignored words path)) paths
