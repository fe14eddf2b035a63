-- What jobs read and missed, by the records of their meta files.
use Rattle.std.specs.Prelude.{ℕ, Bool, false, List, [], ◌∷◌, ◌++◌, codes, map, filter, flat_map}
use Rattle.std.specs.Prelude.{Option, Some, None, if◌then◌else◌}
use Rattle.std.specs.List.{list_any}
use Rattle.std.specs.Str.{bytes_eq}
use Rattle.mk_filemon.specs.declared.record.Rec.{Rec}
use Rattle.mk_meta.specs.declared.meta.Meta.{Meta}
use Rattle.mk_world.specs.declared.step.Op.{Op}
use Rattle.mk_world.specs.declared.step.Op.TheVariants.{Read, Miss, Write, Delete, Move}
use Rattle.mk_listing.specs.Lists.{in_order, each_once}

-- the records of a job; none where its children gave none
abbrev pub recorded : Option (List Rec) → List Rec
recorded None = []
recorded (Some records) = records

-- Whether a job read a path, or looked for it and missed it. What is moved away is read.
abbrev pub seeks : List ℕ → Op → Bool
seeks path (Read own) = bytes_eq path own
seeks path (Miss own) = bytes_eq path own
seeks path (Write own) = false
seeks path (Delete own) = false
seeks path (Move from to) = bytes_eq path from

abbrev pub has_sought : List ℕ → Meta → Bool
has_sought path meta = list_any (λ one. seeks path one.op) (recorded meta.records)

-- The targets whose jobs read a path, or looked for it and missed it.
abbrev pub readers : List Meta → List ℕ → List (List ℕ)
readers metas path = in_order (map (λ meta. meta.target) (filter (has_sought path) metas))

-- what a record reads
abbrev pub reads_in : Op → List (List ℕ)
reads_in (Read path) = path ∷ []
reads_in (Miss path) = []
reads_in (Write path) = []
reads_in (Delete path) = []
reads_in (Move from to) = from ∷ []

-- what a record tells of a path that was read, or with a sign before it of one that was missed
abbrev pub looks_in : Op → List (List ℕ)
looks_in (Read path) = path ∷ []
looks_in (Miss path) = (codes "- " ++ path) ∷ []
looks_in (Write path) = []
looks_in (Delete path) = []
looks_in (Move from to) = from ∷ []

abbrev pub looks_of : Meta → List (List ℕ)
looks_of meta = flat_map (λ one. looks_in one.op) (recorded meta.records)

-- what a job read and missed, where it is that of a target
abbrev pub looks_for : List ℕ → Meta → List (List ℕ)
looks_for target meta = if bytes_eq target meta.target then looks_of meta else []

-- What the job of a target read and missed, in the order of its records.
abbrev pub looks : List Meta → List ℕ → List (List ℕ)
looks metas target = each_once (flat_map (looks_for target) metas)
