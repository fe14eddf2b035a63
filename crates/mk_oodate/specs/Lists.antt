-- The paths whose times the test goes by, without those that are ignored (make(1),
-- `.MAKE.META.IGNORE_PATHS`).
use Rattle.std.specs.Prelude.{ℕ, List}
use Rattle.mk_filemon.specs.Outer.{counted, ops_of, outer_found, outer_missed, left_written}
use Rattle.mk_filemon.specs.declared.record.Rec.{Rec}

abbrev pub read_paths : List (List ℕ) → List Rec → List (List ℕ)
read_paths words records = counted words (outer_found (ops_of records))

abbrev pub missed_paths : List (List ℕ) → List Rec → List (List ℕ)
missed_paths words records = counted words (outer_missed (ops_of records))

abbrev pub left_paths : List (List ℕ) → List Rec → List (List ℕ)
left_paths words records = counted words (left_written (ops_of records))
