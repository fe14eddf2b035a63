-- What was seen of a node's meta file, and of the paths that its records name.
use Rattle.std.specs.Prelude.{◌≡◌, ℕ, not, ◌&&◌, List, [], ◌∷◌, ◌++◌, map, unwrap_or, Option, Some}
use Rattle.std.specs.Prelude.{None, if◌then◌else◌}
use Rattle.std.specs.Str.{bytes_eq}
use Rattle.mk_filemon.specs.declared.record.Rec.{Rec}
use Rattle.mk_meta.specs.Lawful.{IsLawful}
use Rattle.mk_meta.specs.Texts.{meta_text}
use Rattle.mk_meta.specs.declared.meta.Meta.{Meta}
use Rattle.mk_oodate.specs.Lists.{left_paths, missed_paths, read_paths}
use Rattle.mk_oodate.specs.declared.reason.NodeMode.{NodeMode}
use Rattle.mk_world.specs.Looks.{Dated, Seen, dated, read}
use Rattle.mk_world.specs.declared.command.Task.{Task}
use Rattle.mk_world.specs.declared.time.When.{When}

abbrev pub paths_in : List Dated → List (List ℕ)
paths_in dates = map (λ one. one.path) dates

abbrev pub times_in : List Dated → List When
times_in dates = map (λ one. one.when) dates

-- The value of a meta file's bytes is the one whose text they are. Other bytes have none.
abbrev pub IsValueOf : Option (List ℕ) → Option Meta → Type 0
IsValueOf None value = value ≡ None
IsValueOf (Some text) None = (meta : Meta) → IsLawful meta → (text ≡ meta_text meta) → ⊥
IsValueOf (Some text) (Some meta) = IsLawful meta × (text ≡ meta_text meta)

-- The records that count for a node: those of a meta file of its target, unless records count for
-- none.
abbrev pub records_in : NodeMode → Task → Option Meta → List Rec
records_in mode task None = []
records_in mode task (Some meta) =
    if not mode.nofilemon && bytes_eq meta.target task.target then unwrap_or meta.records [] else []

-- the times of paths that records name: of those that a job found outside, that it missed there,
-- and that it left written
pub record PathTimes : Type 0 where
  pub reads : List Dated
  pub misses : List Dated
  pub left : List Dated

abbrev pub no_paths : PathTimes
no_paths = record { reads = []; misses = []; left = [] }

-- they are those of these records, without the ignored ones
pub record AreOf (ignored : List (List ℕ)) (records : List Rec) (paths : PathTimes) : Type 0 where
  pub reads : paths_in paths.reads ≡ read_paths ignored records
  pub misses : paths_in paths.misses ≡ missed_paths ignored records
  pub left : paths_in paths.left ≡ left_paths ignored records

-- what was seen in meta mode: the bytes of the meta file, with their value, then its time, and then
-- the times of the paths that its records name
pub record MetaSight : Type 0 where
  pub bytes : Option (List ℕ)
  pub value : Option Meta
  pub when : When
  pub paths : PathTimes

abbrev pub file_looks : List ℕ → Option (List ℕ) → When → List Seen
file_looks path bytes when = read path bytes ∷ dated (record { path = path; when = when }) ∷ []

abbrev pub path_looks : PathTimes → List Seen
path_looks paths = map dated (paths.reads ++ (paths.misses ++ paths.left))

-- the looks in meta mode, where there are any, in order
abbrev pub meta_looks : List ℕ → Option MetaSight → List Seen
meta_looks path None = []
meta_looks path (Some sight) = file_looks path sight.bytes sight.when ++ path_looks sight.paths
