-- What it means that the test gives no reason, in a build that goes by records.
use Rattle.std.specs.Prelude.{◌≡◌, ◌≢◌, ◌<◌, ℕ, true, false, List, Some, None}
use Rattle.std.specs.List.{All, AllZip, Contains}
use Rattle.mk_filemon.specs.declared.record.Rec.{Rec}
use Rattle.mk_meta.specs.declared.meta.Meta.{Meta}
use Rattle.mk_world.specs.declared.command.Task.{Task}
use Rattle.mk_world.specs.declared.command.TaskLine.{TaskLine}
use Rattle.mk_world.specs.declared.time.Time.{Time}
use Rattle.mk_world.specs.declared.time.When.{When}
use Rattle.mk_world.specs.declared.time.When.TheVariants as when
use Rattle.mk_oodate.specs.declared.reason.NodeMode.{NodeMode}
use Rattle.mk_oodate.specs.declared.reason.Times.{Times}
use Rattle.mk_oodate.specs.Lists.{read_paths, missed_paths, left_paths}
use Rattle.mk_oodate.specs.Stale.{stale}

-- In meta mode, where a meta file and its records must be there, and commands and records count.
pub record GoesByRecords (mode : NodeMode) : Type 0 where
  pub meta : mode.meta ≡ true
  pub missing_meta : mode.missing_meta ≡ true
  pub missing_filemon : mode.missing_filemon ≡ true
  pub nofilemon : mode.nofilemon ≡ false
  pub ignore_cmd : mode.ignore_cmd ≡ false
  pub count_only : mode.count_only ≡ false

-- One file was changed before another, whose time may be unknown, which is later than all.
abbrev pub IsBefore : When → When → Type 0
IsBefore (when.At one) (when.At other) = one.0 < other.0
IsBefore (when.At one) when.Unknown = Unit {0}
IsBefore (when.At one) when.Missing = ⊥
IsBefore when.Missing other = ⊥
IsBefore when.Unknown other = ⊥

-- A file stands, and was changed before a stamp.
abbrev pub IsOlderThan : Time → When → Type 0
IsOlderThan stamp (when.At time) = time.0 < stamp.0
IsOlderThan stamp when.Missing = ⊥
IsOlderThan stamp when.Unknown = ⊥

-- Line by line: a line that is compared has the text of the other, and whether it is ignored.
abbrev pub AreTheSame : List TaskLine → List TaskLine → Type 0
AreTheSame = AllZip
    (λ line other. line.compared ≡ true
    → (line.text ≡ other.text) × (line.ignore ≡ other.ignore))

-- A target is fresh by a meta file: it was left alone since that was written; the exported
-- variables, the directory and the commands are those of its job; what the job found outside is
-- older than the job, what it missed is missing, and what it left written stands.
pub record IsFresh (meta : Meta) (task : Task) (times : Times) : Type 0 where
  pub standing : times.target ≢ when.Missing
  pub target : meta.target ≡ task.target
  pub untouched : IsBefore times.target times.meta
  pub exports : task.exports ≡ meta.exports
  pub directory : task.cwd ≡ meta.cwd
  pub lines : AreTheSame task.lines meta.lines
  pub recorded : (records : List Rec) × (meta.records ≡ Some records)
  pub reads : All (IsOlderThan meta.stamp) times.reads
  pub misses : All (λ time. time ≡ when.Missing) times.misses
  pub left : All (λ time. time ≢ when.Missing) times.left

-- No reason is found exactly of fresh targets: here, that a target without a reason is fresh.
abbrev pub NoReasonIsFresh : Type 0
NoReasonIsFresh =
    (meta : Meta) (task : Task) (mode : NodeMode) (times : Times) → GoesByRecords mode
    → stale (Some meta) task mode times ≡ None → IsFresh meta task times

-- the looks for a node: paths, each with the time that was seen
abbrev pub Looks : Type 0
Looks = List (List ℕ × When)

abbrev pub Saw : Looks → List ℕ → When → Type 0
Saw looks path time = Contains looks (path, time)

-- The times are those of the paths that the records give, each as a look saw it.
pub record AreOfRecords
    (looks : Looks) (ignored : List (List ℕ)) (records : List Rec) (times : Times)
    : Type 0 where
  pub reads : AllZip (Saw looks) (read_paths ignored records) times.reads
  pub misses : AllZip (Saw looks) (missed_paths ignored records) times.misses
  pub left : AllZip (Saw looks) (left_paths ignored records) times.left

-- At each of these paths, a look saw a time of this kind.
abbrev pub EachSaw : Looks → (When → Type 0) → List (List ℕ) → Type 0
EachSaw looks kind = All (λ path. (time : When) × Saw looks path time × kind time)

-- Each path of the records is, at a look, as the job of a fresh target left it.
pub record PathsAreFresh
    (looks : Looks) (ignored : List (List ℕ)) (stamp : Time) (records : List Rec)
    : Type 0 where
  pub reads : EachSaw looks (IsOlderThan stamp) (read_paths ignored records)
  pub misses : EachSaw looks (λ time. time ≡ when.Missing) (missed_paths ignored records)
  pub left : EachSaw looks (λ time. time ≢ when.Missing) (left_paths ignored records)

abbrev pub FreshAtPaths : Type 0
FreshAtPaths =
    (looks : Looks) (ignored : List (List ℕ)) (records : List Rec)
    (meta : Meta) (task : Task) (times : Times)
    → AreOfRecords looks ignored records times → IsFresh meta task times
    → PathsAreFresh looks ignored meta.stamp records
