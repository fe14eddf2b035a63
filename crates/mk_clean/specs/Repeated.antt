-- When the job of a node does on the files that stand what a recorded one did, whatever stands at
-- its own path: so what it reads and changes may be told from its records, also where the node
-- makes no file.
use Rattle.std.specs.Prelude.{◌≡◌, ℕ, List, [], Some}
use Rattle.std.specs.List.{AllByRecursion}
use Rattle.mk_clean.specs.Clean.{Plan, doings_on}
use Rattle.mk_clean.specs.Kept.{seen_at, until}
use Rattle.mk_clean.specs.Tested.{HasTask}
use Rattle.mk_filemon.specs.Outer.{ops_of}
use Rattle.mk_filemon.specs.declared.record.Rec.{Rec}
use Rattle.mk_meta.specs.TrueHistory.{HasExactRecords, IsTrue, deeds_of_job}
use Rattle.mk_meta.specs.declared.meta.Meta.{Meta}
use Rattle.mk_oodate.specs.Fresh.{AreTheSame, IsOlderThan}
use Rattle.mk_oodate.specs.Lists.{missed_paths, read_paths}
use Rattle.mk_world.specs.Calls.{when_of}
use Rattle.mk_world.specs.History.{MayAll, contents, first_state}
use Rattle.mk_world.specs.Records.{AreExact}
use Rattle.mk_world.specs.Talks.{Meaning, NextOf}
use Rattle.mk_world.specs.declared.command.Task.{Task}
use Rattle.mk_world.specs.declared.history.File.{File}
use Rattle.mk_world.specs.declared.history.Happening.{Happening}
use Rattle.mk_world.specs.declared.time.When.{When}
use Rattle.mk_world.specs.declared.time.When.TheVariants as when

-- A task is that of a meta file with these records: the exported variables, the directory and the
-- commands are those of its job; and by the times of the files what the job found outside is older
-- than the job, and what it missed is missing.
pub record IsAsRecorded (meta : Meta) (records : List Rec) (task : Task) (time : List ℕ → When)
    : Type 0
  where
    pub exports : task.exports ≡ meta.exports
    pub directory : task.cwd ≡ meta.cwd
    pub lines : AreTheSame task.lines meta.lines
    pub reads : AllByRecursion (λ path. IsOlderThan meta.stamp (time path)) (read_paths [] records)
    pub misses : AllByRecursion (λ path. time path ≡ when.Missing) (missed_paths [] records)

-- Where a meta file tells what happened, and a node's task is as it is recorded there, by looks at
-- moments of their own behind its job, the node's job does on what these looks saw what that job
-- did.
abbrev pub RecordedJobsRepeat : Type 0
RecordedJobsRepeat =
    (meaning : Meaning) (base : List File) (meta : Meta) (events : List Happening)
    (is : IsTrue meaning.next meta events) (later : List ℕ → List Happening) (records : List Rec)
    (plan : Plan) (node : ℕ) (task : Task)
    → ((path : List ℕ) → MayAll meaning (first_state base) (until is (later path)))
    → meta.records ≡ Some records → HasTask plan node task
    → IsAsRecorded meta records task (λ path. when_of (seen_at base is later path))
    → doings_on meaning plan node (contents (seen_at base is later)) ≡ is.doings

-- The records of a true meta file that has exact ones are exactly those of the steps of its job.
abbrev pub ExactRecordsAreOfSteps : Type 0
ExactRecordsAreOfSteps =
    (next : NextOf) (meta : Meta) (events : List Happening) (is : IsTrue next meta events)
    (records : List Rec) → meta.records ≡ Some records → HasExactRecords is
    → AreExact (ops_of records) (deeds_of_job is.doings)
