-- What the jobs of nodes do on the files that stand, told from their meta files: whether it is
-- declared can then be told from what these record, and nothing need be run.
use Rattle.std.specs.Prelude.{◌≡◌, ℕ, List, Some, true}
use Rattle.std.specs.List.{AllByRecursion}
use Rattle.mk_clean.specs.Clean.{IsAmong, doings_on}
use Rattle.mk_clean.specs.Declared.{IsDeclared}
use Rattle.mk_clean.specs.Repeated.{IsAsRecorded}
use Rattle.mk_decision.specs.Decisions.{Work}
use Rattle.mk_declared.specs.Present.{present_jobs}
use Rattle.mk_declared.specs.Recorded.{AreDeclaredBy}
use Rattle.mk_filemon.specs.Outer.{ops_of}
use Rattle.mk_filemon.specs.declared.record.Rec.{Rec}
use Rattle.mk_headline.specs.Plans.{clean_plan, has_job}
use Rattle.mk_meta.specs.TrueHistory.{HasExactRecords, IsTrue, deeds_of_job}
use Rattle.mk_meta.specs.declared.meta.Meta.{Meta}
use Rattle.mk_plan.specs.Plans.{node_at}
use Rattle.mk_sound.specs.Files.{IsTrueStart}
use Rattle.mk_trace.specs.Runs.{Tasks}
use Rattle.mk_uptodate.specs.UpToDate.{task_in, time_in}
use Rattle.mk_world.specs.History.{files_of}
use Rattle.mk_world.specs.Records.{AreExact}
use Rattle.mk_world.specs.Talks.{Meaning}
use Rattle.mk_world.specs.declared.history.History.{History}

-- A node is recorded so: its meta file tells what happened, and has exactly these records; each of
-- its lines is compared; and as the files stand its task is as it is recorded, what its job found
-- is older than the job, and what it missed is missing. The node may be phony: nothing is asked of
-- what stands at its own path.
pub record IsRecorded (meaning : Meaning) (old : History) (work : Work) (lines : Tasks) (node : ℕ)
    (records : List Rec) : Type 0
  where
    pub meta : Meta
    pub told : IsTrue meaning.next meta old.events
    pub recorded : meta.records ≡ Some records
    pub exact : HasExactRecords told
    pub compared : AllByRecursion (λ line. line.compared ≡ true) (lines node)
    pub as_recorded : IsAsRecorded meta records (task_in work lines node) (time_in old)

-- Its job does on the files that stand what is recorded.
abbrev pub RecordedNodesDoTheSame : Type 0
RecordedNodesDoTheSame =
    (meaning : Meaning) (old : History) (work : Work) (lines : Tasks) (node : ℕ) (records : List Rec)
    → IsTrueStart meaning old → has_job (node_at work.plan node) ≡ true
    → IsRecorded meaning old work lines node records
    → AreExact (ops_of records) (deeds_of_job (doings_on meaning (clean_plan work lines) node (files_of old)))

-- Where all nodes with jobs are recorded, and what is recorded is declared, what their jobs read
-- and change on the files that stand is declared.
abbrev pub RecordedFilesAreDeclared : Type 0
RecordedFilesAreDeclared =
    (meaning : Meaning) (old : History) (work : Work) (lines : Tasks) (records : ℕ → List Rec)
    → IsTrueStart meaning old
    → ((node : ℕ) → IsAmong node (clean_plan work lines).order
    → IsRecorded meaning old work lines node (records node))
    → AreDeclaredBy (clean_plan work lines) (λ node. ops_of (records node))
    → IsDeclared (clean_plan work lines) (present_jobs meaning (clean_plan work lines) (files_of old))
