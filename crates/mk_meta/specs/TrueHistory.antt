-- That meta files tell what happened.
use Rattle.std.specs.Prelude.{◌≡◌, ◌⊎◌, ℕ, ◌==◌, Bool, true, false, List, [], ◌∷◌, ◌++◌}
use Rattle.std.specs.Prelude.{map, flat_map, codes, Some, IfSome}
use Rattle.std.specs.List.{AllByRecursion, AllZip, Contains}
use Rattle.mk_filemon.specs.declared.record.Rec.{Rec}
use Rattle.mk_meta.specs.Jobs.{command_in, commands_of, records_of_job, working}
use Rattle.mk_meta.specs.Lawful.{IsLawful}
use Rattle.mk_meta.specs.Texts.{meta_text}
use Rattle.mk_meta.specs.declared.meta.Meta.{Meta}
use Rattle.mk_world.specs.Records.{op_of, Tell}
use Rattle.mk_world.specs.Deeds.{changes}
use Rattle.mk_world.specs.History.{Effect, effects, files_of}
use Rattle.mk_world.specs.Talks.{Doing, NextOf, Talks}
use Rattle.mk_world.specs.declared.command.Cmd.{Cmd}
use Rattle.mk_world.specs.declared.command.TaskLine.{TaskLine}
use Rattle.mk_world.specs.declared.history.Happening.{Happening}
use Rattle.mk_world.specs.declared.history.Happening.TheVariants.{Edit, Look, Stamp, Put, Gone, Ask}
use Rattle.mk_world.specs.declared.history.Happening.TheVariants.{Start, Step, End, Left}
use Rattle.mk_world.specs.declared.history.History.{History}
use Rattle.mk_world.specs.declared.step.Deed.{Deed}
use Rattle.mk_world.specs.declared.step.Op.{Op}

-- what the children of one job do
pub data JobEvent : Type 0 where
  begun : (cmd : Cmd) → JobEvent
  did : (deed : Deed) → JobEvent
  ended : JobEvent

abbrev pub if_same : Bool → JobEvent → List JobEvent
if_same true event = event ∷ []
if_same false event = []

-- The children of a job are those that its start stamp owns.
abbrev pub job_event : ℕ → Happening → List JobEvent
job_event stamp (Start ticket owner cmd) = if_same (owner == stamp) (begun cmd)
job_event stamp (Step ticket owner deed time) = if_same (owner == stamp) (did deed)
job_event stamp (End ticket owner) = if_same (owner == stamp) ended
job_event stamp (Left ticket owner) = []
job_event stamp (Edit path bytes time) = []
job_event stamp (Look path) = []
job_event stamp (Stamp path bytes time) = []
job_event stamp (Put path bytes time) = []
job_event stamp (Gone path time) = []
job_event stamp (Ask cmd steps) = []

abbrev pub job_events : ℕ → List Happening → List JobEvent
job_events stamp events = flat_map (job_event stamp) events

-- one command after the other, each from its start to its end
abbrev pub one_by_one : List Cmd → List Doing → List JobEvent
one_by_one [] doings = []
one_by_one (cmd ∷ cmds) [] = []
one_by_one (cmd ∷ cmds) (doing ∷ doings) =
    begun cmd ∷ (map did doing.deeds ++ ended ∷ one_by_one cmds doings)

-- all steps of a job, in order
abbrev pub deeds_of_job : List Doing → List Deed
deeds_of_job doings = flat_map (λ doing. doing.deeds) doings

abbrev pub changed_paths : List Deed → List (List ℕ)
changed_paths deeds = flat_map (λ deed. map (λ spot. spot.path) (changes deed)) deeds

-- a path is changed by none of these
abbrev pub LeavesAlone : List ℕ → List Effect → Type 0
LeavesAlone path = AllByRecursion (λ effect. (effect.path ≡ path) → ⊥)

abbrev pub NoneChanges : List ℕ → List Happening → Type 0
NoneChanges path = AllByRecursion (λ event. LeavesAlone path (effects event))

-- nothing but the job's own steps changes one of these paths
abbrev pub Alone : ℕ → List (List ℕ) → List Happening → Type 0
Alone stamp paths =
    AllByRecursion
    (λ event. ((deed : Deed) × (job_event stamp event ≡ did deed ∷ []))
    ⊎ ((path : List ℕ) → Contains paths path → LeavesAlone path (effects event)))

-- a line ran to its end, and its status was 0 or does not count
pub record WentWell (next : NextOf) (meta : Meta) (line : TaskLine) (doing : Doing) : Type 0 where
  pub talks : Talks next (command_in meta line) [] doing.deeds doing.status doing.output
  pub well : (doing.status ≡ 0) ⊎ (line.ignore ≡ true)

-- what the children of a job recorded, where each recorded exactly its steps
abbrev pub ops_of_children : List Doing → List (List Op)
ops_of_children doings = map (λ doing. map op_of doing.deeds) doings

-- These are the records of a job with these lines: what each of its children recorded tells of its
-- steps.
pub record AreOfJob (lines : List TaskLine) (doings : List Doing) (records : List Rec)
    : Type 0 where
  pub children : List (List Op)
  pub tell : AllZip (λ ops doing. Tell ops doing.deeds) children doings
  pub all : records ≡ records_of_job lines children

-- the file beside a target that tells of its last job
abbrev pub meta_path : List ℕ → List ℕ
meta_path target = target ++ codes ".meta"

-- A meta file tells what happened: its job began with a stamp of the file, and the file was written
-- when the job had ended, and not changed since; in between the job's children ran its commands one
-- after the other, each to its end, and well; the records are those of their steps; nothing else
-- changed the target, or what the job changed; and no child of the job ran later.
pub record IsTrue (next : NextOf) (meta : Meta) (events : List Happening) : Type 0 where
  pub before : List Happening
  pub first : List ℕ
  pub during : List Happening
  pub time : ℕ
  pub since : List Happening
  pub doings : List Doing
  pub all : events
      ≡ before ++ Stamp (meta_path meta.target) first meta.stamp.0 ∷ (during
      ++ Put (meta_path meta.target) (meta_text meta) time ∷ since)
  pub unchanged : NoneChanges (meta_path meta.target) since
  pub commands : job_events meta.stamp.0 during ≡ one_by_one (commands_of meta) doings
  pub well : AllZip (WentWell next meta) (working meta.lines) doings
  pub over : job_events meta.stamp.0 since ≡ []
  pub records : IfSome meta.records (AreOfJob meta.lines doings)
  pub alone : Alone meta.stamp.0 (meta.target ∷ changed_paths (deeds_of_job doings)) during

-- The records of a true meta file are exact: those of its job's steps, one for each, in order.
abbrev pub HasExactRecords : {next : NextOf} {meta : Meta} {events : List Happening}
    → IsTrue next meta events
    → Type 0
HasExactRecords {meta = meta} is =
    IfSome meta.records (λ records. records ≡ records_of_job meta.lines (ops_of_children is.doings))

-- Each meta file that stands tells what happened.
abbrev pub IsTrueHistory : NextOf → History → Type 0
IsTrueHistory next history =
    (meta : Meta) → IsLawful meta
    → files_of history (meta_path meta.target) ≡ Some (meta_text meta)
    → IsTrue next meta history.events

-- Where no meta file stands, there is nothing to tell.
abbrev pub NothingToTell : Type 0
NothingToTell =
    (next : NextOf) (history : History)
    → ((meta : Meta) → IsLawful meta
    → (files_of history (meta_path meta.target) ≡ Some (meta_text meta)) → ⊥)
    → IsTrueHistory next history
