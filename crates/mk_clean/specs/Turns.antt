-- A build as turns, one after the other: looks, decisions, and what the lines of jobs do, in the
-- order in which these things happen.
use Rattle.std.specs.Prelude.{◌≡◌, ℕ, ◌==◌, List, [], ◌∷◌, ◌++◌, Option, Some, None, true, false}
use Rattle.std.specs.Prelude.{if◌then◌else◌}
use Rattle.std.specs.Str.{bytes_eq}
use Rattle.mk_clean.specs.Clean.{Plan, DependsOn, doings_on, AllWell, IsAmong}
use Rattle.mk_clean.specs.Jobs.{goes_on}
use Rattle.mk_meta.specs.TrueHistory.{deeds_of_job}
use Rattle.mk_world.specs.Deeds.{Store, IsRight, put, after_deed}
use Rattle.mk_world.specs.Outer.{Over, nothing_over, over_deeds, on}
use Rattle.mk_world.specs.Talks.{NextOf, Meaning, Doing, answer, deed_at}
use Rattle.mk_world.specs.declared.command.Cmd.{Cmd}
use Rattle.mk_world.specs.declared.command.TaskLine.{TaskLine}
use Rattle.mk_world.specs.declared.step.Answer.{Answer}
use Rattle.mk_world.specs.declared.step.Deed.{Deed}
use Rattle.mk_world.specs.declared.step.Next.TheVariants.{More, Over as Ended}
use Rattle.mk_world.specs.declared.step.Request.{Request}

-- How far a node is: undecided; between two of its lines, or in one, with what its job did so far,
-- what the line was answered, and the lines to come; settled; or failed.
pub data Stage : Type 0 where
  waiting : Stage
  between : (deeds : List Deed) → (lines : List TaskLine) → Stage
  inside : (deeds : List Deed) → (seen : List Answer) → (line : TaskLine) → (lines : List TaskLine)
      → Stage
  settled : Stage
  failed : Stage

-- the files, the stage of each node, and what its last look at each path saw
pub record Build : Type 0 where
  pub files : Store
  pub stage : ℕ → Stage
  pub looks : ℕ → Over

abbrev pub first_build : Store → Build
first_build store = record {
  files = store;
  stage = λ node. waiting;
  looks = λ node. nothing_over;
}

-- what happens next
pub data Turn : Type 0 where
  looks_at : (node : ℕ) → (path : List ℕ) → Turn
  keeps : (node : ℕ) → Turn
  begins : (node : ℕ) → Turn
  starts_line : (node : ℕ) → Turn
  steps : (node : ℕ) → (deed : Deed) → Turn
  ends_line : (node : ℕ) → Turn
  fails : (node : ℕ) → Turn
  settles : (node : ℕ) → Turn
  removes : (node : ℕ) → Turn
  puts_meta : (path : List ℕ) → (bytes : Option (List ℕ)) → Turn

abbrev pub with_stage : ℕ → Stage → (ℕ → Stage) → ℕ → Stage
with_stage node stage stages = λ one. if node == one then stage else stages one

abbrev pub started : Stage → Stage
started waiting = waiting
started (between deeds []) = between deeds []
started (between deeds (line ∷ lines)) = inside deeds [] line lines
started (inside deeds seen line lines) = inside deeds seen line lines
started settled = settled
started failed = failed

abbrev pub stepped : Deed → Stage → Stage
stepped deed waiting = waiting
stepped deed (between deeds lines) = between deeds lines
stepped deed (inside deeds seen line lines) =
    inside (deeds ++ deed ∷ []) (seen ++ answer deed ∷ []) line lines
stepped deed settled = settled
stepped deed failed = failed

abbrev pub line_ended : Stage → Stage
line_ended waiting = waiting
line_ended (between deeds lines) = between deeds lines
line_ended (inside deeds seen line lines) = between deeds lines
line_ended settled = settled
line_ended failed = failed

abbrev pub with_look : ℕ → List ℕ → Option (List ℕ) → (ℕ → Over) → ℕ → Over
with_look node path stands looks =
    λ one. if node == one then (λ other. if bytes_eq path other then Some stands else looks one other)
    else looks one

-- a build in which a node has come to this stage, with these files
abbrev pub at_stage : Build → ℕ → Stage → Store → Build
at_stage build node stage files = record build {
  files = files;
  stage = with_stage node stage build.stage;
}

abbrev pub after_turn : Plan → Build → Turn → Build
after_turn plan build (looks_at node path) =
    record build { looks = with_look node path (build.files path) build.looks }
after_turn plan build (keeps node) = at_stage build node settled build.files
after_turn plan build (begins node) =
    at_stage build node (between [] (plan.node node).lines) build.files
after_turn plan build (starts_line node) =
    at_stage build node (started (build.stage node)) build.files
after_turn plan build (steps node deed) =
    at_stage build node (stepped deed (build.stage node)) (after_deed build.files deed)
after_turn plan build (ends_line node) =
    at_stage build node (line_ended (build.stage node)) build.files
after_turn plan build (fails node) = at_stage build node failed build.files
after_turn plan build (settles node) = at_stage build node settled build.files
after_turn plan build (removes node) =
    record build { files = put build.files (record { path = (plan.node node).name; bytes = None }) }
after_turn plan build (puts_meta path bytes) =
    record build { files = put build.files (record { path = path; bytes = bytes }) }

abbrev pub after_turns : Plan → Build → List Turn → Build
after_turns plan build [] = build
after_turns plan build (turn ∷ turns) = after_turns plan (after_turn plan build turn) turns

-- all that a node depends on is settled
abbrev pub SourcesSettled : Plan → Build → ℕ → Type 0
SourcesSettled plan build node =
    (other : ℕ) → DependsOn plan node other → build.stage other ≡ settled

-- the files by which a node is decided: what its looks saw
abbrev pub seen_by : Build → ℕ → Store
seen_by build node = on (build.looks node) build.files

abbrev pub doings_seen : Meaning → Plan → Build → ℕ → List Doing
doings_seen meaning plan build node = doings_on meaning plan node (seen_by build node)

-- A node may be kept: on the files that its looks saw its job goes well, and what it leaves at the
-- node's path stands there.
pub record MayKeep (meaning : Meaning) (plan : Plan) (build : Build) (node : ℕ) : Type 0 where
  pub well : AllWell (plan.node node).lines (doings_seen meaning plan build node)
  pub stands : (bytes : Option (List ℕ))
      → over_deeds nothing_over (deeds_of_job (doings_seen meaning plan build node))
      (plan.node node).name ≡ Some bytes
      → seen_by build node (plan.node node).name ≡ bytes

-- a step is what a command asks for next
pub record IsAsked (next : NextOf) (cmd : Cmd) (seen : List Answer) (deed : Deed) : Type 0 where
  pub request : Request
  pub stands : Option (List ℕ)
  pub next_is : next cmd seen ≡ More request
  pub deed_is : deed ≡ deed_at request stands

abbrev pub MayStep : NextOf → Plan → Store → Deed → Stage → Type 0
MayStep next plan files deed waiting = ⊥
MayStep next plan files deed (between deeds lines) = ⊥
MayStep next plan files deed (inside deeds seen line lines) =
    IsRight files deed × IsAsked next (plan.command line) seen deed
MayStep next plan files deed settled = ⊥
MayStep next plan files deed failed = ⊥

-- a doing of which only the end counts
abbrev pub ended_with : ℕ → List ℕ → Doing
ended_with status output = record { deeds = []; status = status; output = output }

-- A line ends where its command is at its end, and it has not failed.
pub record HasEnded (next : NextOf) (plan : Plan) (seen : List Answer) (line : TaskLine)
    : Type 0 where
  pub status : ℕ
  pub output : List ℕ
  pub next_is : next (plan.command line) seen ≡ Ended status output
  pub well : goes_on line (ended_with status output) ≡ true

abbrev pub MayEndLine : NextOf → Plan → Stage → Type 0
MayEndLine next plan waiting = ⊥
MayEndLine next plan (between deeds lines) = ⊥
MayEndLine next plan (inside deeds seen line lines) = HasEnded next plan seen line
MayEndLine next plan settled = ⊥
MayEndLine next plan failed = ⊥

-- It fails where its command is at its end with a status that counts.
pub record HasFailed (next : NextOf) (plan : Plan) (seen : List Answer) (line : TaskLine)
    : Type 0 where
  pub status : ℕ
  pub output : List ℕ
  pub next_is : next (plan.command line) seen ≡ Ended status output
  pub bad : goes_on line (ended_with status output) ≡ false

abbrev pub MayFail : NextOf → Plan → Stage → Type 0
MayFail next plan waiting = ⊥
MayFail next plan (between deeds lines) = ⊥
MayFail next plan (inside deeds seen line lines) = HasFailed next plan seen line
MayFail next plan settled = ⊥
MayFail next plan failed = ⊥

-- A node is looked at and decided where it is undecided and all that it depends on is settled. It
-- may be kept, or it begins; its lines follow one another, each to its end; then it is settled.
-- Where a line fails, the node has failed, and make may remove its made file. In all else make
-- itself changes meta files alone. A child that is given up does nothing more, and has no turn.
abbrev pub MayTurn : Meaning → Plan → Build → Turn → Type 0
MayTurn meaning plan build (looks_at node path) =
    (build.stage node ≡ waiting) × SourcesSettled plan build node
MayTurn meaning plan build (keeps node) =
    (build.stage node ≡ waiting) × SourcesSettled plan build node × MayKeep meaning plan build node
MayTurn meaning plan build (begins node) =
    (build.stage node ≡ waiting) × SourcesSettled plan build node × IsAmong node plan.order
MayTurn meaning plan build (starts_line node) =
    (deeds : List Deed) × (line : TaskLine) × (lines : List TaskLine)
    × (build.stage node ≡ between deeds (line ∷ lines))
MayTurn meaning plan build (steps node deed) =
    MayStep meaning.next plan build.files deed (build.stage node)
MayTurn meaning plan build (ends_line node) = MayEndLine meaning.next plan (build.stage node)
MayTurn meaning plan build (fails node) = MayFail meaning.next plan (build.stage node)
MayTurn meaning plan build (settles node) =
    (deeds : List Deed) × (build.stage node ≡ between deeds [])
MayTurn meaning plan build (removes node) =
    (build.stage node ≡ failed) × ((plan.node node).made ≡ true)
MayTurn meaning plan build (puts_meta path bytes) = plan.is_meta path ≡ true

abbrev pub MayTurns : Meaning → Plan → Build → List Turn → Type 0
MayTurns meaning plan build [] = Unit {0}
MayTurns meaning plan build (turn ∷ turns) =
    MayTurn meaning plan build turn × MayTurns meaning plan (after_turn plan build turn) turns
