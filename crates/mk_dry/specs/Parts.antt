-- What a part of a dry run comes to: the dry run goes on, or the outside has ended it.
use Rattle.std.specs.Prelude.{◌≡◌, ℕ, ◌+◌, ◌<◌, List, [], length, set, Option, Some, true, false}
use Rattle.std.specs.Prelude.{Result, IfOk, IfErr}
use Rattle.mk_child.specs.declared.child.Place.{Place}
use Rattle.mk_child.specs.declared.halt.Halt.{Halt}
use Rattle.mk_decision.specs.Decisions.{Work, IsDecision}
use Rattle.mk_decision.specs.declared.decision.Decision.{Decision}
use Rattle.mk_flags.specs.declared.Flags.{Flags}
use Rattle.mk_graph.specs.declared.Made.{Made}
use Rattle.mk_plan.specs.Deciding.{is_stopped}
use Rattle.mk_plan.specs.declared.plan.NodeState.{NodeState}
use Rattle.mk_trace.specs.Builds.{Moment, moment}
use Rattle.mk_trace.specs.Runs.{fails, line_of}
use Rattle.mk_trace.specs.declared.result.Failure.{Failure}
use Rattle.mk_world.specs.Looks.{Seen}
use Rattle.mk_world.specs.Talks.{Meaning}
use Rattle.mk_world.specs.declared.command.TaskLine.{TaskLine}
use Rattle.mk_world.specs.declared.history.History.{History}
use Rattle.mk_dry.specs.Progress.{GoingAt, HaltedAt, HaltedIn, HasCome, InScene, IsAfter, IsAt}
use Rattle.mk_dry.specs.Progress.{IsBehind, IsEnded, IsGoneThrough, IsOpenScene, OverAt, Scene}
use Rattle.mk_dry.specs.Progress.{SeenAt, Standing, is_ready, work_in}
use Rattle.mk_dry.specs.Runs.{rules_of}
use Rattle.mk_dry.specs.declared.course.Course.{Course}

-- no child runs, and there is room for one
pub record IsAlone (Runs : List ℕ → Type 0) (tickets : List ℕ) (room : ℕ) : Type 0 where
  pub exact : Runs tickets
  pub none : tickets ≡ []
  pub has_room : 0 < room

-- In whatever scene it is, a part leads from what was so before it to what is so behind it, by what
-- it gave; or the outside has ended the dry run in it.
pub record Leads {S A : Type 0} (Before : S → Type 0) (Behind : A → S → Type 0) (Ended : Halt → S → Type 0)
    (result : Result A Halt) : Type 0 where
  pub goes : IfOk result (λ given. (scene : S) → Before scene → Behind given scene)
  pub ends : IfErr result (λ halt. (scene : S) → Before scene → Ended halt scene)

-- the lines of a node

-- the line at a place is one of the scene's open node
pub record IsLineOf (made : Made) (place : Place) (line : TaskLine) (scene : Scene) : Type 0
  where
    pub is_open : IsOpenScene scene
    pub node_is : scene.node ≡ place.node
    pub variables_are : scene.work.variables ≡ made.scopes
    pub mode_is : scene.work.mode ≡ made.mode
    pub counted : 0 < place.number
    pub line_is : line_of scene.lines place.number ≡ Some line

-- a dry run in a scene at a moment
abbrev pub StandsIn : Meaning → Moment → Standing → Scene → Type 0
StandsIn meaning now Stands scene = InScene meaning scene Stands now.history now.out now.events

abbrev pub EndedIn : Meaning → Moment → Halt → Scene → Type 0
EndedIn meaning now halt scene = HaltedIn meaning scene halt now.history now.out now.events

-- A part begins where a line so stands, and gives the status with which the line has ended.
abbrev pub EndsLine : Meaning → Made → Place → TaskLine → (Scene → ℕ → Standing) → Moment → Moment
    → Result ℕ Halt → Type 0
EndsLine meaning made place line Stands old new result =
    Leads (λ scene. IsLineOf made place line scene
    × StandsIn meaning old (Stands scene place.number) scene)
    (λ status scene. StandsIn meaning new
    (IsEnded scene place.number status (fails (Some line) status)) scene) (EndedIn meaning new) result

-- these are the lines of the scene's open node
pub record AreLinesOf (made : Made) (node : ℕ) (lines : List TaskLine)
    (failure : Option Failure) (scene : Scene) : Type 0
  where
    pub is_open : IsOpenScene scene
    pub node_is : scene.node ≡ node
    pub lines_are : scene.lines ≡ lines
    pub variables_are : scene.work.variables ≡ made.scopes
    pub mode_is : scene.work.mode ≡ made.mode
    pub failure_is : scene.failure ≡ failure

-- A part begins with the first line of a node, and gives how the node stands behind its lines.
abbrev pub EndsLines : Meaning → Made → ℕ → List TaskLine → Option Failure → Option Failure → Moment
    → Moment → Result NodeState Halt → Type 0
EndsLines meaning made node lines before failure old new result =
    Leads (λ scene. AreLinesOf made node lines before scene
    × StandsIn meaning old (IsBehind scene 0) scene)
    (λ stands scene. StandsIn meaning new
    (IsAt (set scene.opened node stands) [] scene.work failure) scene) (EndedIn meaning new) result

-- the nodes

-- how the world, standard output and what is kept of a dry run stand
pub record Point : Type 0 where
  pub history : Option History
  pub out : Option (List ℕ)
  pub course : Course

abbrev pub point : Option History → Option (List ℕ) → Course → Point
point history out course = record { history = history; out = out; course = course }

-- a dry run, by the work with which it began and its first moment
pub record Origin : Type 0 where
  pub start : Work
  pub first : Moment

-- the nodes up to a place were gone through
abbrev pub IsGoneTo : Made → Flags → Course → ℕ → Type 0
IsGoneTo made flags course place =
    IsGoneThrough (rules_of (work_in course made flags)) course.nodes.items course.failure place

-- a node of the plan is the next to be gone through, and no failure stops the run
pub record IsNext (made : Made) (flags : Flags) (course : Course) (node : ℕ) : Type 0 where
  pub within : node < length course.plan
  pub gone : IsGoneTo made flags course node
  pub going : is_stopped (rules_of (work_in course made flags)) course.nodes.items ≡ false

-- it is ready, too
pub record IsDue (made : Made) (flags : Flags) (course : Course) (node : ℕ) : Type 0 where
  pub next : IsNext made flags course node
  pub ready : is_ready (rules_of (work_in course made flags)) course.nodes.items node ≡ true

abbrev pub GoingFrom : Meaning → Made → Flags → ℕ → Point → Origin → Type 0
GoingFrom meaning made flags place now from =
    GoingAt meaning from.start made flags now.history now.course place from.first now.out

abbrev pub EndedFrom : Meaning → Point → Halt → Origin → Type 0
EndedFrom meaning now halt from =
    HaltedAt meaning from.start halt from.first (moment now.history now.out now.course.events.items)

-- A part goes through a node.
abbrev pub Passes : {A : Type 0} → Meaning → Made → Flags → ℕ → Point → Point → Result A Halt
    → Type 0
Passes {A} meaning made flags node old new result =
    Leads (GoingFrom meaning made flags node old) (λ done. GoingFrom meaning made flags (node + 1) new)
    (EndedFrom meaning new) result

-- A part goes through all nodes.
abbrev pub PassesAll : {A : Type 0} → Meaning → Made → Flags → Point → Point → Result A Halt
    → Type 0
PassesAll {A} meaning made flags old new result =
    Leads (GoingFrom meaning made flags 0 old)
    (λ done from. OverAt meaning from.start new.history new.course from.first new.out)
    (EndedFrom meaning new) result

-- a node was looked at, and is decided by that
abbrev pub DecidedFrom : Meaning → Made → Flags → ℕ → Decision → Point → Origin → Type 0
DecidedFrom meaning made flags node decision now from =
    (seen : List Seen) × IsDecision (work_in now.course made flags) node seen decision
    × SeenAt meaning from.start made flags now.history now.course node seen from.first now.out

-- A part carries out the decision of a node, and gives how the node then stands.
abbrev pub CarriesOut : Meaning → Made → Flags → ℕ → Decision → Point → Point
    → Result NodeState Halt → Type 0
CarriesOut meaning made flags node decision old new result =
    Leads (DecidedFrom meaning made flags node decision old)
    (λ stands from. IsAfter meaning from.start made flags new.history new.course node stands from.first
    new.out) (EndedFrom meaning new) result

-- The rules and how the nodes stand are as they were. How the node that was decided stands, is
-- given.
pub record IsCarriedOut (made : Made) (flags : Flags) (old new : Course) (result : Result NodeState Halt)
    : Type 0
  where
    pub nodes : new.nodes.items ≡ old.nodes.items
    pub rules : rules_of (work_in new made flags) ≡ rules_of (work_in old made flags)
    pub length : length new.plan ≡ length old.plan
    pub come : IfOk result (λ stands. HasCome stands old.failure new.failure)
