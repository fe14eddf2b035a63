-- That a build of the program is one of turns.
use Rattle.std.specs.Prelude.{◌≡◌, ◌⊎◌, ℕ, ◌<◌, Bool, List, [], ◌∷◌, Some, None, false, slice_get}
use Rattle.mk_clean.specs.Clean.{clean_build}
use Rattle.mk_clean.specs.Declared.{IsDeclared}
use Rattle.mk_clean.specs.Same.{DoesCleanSteps, HasCleanFiles}
use Rattle.mk_clean.specs.Turns as turn
use Rattle.mk_clean.specs.Turns.{Turn, MayTurns}
use Rattle.mk_decision.specs.Decisions.{Work, IsBegun, IsKept}
use Rattle.mk_meta.specs.TrueHistory.{IsTrueHistory}
use Rattle.mk_trace.specs.Builds.{IsBuild, Makes, Moment, first_build, build_after_all, rules_of}
use Rattle.mk_trace.specs.Calls.{GivesUpLast}
use Rattle.mk_trace.specs.Ends.{IsOver}
use Rattle.mk_decision.specs.Makers.{jobs_of}
use Rattle.mk_trace.specs.Items.{Item, looks, keeps, refuses, starts, passes, waits, steps, ends}
use Rattle.mk_trace.specs.Items.{changes, leaves, Happened}
use Rattle.mk_trace.specs.Runs.{Tasks}
use Rattle.mk_trace.specs.TrueBuilds.{IsApart}
use Rattle.mk_world.specs.History.{files_of, state_of}
use Rattle.mk_world.specs.Lawful.{IsLawful}
use Rattle.mk_world.specs.Looks.{Seen}
use Rattle.mk_world.specs.Talks.{Meaning}
use Rattle.mk_world.specs.Told.{Told}
use Rattle.mk_world.specs.declared.history.History.{History}
use Rattle.mk_headline.specs.Plans.{clean_plan, has_job}
use Rattle.mk_plan.specs.Deciding.{is_stopped}
use Rattle.mk_plan.specs.Plans.{node_at}
use Rattle.mk_plan.specs.declared.plan.NodeState.TheVariants.{Settled}
use Rattle.mk_headline.specs.Premises.{IsWellMade, GoesByMetaMode}
use Rattle.mk_headline.specs.Turned.{AreTurned}

-- the turns of a build, each of which may follow those before it, and which leave the files as the
-- build does
pub record IsBuildOfTurns (meaning : Meaning) (work : Work) (tasks : Tasks) (items : List Item)
    (old new : History) : Type 0
  where
    pub turns : List Turn
    pub are : AreTurned work tasks (first_build work) items turns
    pub may : MayTurns meaning (clean_plan work tasks) (turn.first_build (files_of old)) turns
    pub files : (turn.after_turns (clean_plan work tasks) (turn.first_build (files_of old)) turns).files
        ≡ files_of new
    -- a node that is settled in the build is so in the turns, unless a failure has stopped the run,
    -- behind which a job ends with its next line
    pub settled_are : is_stopped (rules_of work)
        (build_after_all work tasks (first_build work) items).run.nodes ≡ false → (node : ℕ)
        → slice_get (build_after_all work tasks (first_build work) items).run.nodes node
        ≡ Some Settled
        → (turn.after_turns (clean_plan work tasks) (turn.first_build (files_of old)) turns).stage node
        ≡ turn.settled

-- no node with commands is kept
abbrev pub KeepsNoJob : Work → List Item → Type 0
KeepsNoJob work [] = Unit {0}
KeepsNoJob work (keeps node ∷ items) = (has_job (node_at work.plan node) ≡ false)
    × KeepsNoJob work items
KeepsNoJob work (looks node seen ∷ items) = KeepsNoJob work items
KeepsNoJob work (refuses node number what ∷ items) = KeepsNoJob work items
KeepsNoJob work (starts node number ticket owner cmd ∷ items) = KeepsNoJob work items
KeepsNoJob work (passes node number ∷ items) = KeepsNoJob work items
KeepsNoJob work (waits ∷ items) = KeepsNoJob work items
KeepsNoJob work (steps ticket owner deed time ∷ items) = KeepsNoJob work items
KeepsNoJob work (ends node number owner ended ∷ items) = KeepsNoJob work items
KeepsNoJob work (changes node change ∷ items) = KeepsNoJob work items
KeepsNoJob work (leaves ticket owner ∷ items) = KeepsNoJob work items

-- A build that keeps no node with commands is one of turns, whatever has failed so far.
abbrev pub FirstBuildsAreTurns : Type 0
FirstBuildsAreTurns =
    (meaning : Meaning) (work : Work) (tasks : Tasks) (items : List Item) (old new : History)
    → (state_of old).children ≡ [] → IsWellMade work → KeepsNoJob work items
    → Makes work tasks (first_build work) items → Happened meaning items old new → GivesUpLast items
    → IsBuildOfTurns meaning work tasks items old new

-- A build in meta mode is one of turns, whichever nodes it has kept, whatever has failed so far,
-- and whichever children were given up.
abbrev pub BuildsAreTurns : Type 0
BuildsAreTurns =
    (meaning : Meaning) (work : Work) (tasks : Tasks) (items : List Item) (old new : History)
    → IsLawful meaning old → (state_of old).children ≡ [] → IsTrueHistory meaning.next old
    → IsWellMade work → GoesByMetaMode work tasks
    → IsDeclared (clean_plan work tasks) (clean_build meaning (clean_plan work tasks) (files_of old))
    → Makes work tasks (first_build work) items → Happened meaning items old new → GivesUpLast items
    → IsBuildOfTurns meaning work tasks items old new

-- A build begins so: where no child runs, in a history that may have come about, in which each meta
-- file that stands tells what happened. The plan is well made, the build goes by meta mode, and
-- what the jobs of the clean build read and change is declared.
pub record IsReadyBuild (meaning : Meaning) (work : Work) (tasks : Tasks) (old : History)
    : Type 0 where
  pub lawful : IsLawful meaning old
  pub idle : (state_of old).children ≡ []
  pub truth : IsTrueHistory meaning.next old
  pub well_made : IsWellMade work
  pub mode : GoesByMetaMode work tasks
  pub declared : IsDeclared (clean_plan work tasks)
      (clean_build meaning (clean_plan work tasks) (files_of old))

-- In a build jobs have kept apart, whatever has failed so far, and whichever children were given
-- up.
abbrev pub BuildsKeepApart : Type 0
BuildsKeepApart =
    (meaning : Meaning) (work : Work) (tasks : Tasks) (items : List Item) (old new : History)
    → IsReadyBuild meaning work tasks old → Makes work tasks (first_build work) items
    → Happened meaning items old new → GivesUpLast items → IsApart work tasks items

-- So meta files tell what happened behind the items of a build, at whatever moment, whatever has
-- failed, and however it ends.
abbrev pub BuildsStayTrue : Type 0
BuildsStayTrue =
    (meaning : Meaning) (work : Work) (tasks : Tasks) (items : List Item) (old new : History)
    → IsReadyBuild meaning work tasks old → Makes work tasks (first_build work) items
    → Happened meaning items old new → GivesUpLast items → IsTrueHistory meaning.next new

-- A build leaves what the clean build leaves: that goes well, each file that its nodes make has the
-- bytes that it gives it, and each step of the build is a step of the same node in it. Its jobs
-- have kept apart, and so each meta file that stands behind it tells what happened.
pub record IsClean (meaning : Meaning) (work : Work) (tasks : Tasks) (items : List Item)
    (old new : History) : Type 0
  where
    pub files : HasCleanFiles meaning (clean_plan work tasks) (files_of old) (files_of new)
    pub built : IsBuildOfTurns meaning work tasks items old new
    pub steps_are : DoesCleanSteps (clean_plan work tasks)
        (clean_build meaning (clean_plan work tasks) (files_of old)) built.turns
        (turn.after_turns (clean_plan work tasks) (turn.first_build (files_of old)) built.turns)
    pub apart : IsApart work tasks items
    pub truth : IsTrueHistory meaning.next new

-- Where a build is over and nothing failed, it leaves what the clean build leaves.
abbrev pub BuildsAreClean : Type 0
BuildsAreClean =
    (meaning : Meaning) (work : Work) (tasks : Tasks) (items : List Item) (old new : History)
    → IsReadyBuild meaning work tasks old → Makes work tasks (first_build work) items
    → Happened meaning items old new → GivesUpLast items → 0 < jobs_of work
    → IsOver work None (build_after_all work tasks (first_build work) items)
    → IsClean meaning work tasks items old new

-- A build of the driver that is over, and in which nothing failed, leaves what the clean build
-- leaves, where the world tells its history.
abbrev pub DoneBuildsAreClean : Type 0
DoneBuildsAreClean =
    (meaning : Meaning) (work : Work) (cut : Bool) (first last : Moment)
    (build : IsBuild meaning work cut first last (IsOver work None)) → 0 < jobs_of work
    → Told first.history last.history
    (λ old new. IsReadyBuild meaning work build.tasks old
    → IsClean meaning work build.tasks build.items old new)

-- a node has the lines with which it was kept or begun, by what was seen
abbrev pub HasJudgedLines : Work → Tasks → ℕ → Type 0
HasJudgedLines work tasks node =
    (seen : List Seen) × (IsKept work node seen (tasks node) ⊎ IsBegun work node seen (tasks node))

-- Each node that is settled in a build has such lines.
abbrev pub SettledHaveJudgedLines : Type 0
SettledHaveJudgedLines =
    (work : Work) (tasks : Tasks) (items : List Item) → Makes work tasks (first_build work) items
    → (node : ℕ)
    → slice_get (build_after_all work tasks (first_build work) items).run.nodes node ≡ Some Settled
    → HasJudgedLines work tasks node
