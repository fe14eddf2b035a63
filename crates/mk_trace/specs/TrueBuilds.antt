-- That the meta files which a build leaves tell what happened.
use Rattle.std.specs.Prelude.{◌≡◌, ◌⊎◌, ℕ, Bool, List, [], ◌∷◌, ◌++◌, flat_map, Some, slice_get}
use Rattle.std.specs.List.{AllByRecursion, Contains}
use Rattle.mk_meta.specs.TrueHistory.{JobEvent, begun as begun_event, did, ended as ended_event}
use Rattle.mk_meta.specs.TrueHistory.{Alone, IsTrueHistory, changed_paths, job_events, meta_path}
use Rattle.mk_plan.specs.Plans.{node_at}
use Rattle.mk_plan.specs.declared.plan.NodeState.TheVariants.{Open}
use Rattle.mk_world.specs.History.{state_of, timed_effects}
use Rattle.mk_world.specs.Lawful.{IsLawful}
use Rattle.mk_world.specs.Talks.{Meaning}
use Rattle.mk_world.specs.Told.{Told}
use Rattle.mk_world.specs.declared.history.Happening.{Happening}
use Rattle.mk_world.specs.declared.history.Happening.TheVariants as world
use Rattle.mk_world.specs.declared.history.History.{History}
use Rattle.mk_world.specs.declared.step.Deed.{Deed}
use Rattle.mk_decision.specs.Decisions.{Work}
use Rattle.mk_trace.specs.Builds.{Build, IsBuild, Makes, Moment, begin, date, close, first_build}
use Rattle.mk_trace.specs.Builds.{build_after, build_after_all}
use Rattle.mk_trace.specs.Calls.{GivesUpLast}
use Rattle.mk_trace.specs.Items.{Item, changes, head, steps, happened_all, Happened}
use Rattle.mk_trace.specs.Runs as run

-- The job of a node is open, from its head to its whole meta file, or to the end that ends it.
abbrev pub IsOpenJob : Build → ℕ → Type 0
IsOpenJob build node =
    (slice_get build.run.nodes node ≡ Some Open)
    ⊎ ((build.duty ≡ begin node) ⊎ ((build.duty ≡ date node) ⊎ (build.duty ≡ close node)))

-- and it is so before each of these items
abbrev pub IsOpenAlong : Work → run.Tasks → Build → ℕ → List Item → Type 0
IsOpenAlong work tasks build node [] = Unit {0}
IsOpenAlong work tasks build node (item ∷ items) =
    IsOpenJob build node × IsOpenAlong work tasks (build_after work tasks build item) node items

abbrev pub deed_of : JobEvent → List Deed
deed_of (begun_event cmd) = []
deed_of (did deed) = deed ∷ []
deed_of ended_event = []

-- what the children of a job did in these items
abbrev pub deeds_in : ℕ → List Item → List Deed
deeds_in stamp items = flat_map deed_of (job_events stamp (happened_all items))

-- Jobs keep apart: no child changes a meta file. While a job is open, nothing but its own children
-- changes its target, or what these change.
pub record IsApart (work : Work) (tasks : run.Tasks) (items : List Item) : Type 0 where
  pub steps_apart : (ticket owner time : ℕ) (deed : Deed) (target : List ℕ)
      → Contains items (steps ticket owner deed time)
      → Contains (changed_paths (deed ∷ [])) (meta_path target) → ⊥
  pub jobs_apart : (before during after : List Item) (node stamp : ℕ) (path bytes : List ℕ)
      → items ≡ before ++ changes node (head path bytes stamp) ∷ (during ++ after)
      → IsOpenAlong work tasks
      (build_after_all work tasks (first_build work)
      (before ++ changes node (head path bytes stamp) ∷ [])) node during
      → Alone stamp ((node_at work.plan node).name ∷ changed_paths (deeds_in stamp during))
      (happened_all during)

-- Where meta files tell what happened before a build, they do so behind it, as far as jobs have
-- kept apart, and whatever it is that was built, and however it ended.
abbrev pub MetaFilesStayTrue : Type 0
MetaFilesStayTrue =
    (meaning : Meaning) (work : Work) (tasks : run.Tasks) (items : List Item) (old new : History)
    → IsLawful meaning old → (state_of old).children ≡ [] → IsTrueHistory meaning.next old
    → Makes work tasks (first_build work) items → Happened meaning items old new
    → GivesUpLast items → IsApart work tasks items → IsTrueHistory meaning.next new

-- a history, and behind it what happened in these items of a build
abbrev pub behind : History → List Item → History
behind old items = record { base = old.base; events = old.events ++ happened_all items }

-- Where no child runs before a build, the history is one that may have come about, and meta files
-- tell what happened, they do so at every moment of the build up to which jobs have kept apart.
abbrev pub StaysTrue : Meaning → Work → run.Tasks → List Item → History → Type 0
StaysTrue meaning work tasks items old =
    IsLawful meaning old → (state_of old).children ≡ [] → IsTrueHistory meaning.next old
    → (so_far later : List Item) → items ≡ so_far ++ later → IsApart work tasks so_far
    → IsTrueHistory meaning.next (behind old so_far)

-- make looked, or asked for what a command prints
abbrev pub IsQuestion : Happening → Type 0
IsQuestion (world.Look path) = Unit {0}
IsQuestion (world.Ask cmd asked) = Unit {0}
IsQuestion (world.Edit path bytes time) = ⊥
IsQuestion (world.Stamp path bytes time) = ⊥
IsQuestion (world.Put path bytes time) = ⊥
IsQuestion (world.Gone path time) = ⊥
IsQuestion (world.Start ticket owner cmd) = ⊥
IsQuestion (world.Step ticket owner deed time) = ⊥
IsQuestion (world.End ticket owner) = ⊥
IsQuestion (world.Left ticket owner) = ⊥

-- a command that make asked changed no file
abbrev pub LeavesFiles : Happening → Type 0
LeavesFiles (world.Ask cmd asked) = timed_effects asked ≡ []
LeavesFiles (world.Look path) = Unit {0}
LeavesFiles (world.Edit path bytes time) = Unit {0}
LeavesFiles (world.Stamp path bytes time) = Unit {0}
LeavesFiles (world.Put path bytes time) = Unit {0}
LeavesFiles (world.Gone path time) = Unit {0}
LeavesFiles (world.Start ticket owner cmd) = Unit {0}
LeavesFiles (world.Step ticket owner deed time) = Unit {0}
LeavesFiles (world.End ticket owner) = Unit {0}
LeavesFiles (world.Left ticket owner) = Unit {0}

-- a history, and behind it these events
abbrev pub longer : History → List Happening → History
longer old more = record { base = old.base; events = old.events ++ more }

-- Questions that change no file leave meta files true.
abbrev pub QuestionsKeepTruth : Type 0
QuestionsKeepTruth =
    (meaning : Meaning) (old : History) (more : List Happening)
    → AllByRecursion IsQuestion more → AllByRecursion LeavesFiles more
    → IsTrueHistory meaning.next old → IsTrueHistory meaning.next (longer old more)

-- A build, whose meta files tell what happened where those before it did.
pub record IsTrueBuild (meaning : Meaning) (work : Work) (cut : Bool) (first last : Moment)
    (Stands : Build → Type 0) : Type 0 where
  pub build : IsBuild meaning work cut first last Stands
  pub meta_files : Told first.history last.history
      (λ old new. StaysTrue meaning work build.tasks build.items old)
