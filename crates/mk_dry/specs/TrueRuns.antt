-- That meta files tell what happened behind a dry run, too.
use Rattle.std.specs.Prelude.{◌≡◌, ℕ, List, [], ◌∷◌, ◌++◌}
use Rattle.std.specs.List.{AllByRecursion, Contains}
use Rattle.mk_decision.specs.Decisions.{Work}
use Rattle.mk_meta.specs.TrueHistory.{IsTrueHistory, changed_paths, meta_path}
use Rattle.mk_trace.specs.Items.{Happened, happened_all}
use Rattle.mk_trace.specs.Runs.{Tasks}
use Rattle.mk_trace.specs.TrueBuilds.{longer}
use Rattle.mk_world.specs.History.{state_of}
use Rattle.mk_world.specs.Lawful.{IsLawful}
use Rattle.mk_world.specs.Talks.{Meaning}
use Rattle.mk_world.specs.declared.history.Happening.{Happening}
use Rattle.mk_world.specs.declared.history.Happening.TheVariants.{Edit, Look, Stamp, Put, Gone, Ask}
use Rattle.mk_world.specs.declared.history.Happening.TheVariants.{Start, Step, End, Left}
use Rattle.mk_world.specs.declared.history.History.{History}
use Rattle.mk_dry.specs.Items.{DryItem, in_build_all}
use Rattle.mk_dry.specs.Runs.{Makes, first_dry, rules_of}

-- a child changed no meta file
abbrev pub LeavesMetaFiles : Happening → Type 0
LeavesMetaFiles (Step ticket owner deed time) =
    (target : List ℕ) → Contains (changed_paths (deed ∷ [])) (meta_path target) → ⊥
LeavesMetaFiles (Edit path bytes time) = Unit {0}
LeavesMetaFiles (Look path) = Unit {0}
LeavesMetaFiles (Stamp path bytes time) = Unit {0}
LeavesMetaFiles (Put path bytes time) = Unit {0}
LeavesMetaFiles (Gone path time) = Unit {0}
LeavesMetaFiles (Ask cmd steps) = Unit {0}
LeavesMetaFiles (Start ticket owner cmd) = Unit {0}
LeavesMetaFiles (End ticket owner) = Unit {0}
LeavesMetaFiles (Left ticket owner) = Unit {0}

-- Where meta files tell what happened before these items, they do so at every moment of them up to
-- which no child has changed a meta file.
abbrev pub StaysTrue : Meaning → List DryItem → History → Type 0
StaysTrue meaning items old =
    IsLawful meaning old → (state_of old).children ≡ [] → IsTrueHistory meaning.next old
    → (so_far later : List Happening) → happened_all (in_build_all items) ≡ so_far ++ later
    → AllByRecursion LeavesMetaFiles so_far → IsTrueHistory meaning.next (longer old so_far)

-- So it is in every dry run: its children are those of no job, and make changes nothing.
abbrev pub DryRunsStayTrue : Type 0
DryRunsStayTrue =
    (meaning : Meaning) (work : Work) (tasks : Tasks) (items : List DryItem) (old new : History)
    → Makes (rules_of work) tasks (first_dry work) items
    → Happened meaning (in_build_all items) old new
    → StaysTrue meaning items old
