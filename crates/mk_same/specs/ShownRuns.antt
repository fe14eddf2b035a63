-- `-n` shows the nodes that `--explain` tells of.
use Rattle.std.specs.Prelude.{◌≡◌, List, [], map, Some, Ok, false}
use Rattle.mk_explain.specs.declared.reason.Reason.{Reason}
use Rattle.mk_flags.specs.declared.Flags.{Flags}
use Rattle.mk_graph.specs.declared.Made.{Made}
use Rattle.mk_modes.specs.Building.{Point}
use Rattle.mk_modes.specs.Explaining.{IsExplainedRun}
use Rattle.mk_modes.specs.Showing.{IsShown}
use Rattle.mk_modes.specs.declared.building.Went.{Went}
use Rattle.mk_trace.specs.declared.result.BuildResult.TheVariants as ended
use Rattle.mk_world.specs.History.{state_of}
use Rattle.mk_world.specs.Talks.{Meaning}
use Rattle.mk_world.specs.declared.history.History.{History}
use Rattle.mk_same.specs.Shown.{NoneAlways, SayTheSame, shown_nodes}

-- the options of one order, once with `-n` and once with `--explain`
pub record AreAlike (shows tells : Flags) : Type 0 where
  pub say : SayTheSame shows tells
  pub requested : tells.requested ≡ shows.requested
  pub no_query : shows.query ≡ false

-- one run of what the makefiles say from one moment to another, where the world tells
pub record IsBetweenThese (first last : Point) (old new : History) : Type 0 where
  pub begins : first.history ≡ Some old
  pub ends : last.history ≡ Some new

-- Of what the same makefiles say on the same files, a run with `-n` and one with `--explain`, both
-- ending well: where no line has a `+` and no child runs before, the first shows the nodes, in
-- order, that the second tells of.
abbrev pub ShownRunsAreExplained : Type 0
ShownRunsAreExplained =
    (meaning : Meaning) (made : Made) (shows tells : Flags) (first last begin end : Point) (went other : Went)
    (old new again later : History) (reasons : List Reason) → AreAlike shows tells
    → IsBetweenThese first last old new → IsBetweenThese begin end again later
    → (state_of again).files ≡ (state_of old).files → (state_of old).children ≡ []
    → (shown : IsShown meaning made shows first last went) → shown.result ≡ ended.Done
    → NoneAlways shown.shown.tasks → (told : IsExplainedRun meaning made tells begin end other)
    → told.outcome ≡ Ok reasons → shown_nodes went.events ≡ map (λ one. one.node) reasons
