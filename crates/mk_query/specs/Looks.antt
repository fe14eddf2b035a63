-- Looks where no child runs: all are at one map of files.
use Rattle.std.specs.Prelude.{◌≡◌, List, ◌++◌, map}
use Rattle.std.specs.List.{AllByRecursion}
use Rattle.mk_trace.specs.Items.{IsSeenIn, path_of}
use Rattle.mk_world.specs.History.{state_of}
use Rattle.mk_world.specs.Looks.{Seen}
use Rattle.mk_world.specs.declared.history.Happening.{Happening}
use Rattle.mk_world.specs.declared.history.Happening.TheVariants.{Look}
use Rattle.mk_world.specs.declared.history.History.{History}

abbrev pub look_of : Seen → Happening
look_of one = Look (path_of one)

-- Make looked at these files, one after the other, and nothing else happened: each look tells what
-- stood there at the beginning.
pub record Saw (seen : List Seen) (old new : History) : Type 0 where
  pub base : new.base ≡ old.base
  pub events : new.events ≡ old.events ++ map look_of seen
  pub told : AllByRecursion (IsSeenIn (state_of old)) seen
