-- Looks at paths, one after the other.
use Rattle.std.specs.Prelude.{◌≡◌, ℕ, List, ◌++◌, map, Option}
use Rattle.mk_world.specs.Looks.{Dated, dated}
use Rattle.mk_world.specs.Talks.{Meaning}
use Rattle.mk_world.specs.declared.history.History.{History}
use Rattle.mk_world.specs.declared.time.When.{When}
use Rattle.mk_decision.specs.Looks.{LooksAt}
use Rattle.mk_decision.specs.Metas.{PathTimes, paths_in, times_in}
use Rattle.mk_decision.specs.declared.paths.RecordTimes.{RecordTimes}

-- Make looked at all these paths but the rest, in order, and was told these times.
pub record AreDated (meaning : Meaning) (before after : Option History) (all rest : List (List ℕ))
    (whens : List When) : Type 0
  where
    pub dates : List Dated
    pub are : all ≡ paths_in dates ++ rest
    pub times : whens ≡ times_in dates
    pub looked : LooksAt meaning before after (map dated dates)

abbrev pub record_times : PathTimes → RecordTimes
record_times paths = record {
  reads = times_in paths.reads;
  misses = times_in paths.misses;
  left = times_in paths.left;
}
