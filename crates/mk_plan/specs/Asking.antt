-- What questions of `exists` leave in a world: looks at times, and beside them steps of the
-- children that run.
use Rattle.std.specs.Prelude.{◌≡◌, Bool, not, List, ◌++◌, map, Option, Some, None, false, slice_get}
use Rattle.std.specs.Option.{option_map}
use Rattle.mk_values.specs.Facts.{Answers}
use Rattle.mk_values.specs.declared.facts.Asked.{Asked}
use Rattle.mk_world.specs.Looks.{Dated, DatesAll, LooksAll, answered, dated, is_missing}
use Rattle.mk_world.specs.Talks.{Meaning}
use Rattle.mk_world.specs.Told.{Told}
use Rattle.mk_world.specs.declared.history.History.{History}

-- what a look answers to `exists`
abbrev pub as_asked : Dated → Asked
as_asked one = record { path = one.path; answer = not (is_missing one.when) }

abbrev pub told_at : Option Dated → Bool
told_at None = false
told_at (Some one) = not (is_missing one.when)

-- these looks answer, in order
abbrev pub answers_by : List Dated → Answers
answers_by looked place path = told_at (slice_get looked place)

-- Each question was a look at the path's time, and nothing else happened.
pub record Asking (before after : Option History) (old new : List Asked) : Type 0 where
  pub looked : List Dated
  pub added : new ≡ old ++ map as_asked looked
  pub told : Told before after (DatesAll looked)

-- Children may run. Each answered question was a look at the path's time, at a moment of its own.
-- Children may have done steps before and behind it, and nothing else happened.
pub record AskingBeside (meaning : Meaning) (before after : Option History) (old new : List Asked)
    : Type 0
  where
    pub questions : List (Option Dated)
    pub added : new ≡ old ++ map as_asked (answered questions)
    pub told : Told before after (LooksAll meaning (map (option_map dated) questions))
