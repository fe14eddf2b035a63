-- Looks to decide a node.
use Rattle.std.specs.Prelude.{◌≡◌, List, Option}
use Rattle.mk_world.specs.Looks.{LooksAll, Seen, answered}
use Rattle.mk_world.specs.Talks.{Meaning}
use Rattle.mk_world.specs.Told.{Told}
use Rattle.mk_world.specs.declared.history.History.{History}

-- Make looked at these paths in order, each at a moment of its own, and was told these times and
-- bytes. Children may have done steps beside the looks, a call may have been refused, and nothing
-- else happened.
pub record LooksAt (meaning : Meaning) (before after : Option History) (seen : List Seen) : Type 0
  where
    pub questions : List (Option Seen)
    pub are : seen ≡ answered questions
    pub told : Told before after (LooksAll meaning questions)
