-- What the log of a recorder tells of a child.
use Rattle.std.specs.Prelude.{ℕ, List, Option, Some, None}
use Rattle.mk_world.specs.declared.step.Op.{Op}
use Rattle.mk_filemon.specs.Log.{logged}

-- The records of a child: those of its log, where it left one that is whole, and else none.
abbrev pub records_of : List ℕ → Option (List ℕ) → Option (List Op)
records_of cwd None = None
records_of cwd (Some log) = logged cwd log
