-- Whether the task of a node is by which of its sources are newer.
use Rattle.std.specs.Prelude.{ℕ, not, ◌||◌, Bool, List}
use Rattle.std.specs.List.{list_any}
use Rattle.mk_looks.specs.Looks.{looks_for_newer}
use Rattle.mk_world.specs.declared.command.Task.{Task}
use Rattle.mk_world.specs.declared.command.TaskLine.{TaskLine}

-- a line is not compared with that of a meta file
abbrev pub is_uncompared : TaskLine → Bool
is_uncompared line = not line.compared

-- It looks up a name of the newer sources, or a line of it is not compared.
abbrev pub is_by_newer : List (List ℕ) → Task → Bool
is_by_newer names task = looks_for_newer names || list_any is_uncompared task.lines
