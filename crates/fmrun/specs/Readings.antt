-- How a log is read: as the operations that were recorded.
use Rattle.std.specs.Prelude.{ℕ, Bool, true, ◌≡◌, nat_le, List, map, Some}
use Rattle.std.specs.List.{list_all}
use Rattle.mk_filemon.specs.Log.{directory_from, path_from, logged, size_of, max_size}
use Rattle.mk_world.specs.declared.step.Op.{Op}
use Rattle.mk_world.specs.declared.step.Op.TheVariants.{Read, Miss, Write, Delete, Move}
use Rattle.fmrun.specs.Logs.{has_form, are_apart}

-- whether the lines of an operation can hold its paths
abbrev pub has_lines : Op → Bool
has_lines (Read path) = has_form path
has_lines (Miss path) = has_form path
has_lines (Write path) = has_form path
has_lines (Delete path) = has_form path
has_lines (Move from to) = are_apart from to

-- an operation whose paths are taken from a directory and named from `cwd`
abbrev pub named : List ℕ → List ℕ → Op → Op
named cwd directory (Read path) = Read (path_from cwd directory path)
named cwd directory (Miss path) = Miss (path_from cwd directory path)
named cwd directory (Write path) = Write (path_from cwd directory path)
named cwd directory (Delete path) = Delete (path_from cwd directory path)
named cwd directory (Move from to) =
    Move (path_from cwd directory from) (path_from cwd directory to)

-- From wherever a log is read, it is these operations, done in that directory, unless its lines
-- take too much.
abbrev pub IsReadAs : List ℕ → List Op → List ℕ → Type 0
IsReadAs directory ops log =
    (cwd : List ℕ) → has_form directory ≡ true → list_all has_lines ops ≡ true
    → nat_le (size_of cwd log) max_size ≡ true
    → logged cwd log ≡ Some (map (named cwd (directory_from cwd directory)) ops)
