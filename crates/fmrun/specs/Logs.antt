-- What is appended to the log of a recorder (filemon(4)), for process 1.
use Rattle.std.specs.Prelude.{ℕ, Bool, true, false, not, ◌&&◌, ◌==◌, List, [], ◌∷◌, ◌++◌, codes}
use Rattle.std.specs.Prelude.{flat_map}
use Rattle.std.specs.Prelude.{if◌then◌else◌}
use Rattle.std.specs.List.{list_all}
use Rattle.mk_bytes.specs.Bytes.{newline}
use Rattle.mk_filemon.specs.Escapes.{quote}
use Rattle.mk_world.specs.declared.step.Op.{Op}
use Rattle.mk_world.specs.declared.step.Op.TheVariants.{Read, Miss, Write, Delete, Move}

abbrev pub is_not_empty : List ℕ → Bool
is_not_empty [] = false
is_not_empty (byte ∷ bytes) = true

abbrev pub has_no : ℕ → List ℕ → Bool
has_no byte path = list_all (λ one. not (one == byte)) path

-- whether a line can hold a path: a newline would end it, and an empty path says nothing
abbrev pub has_form : List ℕ → Bool
has_form path = is_not_empty path && has_no newline path

-- a read of a file that is never there, which is looked for again each time
abbrev pub never_there : List ℕ
never_there = codes "R 1 /a path with a newline has no record\n"

-- a line of a path, behind what it begins with
abbrev pub line : List ℕ → List ℕ → List ℕ
line head path = if has_form path then head ++ path ++ newline ∷ [] else never_there

-- whether the line of a move tells its paths apart
abbrev pub are_apart : List ℕ → List ℕ → Bool
are_apart from to = has_form from && (has_form to && has_no quote from)

-- A move is both paths in quotes, or else what it does to each of them.
abbrev pub move_lines : List ℕ → List ℕ → List ℕ
move_lines from to =
    if are_apart from to then codes "M 1 '" ++ from ++ codes "' '" ++ to ++ codes "'\n"
    else line (codes "D 1 ") from ++ line (codes "W 1 ") to

abbrev pub lines_of : Op → List ℕ
lines_of (Read path) = line (codes "R 1 ") path
lines_of (Miss path) = line (codes "# N 1 ") path
lines_of (Write path) = line (codes "W 1 ") path
lines_of (Delete path) = line (codes "D 1 ") path
lines_of (Move from to) = move_lines from to

-- The directory first, and then each operation, in order.
abbrev pub log : List ℕ → List Op → List ℕ
log directory ops = line (codes "C 1 ") directory ++ flat_map lines_of ops
