-- Records of commands that change nothing and look at nothing that is hidden.
use Rattle.std.specs.Prelude.{ℕ, Bool, true, false, not, ◌&&◌, List, [], ◌∷◌, Option, Some, None}
use Rattle.std.specs.List.{list_all}
use Rattle.mk_bytes.specs.Texts.{is_among}
use Rattle.mk_world.specs.declared.step.Op.{Op}
use Rattle.mk_world.specs.declared.step.Op.TheVariants.{Read, Miss, Write, Delete, Move}

-- a record is a look at a path that is not hidden
abbrev pub is_quiet : List (List ℕ) → Op → Bool
is_quiet hidden (Read path) = not (is_among hidden path)
is_quiet hidden (Miss path) = not (is_among hidden path)
is_quiet hidden (Write path) = false
is_quiet hidden (Delete path) = false
is_quiet hidden (Move from to) = false

abbrev pub are_quiet : List (List ℕ) → List Op → Bool
are_quiet hidden ops = list_all (is_quiet hidden) ops

-- There are records, and each is such a look.
abbrev pub have_quiet : List (List ℕ) → Option (List Op) → Bool
have_quiet hidden None = false
have_quiet hidden (Some ops) = are_quiet hidden ops
