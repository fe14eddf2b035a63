-- What stands in a line for the names of loops does not make a directive of it, nor hide one.
use Rattle.std.specs.Prelude.{◌≡◌, ℕ, List}
use Rattle.mk_for.specs.Substitution.{replaced}
use Rattle.mk_makefile.specs.Kinds.{line_kind}

-- A line is the same for the blocks of its file where names of loops have been replaced in it.
abbrev pub TurnsKeepKinds : Type 0
TurnsKeepKinds =
    (names words : List (List ℕ)) (text : List ℕ)
    → line_kind (replaced names words text) ≡ line_kind text
