-- The letters of options (make(1), "OPTIONS").
use Rattle.std.specs.Prelude.{ℕ, ◌==◌, List, [], ◌∷◌, ◌++◌, Option, Some, None, if◌then◌else◌}
use Rattle.std.specs.Prelude.{codes, slice_index}
use Rattle.mk_cli.specs.declared.letter.Argument.TheVariants as takes
use Rattle.mk_cli.specs.declared.letter.Flag.TheVariants as flag
use Rattle.mk_cli.specs.declared.letter.Letter.{Letter}
use Rattle.mk_cli.specs.declared.letter.Letter.TheVariants.{Alone, Takes}

-- the letters that stand alone
abbrev pub alone : List (List ℕ × Letter)
alone =
    (codes "B", Alone flag.OneJob)
    ∷ (codes "e", Alone flag.EnvFirst)
    ∷ (codes "i", Alone flag.Ignore)
    ∷ (codes "k", Alone flag.KeepGoing)
    ∷ (codes "n", Alone flag.Dry)
    ∷ (codes "q", Alone flag.Query)
    ∷ (codes "r", Alone flag.NoBuiltin)
    ∷ (codes "S", Alone flag.Stop)
    ∷ (codes "s", Alone flag.Silent) ∷ []

-- the letters that take an argument
abbrev pub taking : List (List ℕ × Letter)
taking =
    (codes "D", Takes takes.Define)
    ∷ (codes "f", Takes takes.File)
    ∷ (codes "I", Takes takes.Near)
    ∷ (codes "j", Takes takes.Jobs)
    ∷ (codes "m", Takes takes.System)
    ∷ (codes "V", Takes takes.Print)
    ∷ (codes "v", Takes takes.PrintFull) ∷ []

-- the option in a letter's row
abbrev pub row_in : List (List ℕ × Letter) → ℕ → Option Letter
row_in [] byte = None
row_in (row ∷ rows) byte = if byte == slice_index row.0 0 then Some row.1 else row_in rows byte

-- The option that a letter is, and nothing where it is unknown.
abbrev pub letter_of : ℕ → Option Letter
letter_of byte = row_in (alone ++ taking) byte
