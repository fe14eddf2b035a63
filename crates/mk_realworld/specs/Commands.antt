-- What is started for a command.
use Rattle.std.specs.Prelude.{ℕ, List, [], ◌∷◌, ◌++◌, codes}

-- The words of a child: those of a recorder, where there is one, then the shell with the command.
abbrev pub words_of : List (List ℕ) → List ℕ → List (List ℕ)
words_of recorder text = recorder ++ codes "/bin/sh" ∷ codes "-c" ∷ text ∷ []
