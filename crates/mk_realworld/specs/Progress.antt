-- The line on a terminal that tells how far a build has come.
use Rattle.std.specs.Prelude.{ℕ, List, [], ◌∷◌, ◌++◌, ◌||◌, ◌==◌, nat_lt, take, codes, decimal}
use Rattle.std.specs.Prelude.{if◌then◌else◌}
use Rattle.std.specs.List.{flat_map}
use Rattle.mk_bytes.specs.Bytes.{question_mark}

-- A control character is shown as `?`.
abbrev pub shown_byte : ℕ → List ℕ
shown_byte byte = if nat_lt byte 32 || byte == 127 then question_mark ∷ [] else byte ∷ []

-- the target whose line runs longest, where there is one
abbrev pub oldest : List ℕ → List ℕ
oldest [] = []
oldest (first ∷ rest) = codes ", " ++ flat_map shown_byte (first ∷ rest)

-- the whole line, for so many targets that are made, so many of all, and so many children that run
abbrev pub line : ℕ → ℕ → ℕ → List ℕ → List ℕ
line made total running name =
    codes "bmake: " ++ decimal made ++ codes " of " ++ decimal total ++ codes " done, "
    ++ decimal running ++ codes " running" ++ oldest name

-- What is written on a terminal: the line stands at its beginning, with 79 bytes at most, and the
-- rest of what stood there is erased.
abbrev pub written : ℕ → ℕ → ℕ → List ℕ → List ℕ
written made total running name = 13 ∷ take 79 (line made total running name) ++ 27 ∷ codes "[K"
