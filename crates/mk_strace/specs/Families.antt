-- The lines of some processes, of a trace that others write too.
use Rattle.std.specs.Prelude.{ℕ, Bool, true, not, List, [], ◌∷◌, ◌++◌, Option, Some, None}
use Rattle.std.specs.Prelude.{if◌then◌else◌}
use Rattle.std.specs.List.{slice_split}
use Rattle.std.specs.Str.{bytes_eq}
use Rattle.mk_bytes.specs.Bytes.{newline}
use Rattle.mk_filemon.specs.Parts.{is_newline}
use Rattle.mk_strace.specs.Kept.{Texts}
use Rattle.mk_strace.specs.Lines.{parts_of}

-- whether a process is one of those for which a text is kept
abbrev pub is_of : Texts → Option (List ℕ × List ℕ) → Bool
is_of family None = true
is_of family (Some parts) = not (bytes_eq (family parts.0) [])

-- whether a line is of one of them; one that names no process is
abbrev pub is_theirs : Texts → List ℕ → Bool
is_theirs family one = is_of family (parts_of one)

-- a line with its newline, where it is theirs
abbrev pub their_line : Texts → List ℕ → List ℕ
their_line family one = if is_theirs family one then one ++ newline ∷ [] else []

-- their lines, each with its newline; what follows the last newline is left out
abbrev pub theirs : Texts → List (List ℕ) → List ℕ
theirs family [] = []
theirs family (last ∷ []) = []
theirs family (one ∷ next ∷ lines) =
    their_line family one ++ theirs family (next ∷ lines)

abbrev pub lines_of : Texts → List ℕ → List ℕ
lines_of family trace = theirs family (slice_split is_newline trace)
