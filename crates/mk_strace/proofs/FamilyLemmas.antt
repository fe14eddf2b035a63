-- The lines of some processes, one after the other.
use Rattle.std.proofs.Common.{◌≡◌, ℕ, List, [], ◌∷◌, ◌++◌, Some, None, refl, sym, append_assoc}
use Rattle.std.proofs.lemmas.List.{append-nil}
use Rattle.mk_bytes.specs.Bytes.{newline}
use Rattle.mk_filemon.specs.Escapes.{Part, cut_at}
use Rattle.mk_filemon.proofs.LogLemmas.{lines_by, split-cut}
use Rattle.mk_strace.specs.Families.{their_line, theirs, lines_of}
use Rattle.mk_strace.specs.Kept.{Texts}

pub nothing_more : (lines : List ℕ) → lines ≡ lines ++ []
nothing_more lines = sym (append-nil lines)

theirs-next : (family : Texts) (line text : List ℕ) (found : Part)
    → theirs family (line ∷ lines_by text found)
    ≡ their_line family line ++ theirs family (lines_by text found)
theirs-next family line text None = refl
theirs-next family line text (Some (next, rest)) = refl

-- the first line of a trace, and the others
lines_of-line : (family : Texts) (text line rest : List ℕ) → Some (line, rest) ≡ cut_at newline text
    → lines_of family text ≡ their_line family line ++ lines_of family rest
lines_of-line family text line rest is =
    rw (split-cut text, ← is, split-cut rest) (theirs-next family line rest (cut_at newline rest))

-- lines behind those before, with one more where it is theirs
pub line-taken : (family : Texts) (text line rest lines more : List ℕ)
    → Some (line, rest) ≡ cut_at newline text → more ≡ lines ++ their_line family line
    → more ++ lines_of family rest ≡ lines ++ lines_of family text
line-taken family text line rest lines more is more_is =
    rw (lines_of-line family text line rest is, more_is)
    (append_assoc lines (their_line family line) (lines_of family rest))

-- what follows the last newline is left out
pub last-left : (family : Texts) (text lines : List ℕ) → None ≡ cut_at newline text
    → lines ≡ lines ++ lines_of family text
last-left family text lines is = rw (split-cut text, ← is) (sym (append-nil lines))
