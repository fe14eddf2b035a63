-- The records of a log, one line after the other.
use Rattle.std.proofs.Common.{◌≡◌, ℕ, ◌==◌, List, [], ◌∷◌, ◌++◌, Some, None, refl, sym, ◌∙◌, ap}
use Rattle.std.proofs.Common.{true, false, nat_le, ◌+◌, ◌<◌, Option, is_some, IfSome, IfNone}
use Rattle.std.proofs.Common.{arith, append_assoc}
use Rattle.std.proofs.lemmas.Bool.Decides.{nat_tests}
use Rattle.std.proofs.lemmas.List.{append-nil}
use Rattle.std.specs.List.{slice_split, onto_first}
use Rattle.mk_bytes.specs.Bytes.{newline}
use Rattle.mk_world.specs.declared.step.Op.{Op}
use Rattle.mk_filemon.specs.Escapes.{Part, with_byte, cut_at}
use Rattle.mk_filemon.specs.Log.{Directories, line_of, ops_on, directories_after}
use Rattle.mk_filemon.specs.Log.{lines_logged, size_on, size_of_lines, max_size}
use Rattle.mk_filemon.specs.Parts.{is_newline, after_line, may_end, are_whole}
use Rattle.mk_filemon.specs.declared.part.Part.{Part as Place}
use Rattle.mk_filemon.proofs.EscapeLemmas.{cases}

abbrev pub lines_by : List ℕ → Part → List (List ℕ)
lines_by text None = text ∷ []
lines_by text (Some (line, rest)) = line ∷ slice_split is_newline rest

lines_by-more : (byte : ℕ) (text : List ℕ) (found : Part)
    → onto_first byte (lines_by text found) ≡ lines_by (byte ∷ text) (with_byte byte found)
lines_by-more byte text None = refl
lines_by-more byte text (Some (line, rest)) = refl

-- the first line of a text, and its other lines
pub split-cut : (text : List ℕ) → slice_split is_newline text ≡ lines_by text (cut_at newline text)
unfolding cut_at
split-cut [] = refl
split-cut (byte ∷ text) =
    cases (byte == newline)
    (λ is. rw is refl)
    (λ apart. rw apart (ap (onto_first byte) (split-cut text)
    ∙ lines_by-more byte text (cut_at newline text)))

-- the first line is read, and the rest is left
pub logged-line : (cwd text line rest : List ℕ) (ops more : List Op) (dirs after : Directories)
    → Some (line, rest) ≡ cut_at newline text → more ≡ ops ++ ops_on cwd dirs (line_of line)
    → after ≡ directories_after cwd dirs (line_of line)
    → more ++ lines_logged cwd after (slice_split is_newline rest)
    ≡ ops ++ lines_logged cwd dirs (slice_split is_newline text)
logged-line cwd text line rest ops more dirs after is more_is after_is =
    rw (more_is, after_is, split-cut text, ← is)
    (append_assoc ops (ops_on cwd dirs (line_of line))
    (lines_logged cwd (directories_after cwd dirs (line_of line)) (slice_split is_newline rest)))

-- the last line
pub logged-last : (cwd text : List ℕ) (ops more : List Op) (dirs : Directories)
    → None ≡ cut_at newline text → more ≡ ops ++ ops_on cwd dirs (line_of text)
    → more ≡ ops ++ lines_logged cwd dirs (slice_split is_newline text)
logged-last cwd text ops more dirs is more_is =
    rw (more_is, split-cut text, ← is)
    (ap (λ last. ops ++ last) (sym (append-nil (ops_on cwd dirs (line_of text)))))

sizes-split : (cwd text line rest : List ℕ) (dirs after : Directories)
    → Some (line, rest) ≡ cut_at newline text → after ≡ directories_after cwd dirs (line_of line)
    → size_of_lines cwd dirs (slice_split is_newline text)
    ≡ size_on cwd dirs (line_of line) + size_of_lines cwd after (slice_split is_newline rest)
sizes-split cwd text line rest dirs after is after_is = rw (after_is, split-cut text, ← is) refl

sizes-last : (cwd text : List ℕ) (dirs : Directories) → None ≡ cut_at newline text
    → size_of_lines cwd dirs (slice_split is_newline text) ≡ size_on cwd dirs (line_of text) + 0
sizes-last cwd text dirs is = rw (split-cut text, ← is) refl

-- What the lines take that are left, and what is left of the room, behind the first line.
pub sized-line : (cwd text line rest : List ℕ) (dirs after : Directories) (total room left : ℕ)
    → Some (line, rest) ≡ cut_at newline text → after ≡ directories_after cwd dirs (line_of line)
    → left + size_on cwd dirs (line_of line) ≡ room
    → total + room ≡ max_size + size_of_lines cwd dirs (slice_split is_newline text)
    → total + left ≡ max_size + size_of_lines cwd after (slice_split is_newline rest)
sized-line cwd text line rest dirs after total room left is after_is left_is total_is =
    let sizes = sizes-split cwd text line rest dirs after is after_is in
    grind (arith, sizes, left_is, total_is)

-- A line that takes more than is left takes too much with the others.
pub sized-over : (cwd text line rest : List ℕ) (dirs : Directories) (total room : ℕ)
    → Some (line, rest) ≡ cut_at newline text → room < size_on cwd dirs (line_of line)
    → total + room ≡ max_size + size_of_lines cwd dirs (slice_split is_newline text)
    → false ≡ nat_le total max_size
sized-over cwd text line rest dirs total room is more total_is =
    let sizes = sizes-split cwd text line rest dirs
    (directories_after cwd dirs (line_of line)) is refl in
    grind (arith, nat_tests, sizes, more, total_is)

-- The last line takes no more than is left, or it takes too much with the others.
pub sized-end : (cwd text : List ℕ) (dirs : Directories) (total room : ℕ) (found : Option ℕ)
    → None ≡ cut_at newline text
    → IfSome found (λ left. left + size_on cwd dirs (line_of text) ≡ room)
    → IfNone found (room < size_on cwd dirs (line_of text))
    → total + room ≡ max_size + size_of_lines cwd dirs (slice_split is_newline text)
    → is_some found ≡ nat_le total max_size
sized-end cwd text dirs total room (Some left) is left_is less total_is =
    let sizes = sizes-last cwd text dirs is in
    grind (arith, nat_tests, sizes, left_is, total_is)
sized-end cwd text dirs total room None is left_is more total_is =
    let sizes = sizes-last cwd text dirs is in
    grind (arith, nat_tests, sizes, more, total_is)

-- the last line, where it fits
pub logged-end : (cwd text : List ℕ) (ops more : List Op) (dirs : Directories) (found : Option ℕ)
    → None ≡ cut_at newline text → is_some found ≡ true
    → IfSome found (λ _. more ≡ ops ++ ops_on cwd dirs (line_of text))
    → more ≡ ops ++ lines_logged cwd dirs (slice_split is_newline text)
logged-end cwd text ops more dirs (Some left) is fits more_is =
    logged-last cwd text ops more dirs is more_is
logged-end cwd text ops more dirs None is fits more_is = absurd cc

are_whole-by : (part : Place) (line text : List ℕ) (found : Part)
    → are_whole (after_line part line) (lines_by text found)
    ≡ are_whole part (line ∷ lines_by text found)
are_whole-by part line text None = refl
are_whole-by part line text (Some (next, rest)) = refl

-- a line, and those of the text behind it
pub whole-next : (part : Place) (line text : List ℕ)
    → are_whole part (line ∷ slice_split is_newline text)
    ≡ are_whole (after_line part line) (slice_split is_newline text)
whole-next part line text =
    rw (split-cut text) (sym (are_whole-by part line text (cut_at newline text)))

-- what is counted of the first line, and the rest is left
pub whole-line : (part after : Place) (text line rest : List ℕ)
    → Some (line, rest) ≡ cut_at newline text → after ≡ after_line part line
    → are_whole after (slice_split is_newline rest) ≡ are_whole part (slice_split is_newline text)
whole-line part after text line rest is after_is =
    rw (after_is, split-cut text, ← is) (sym (whole-next part line rest))

-- the last line
pub whole-last : (part : Place) (text : List ℕ) → None ≡ cut_at newline text
    → may_end part text ≡ are_whole part (slice_split is_newline text)
whole-last part text is = rw (split-cut text, ← is) refl
