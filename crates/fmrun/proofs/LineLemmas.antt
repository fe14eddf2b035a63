-- The lines of a text, by the bytes at which it is cut.
use Rattle.std.proofs.Common.{◌≡◌, ℕ, Bool, true, false, ◌==◌, List, [], ◌∷◌, Some, None, refl, ◌∙◌, ap}
use Rattle.std.specs.List.{slice_split, onto_first}
use Rattle.mk_bytes.specs.Bytes.{newline}
use Rattle.mk_filemon.specs.Escapes.{Part, with_byte, cut_at}
use Rattle.mk_filemon.proofs.EscapeLemmas.{cases}
use Rattle.fmrun.specs.Words.{is_newline, lines_in, lines_after}

onto_is_some : (byte : ℕ) (parts : List (List ℕ)) (line : List ℕ)
    → lines_in (line ∷ onto_first byte parts) ≡ line ∷ lines_in (onto_first byte parts)
onto_is_some byte [] line = refl
onto_is_some byte (part ∷ parts) line = refl

at_byte : (byte : ℕ) (bytes line : List ℕ) (t : Bool) → is_newline byte ≡ t
    → lines_in (line ∷ slice_split is_newline (byte ∷ bytes))
    ≡ line ∷ lines_in (slice_split is_newline (byte ∷ bytes))
at_byte byte bytes line true is = rw is refl
at_byte byte bytes line false is = rw is (onto_is_some byte (slice_split is_newline bytes) line)

-- what stands before a newline is a line
pub lines_in_more : (line rest : List ℕ)
    → lines_in (line ∷ lines_after (Some rest)) ≡ line ∷ lines_in (lines_after (Some rest))
lines_in_more line [] = refl
lines_in_more line (byte ∷ bytes) = at_byte byte bytes line (is_newline byte) refl

-- the parts of a text that is cut at its first newline
abbrev pub parts_by : List ℕ → Part → List (List ℕ)
parts_by text None = text ∷ []
parts_by text (Some (line, rest)) = line ∷ slice_split is_newline rest

parts_by-more : (byte : ℕ) (text : List ℕ) (found : Part)
    → onto_first byte (parts_by text found) ≡ parts_by (byte ∷ text) (with_byte byte found)
parts_by-more byte text None = refl
parts_by-more byte text (Some (line, rest)) = refl

pub split_cut : (text : List ℕ) → slice_split is_newline text ≡ parts_by text (cut_at newline text)
unfolding cut_at
split_cut [] = refl
split_cut (byte ∷ text) =
    cases (byte == newline)
    (λ is. rw is refl)
    (λ apart. rw apart (ap (onto_first byte) (split_cut text)
    ∙ parts_by-more byte text (cut_at newline text)))
