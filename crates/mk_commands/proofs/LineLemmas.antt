-- The lines of a text, by its parts between newlines.
use Rattle.std.proofs.Common.{◌≡◌, Bool, true, false, List, [], ◌∷◌, ℕ, Some, refl}
use Rattle.std.specs.List.{slice_split, onto_first}
use Rattle.mk_commands.specs.Words.{is_newline, lines_in, lines_after}

onto_is_some : (byte : ℕ) (parts : List (List ℕ)) (line : List ℕ)
    → lines_in (line ∷ onto_first byte parts) ≡ line ∷ lines_in (onto_first byte parts)
onto_is_some byte [] line = refl
onto_is_some byte (part ∷ parts) line = refl

at_byte : (byte : ℕ) (bytes line : List ℕ) (t : Bool) → is_newline byte ≡ t
    → lines_in (line ∷ slice_split is_newline (byte ∷ bytes))
    ≡ line ∷ lines_in (slice_split is_newline (byte ∷ bytes))
at_byte byte bytes line true is = rw is refl
at_byte byte bytes line false is = rw is (onto_is_some byte (slice_split is_newline bytes) line)

-- what stands before a newline is a line
pub lines_in_more : (line rest : List ℕ)
    → lines_in (line ∷ lines_after (Some rest)) ≡ line ∷ lines_in (lines_after (Some rest))
lines_in_more line [] = refl
lines_in_more line (byte ∷ bytes) = at_byte byte bytes line (is_newline byte) refl
