-- A text that is one run of plain bytes.
use Rattle.std.proofs.Common.{◌≡◌, ℕ, zero, suc, ◌<◌, ◌≤◌, ◌==◌, ◌||◌, Bool, true, false, List, []}
use Rattle.std.proofs.Common.{◌∷◌, ◌-◌, length, take, drop, Ok, refl, ap, arith, length-drop}
use Rattle.std.proofs.lemmas.Bool.{or_parts, not-true}
use Rattle.mk_bytes.specs.Bytes.{dollar}
use Rattle.mk_ast.specs.Tree.{part, plain, end}
use Rattle.mk_ast.specs.Places.{ends, is_escape, is_over}
use Rattle.mk_ast.specs.Text.{Refs, is_plain, plain_run, plain_part, part_at, text_in}
use Rattle.mk_ast.specs.declared.place.Place.{Place}
use Rattle.mk_ast.proofs.Turns.{text_at-over, text_at-more}

-- a run with a byte begins with a plain one
plain-begins : (place : Place) (byte : ℕ) (bytes run : List ℕ) (next : Place) (rest : List ℕ)
    → plain_run place (byte ∷ bytes) ≡ (byte ∷ run, next, rest) → is_plain place byte bytes ≡ true
plain-begins place byte bytes run next rest is = first (is_plain place byte bytes) refl
  where
    first : (t : Bool) → is_plain place byte bytes ≡ t → is_plain place byte bytes ≡ true
    first true same = same
    first false same = let none : [] ≡ byte ∷ run = rw same at (ap (λ run. run.0) is) in cc

-- Where a run ends at the end of the text, it is all of the text.
pub text_in-plain : (refs : Refs) (place : Place) (len : ℕ) (text : List ℕ) (next : Place)
    → 0 < len → len ≤ length text
    → plain_run place text ≡ (take len text, next, drop len text)
    → is_over next (drop len text) ≡ true
    → text_in refs place text ≡ Ok (part (plain (take len text)) end, drop len text)
text_in-plain refs place zero text next some within is over = absurd (omega arith)
text_in-plain refs place (suc len) [] next some within is over = absurd (omega arith)
text_in-plain refs place (suc len) (byte ∷ bytes) next some within is over =
    let rest = drop len bytes in
    let first = plain-begins place byte bytes (take len bytes) next rest is in
    let neither = not-true (ends place byte || byte == dollar || is_escape place byte bytes) first in
    let apart = or_parts (ends place byte || byte == dollar) (is_escape place byte bytes) neither in
    let parts = or_parts (ends place byte) (byte == dollar) apart.0 in
    let run = rw first at is in
    let one : part_at refs place byte bytes ≡ Ok (plain (byte ∷ take len bytes), next, rest) =
    rw (parts.1, apart.1) (ap (λ r. Ok (plain_part r)) run) in
    let more = text_at-more refs place (suc (length bytes)) (byte ∷ bytes) (omega arith) parts.0 in
    let fits : length rest ≤ suc (length bytes) - 1 = omega (arith, length-drop len bytes) in
    let last = text_at-over refs next (suc (length bytes) - 1) rest fits over in
    rw (more, one, last) refl
