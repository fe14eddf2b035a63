-- The ends of a text, and the places in it that they begin at.
use Rattle.std.proofs.Common.{◌≡◌, ℕ, ◌+◌, ◌-◌, ◌<◌, ◌≤◌, List, [], ◌∷◌, ◌++◌, length, take, drop, Some, slice_get}
use Rattle.std.proofs.Common.{refl, sym, ap, ◌∙◌, arith, append_assoc, length-append}
use Rattle.std.proofs.lemmas.List.{take-append-drop}
use Rattle.std.proofs.lemmas.Option.{slice_get-get_or}
use Rattle.std.proofs.Math.Seq.{get_or-append_seam}

-- these bytes end the text
abbrev pub IsEnd : List ℕ → List ℕ → Type 0
IsEnd text bytes = (before : List ℕ) × (text ≡ before ++ bytes)

pub IsEnd-whole : (text : List ℕ) → IsEnd text text
IsEnd-whole text = ([], refl)

pub IsEnd-drop : (text bytes : List ℕ) (n : ℕ) → IsEnd text bytes → IsEnd text (drop n bytes)
IsEnd-drop text bytes n is = (
  is.0 ++ take n bytes,
  is.1 ∙ ap (λ s. is.0 ++ s) (sym (take-append-drop n bytes))
      ∙ sym (append_assoc is.0 (take n bytes) (drop n bytes)),
)

pub IsEnd-tail : (text : List ℕ) (byte : ℕ) (bytes : List ℕ) → IsEnd text (byte ∷ bytes)
    → IsEnd text bytes
IsEnd-tail text byte bytes is = IsEnd-drop text (byte ∷ bytes) 1 is

byte-behind : (before : List ℕ) (byte : ℕ) (bytes : List ℕ)
    → slice_get (before ++ byte ∷ bytes) (length before) ≡ Some byte
byte-behind before byte bytes =
    let within : length before < length (before ++ byte ∷ bytes) =
    omega (arith, length-append before (byte ∷ bytes)) in
    slice_get-get_or (before ++ byte ∷ bytes) (length before) 0 within
    ∙ ap Some (get_or-append_seam before byte bytes 0)

-- the byte that an end begins with, and its place
pub IsEnd-at : (text : List ℕ) (byte : ℕ) (bytes : List ℕ) (at : ℕ) → IsEnd text (byte ∷ bytes)
    → at ≡ length text - (length bytes + 1) → slice_get text at ≡ Some byte
IsEnd-at text byte bytes at is place =
    let here : at ≡ length is.0 =
    omega (arith, place, ap length is.1, length-append is.0 (byte ∷ bytes)) in
    rw (here, is.1) (byte-behind is.0 byte bytes)

-- a text is no shorter than its end
pub IsEnd-longer : (text bytes : List ℕ) → IsEnd text bytes → length bytes ≤ length text
IsEnd-longer text bytes is = omega (arith, ap length is.1, length-append is.0 bytes)
