-- The pieces of a text between bytes that pass a test.
use Rattle.std.proofs.Common.{◌≡◌, ℕ, ◌+◌, ◌<◌, Bool, true, false, cond, List, [], ◌∷◌, Some, None}
use Rattle.std.proofs.Common.{length, take, drop, nat_lt, position, refl, ap, arith}
use Rattle.std.specs.List.{position_or_len, onto_first, slice_split}
use Rattle.std.proofs.lemmas.List.Splits.{slice_split_first}
use Rattle.std.proofs.lemmas.Bool.Decides.{nat_tests}

-- a test is true or false
pub cond_cases : {P : Type 0} (t : Bool) → (t ≡ true → P) → (t ≡ false → P) → P
cond_cases true here there = here refl
cond_cases false here there = there refl

-- nothing is found where the test says so
pub none_found : {A : Type 0} (found : Bool) (at : A) → cond found (Some at) None ≡ None → found ≡ false
none_found true at is = cc
none_found false at is = refl

module _ (p : ℕ → Bool) where
  found_at : (text : List ℕ) (at : ℕ) (found : Bool)
      → nat_lt (position_or_len p text) (length text) ≡ found
      → cond found (Some (position_or_len p text)) None ≡ Some at
      → slice_split p text ≡ take at text ∷ slice_split p (drop (at + 1) text)
  found_at text at true lt is =
      let e : position_or_len p text ≡ at = cc in
      let within : position_or_len p text < length text = grind (arith, nat_tests) in
      rw (← e) (slice_split_first p text 0 within)
  found_at text at false lt is = cc

  -- what is before and after the first byte that passes
  pub slice_split-found : (text : List ℕ) (at : ℕ) → position p text ≡ Some at
      → slice_split p text ≡ take at text ∷ slice_split p (drop (at + 1) text)
  slice_split-found text at is =
      found_at text at (nat_lt (position_or_len p text) (length text)) refl is

  past_more : (byte : ℕ) (bytes : List ℕ) → p byte ≡ false
      → nat_lt (position_or_len p (byte ∷ bytes)) (length (byte ∷ bytes)) ≡ false
      → nat_lt (position_or_len p bytes) (length bytes) ≡ false
  past_more byte bytes is past = let here = rw is at past in grind (arith, nat_tests)

  past_none : (byte : ℕ) (bytes : List ℕ) → p byte ≡ true
      → nat_lt (position_or_len p (byte ∷ bytes)) (length (byte ∷ bytes)) ≡ false → ⊥
  past_none byte bytes is past = let here = rw is at past in grind (arith, nat_tests)

  none_passes : (text : List ℕ) → nat_lt (position_or_len p text) (length text) ≡ false
      → slice_split p text ≡ text ∷ []
  none_passes [] past = refl
  none_passes (byte ∷ bytes) past =
      cond_cases (p byte)
      (λ is. absurd (past_none byte bytes is past))
      (λ is. rw is
      (ap (λ parts. onto_first byte parts) (none_passes bytes (past_more byte bytes is past))))

  -- a text without such a byte is one piece
  pub slice_split-none : (text : List ℕ) → position p text ≡ None → slice_split p text ≡ text ∷ []
  slice_split-none text is = none_passes text (none_found _ _ is)
