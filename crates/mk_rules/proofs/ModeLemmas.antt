-- Words in any case of their letters.
use Rattle.std.proofs.Common.{◌≡◌, ◌≢◌, ℕ, suc, Bool, true, false, List, [], ◌∷◌, length, refl, ap}
use Rattle.mk_rules.specs.Modes.{is_in_any_case, is_letter}
use Rattle.std.specs.Prelude.{◌&&◌}

and-false : (t more : Bool) → more ≡ false → (t && more) ≡ false
and-false true more is = is
and-false false more is = refl

-- a word of another length is none
pub any_case_lengths : (word value : List ℕ) → length word ≢ length value
    → is_in_any_case word value ≡ false
any_case_lengths [] [] other = absurd (other refl)
any_case_lengths [] (byte ∷ more) other = refl
any_case_lengths (lower ∷ word) [] other = refl
any_case_lengths (lower ∷ word) (byte ∷ more) other =
    and-false (is_letter lower byte) (is_in_any_case word more)
    (any_case_lengths word more (λ same. other (ap suc same)))
