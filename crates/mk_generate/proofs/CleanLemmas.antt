-- The paths of the generated files are clean, and differ.
use Rattle.std.proofs.Common.{◌≡◌, ℕ, zero, suc, ◌+◌, ◌<◌, ◌≤◌, ◌^◌, Bool, true, false, List, [], ◌∷◌, ◌++◌, map, codes, decimal, refl, arith}
use Rattle.std.proofs.lemmas.Bool.{eqb-true}
use Rattle.std.proofs.lemmas.Fmt.{decimal_injective, decimal_is_IsNumeral}
use Rattle.std.proofs.lemmas.List.{append-nil}
use Rattle.std.proofs.lemmas.Str.Parse.{digit_from_value}
use Rattle.std.proofs.lemmas.Slice.Eq.{bytes_eq-Decides}
use Rattle.std.specs.Char.{digit_value}
use Rattle.std.specs.List.{range_with_len, slice_split}
use Rattle.std.specs.Str.{bytes_eq}
use Rattle.std.specs.Str.Parse.{AllDigits}
use Rattle.mk_bytes.specs.Paths.{clean, is_slash}
use Rattle.mk_memworld.specs.Base.{are_clean, has_path}
use Rattle.mk_generate.specs.Input as spec

-- digits are no slash, so a text of digits is one name on a path
digit-no_slash : (digit : ℕ) → digit_value digit < 10 → is_slash digit ≡ false
digit-no_slash digit is = by (is_slash digit) refl
  where
    by : (b : Bool) → is_slash digit ≡ b → is_slash digit ≡ false
    by true slash = let low = digit_from_value digit is in let at = eqb-true digit 47 slash in absurd (omega arith)
    by false other = other

one-name : (digits : List ℕ) → AllDigits 10 digits → slice_split is_slash digits ≡ digits ∷ []
one-name [] are = refl
one-name (digit ∷ digits) are = rw (digit-no_slash digit are.0, one-name digits are.1) refl

source-clean : (digits : List ℕ) → AllDigits 10 digits
    → clean (codes "/w") (codes "s" ++ digits) ≡ codes "s" ++ digits
source-clean digits are = rw (one-name digits are) (append-nil (codes "s" ++ digits))

same-is : (text : List ℕ) → bytes_eq text text ≡ true
same-is text = (bytes_eq-Decides text text).1 refl

clean-is : (i : ℕ) → i < 2 ^ 64 → bytes_eq (clean (codes "/w") (spec.source i)) (spec.source i) ≡ true
clean-is i small =
    rw (source-clean (decimal i) ((decimal_is_IsNumeral i small).0).1) (same-is (spec.source i))

sources-differ : (i k : ℕ) → i < 2 ^ 64 → k < 2 ^ 64 → (i ≡ k → ⊥)
    → bytes_eq (spec.source i) (spec.source k) ≡ false
sources-differ i k small short differ = by (bytes_eq (spec.source i) (spec.source k)) refl
  where
    by : (b : Bool) → bytes_eq (spec.source i) (spec.source k) ≡ b
        → bytes_eq (spec.source i) (spec.source k) ≡ false
    by true same =
        let texts = (bytes_eq-Decides (spec.source i) (spec.source k)).0 same in
        let digits : decimal i ≡ decimal k = cc in
        absurd (differ (decimal_injective i k small short digits))
    by false other = other

-- a path that differs from those of some sources in a row
absent : (path : List ℕ) (first count : ℕ)
    → ((i : ℕ) → first ≤ i → i < first + count → bytes_eq (spec.source i) path ≡ false)
    → has_path (map spec.source_file (range_with_len first count)) path ≡ false
absent path first zero differ = refl
absent path first (suc count) differ =
    let here = differ first (omega arith) (omega arith) in
    let later = absent path (first + 1) count (λ i low high. differ i (omega arith) (omega arith)) in
    rw (here, later) refl

sources-clean : (first count : ℕ) → first + count ≤ 2 ^ 64
    → are_clean (codes "/w") (map spec.source_file (range_with_len first count)) ≡ true
sources-clean first zero few = refl
sources-clean first (suc count) few =
    let new = absent (spec.source first) (first + 1) count
    (λ i low high. sources-differ i first (omega arith) (omega arith) (λ same. omega arith)) in
    let here = clean-is first (omega arith) in
    let later = sources-clean (first + 1) count (omega arith) in
    rw (new, here, later) refl

pub files-clean : (n : ℕ) → n < 2 ^ 32 → are_clean (codes "/w") (spec.files_of n) ≡ true
files-clean n few =
    let new = absent (codes "makefile") 0 n (λ i low high. refl) in
    let later = sources-clean 0 n (omega arith) in
    rw (new, later) refl
