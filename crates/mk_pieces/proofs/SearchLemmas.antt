-- Places that a search from the beginning finds.
use Rattle.std.proofs.Common.{◌≡◌, ℕ, zero, suc, ◌+◌, ◌<◌, ◌≤◌, Bool, true, false, cond, List, [], ◌∷◌, Option, Some, None, option_map, length, take, drop, refl, sym, ap, subst, ◌∙◌, inl, inr, ⊎_elim, ◌⊎◌, arith}
use Rattle.std.proofs.Common.{slice_index}
use Rattle.std.proofs.lemmas.Bool.{true≢false, cases_order, eq-eqb}
use Rattle.std.proofs.lemmas.Bool.Decides.{nat_tests}
use Rattle.std.proofs.lemmas.Grind.{common_steps}
use Rattle.std.proofs.lemmas.Slice.Eq.{bytes_eq-Decides}
use Rattle.std.specs.List.{starts_with}
use Rattle.std.specs.Prelude.{nat_eq}
use Rattle.std.specs.Str.{bytes_eq}
use Rattle.memchr.specs.Find.{IsFirstByte, FindsNeedle, OccursAt, is_byte}
use Rattle.memchr.proofs.lemmas.MatchLemmas.{OccursAt-part, OccursAt-from_part}
use Rattle.mk_pieces.specs.Substitution.{first_place}

passes_here : (test : Bool) (at : ℕ) → cond test (Some zero) None ≡ Some at
    → (test ≡ true) × (zero ≡ at)
passes_here true at is = (refl, cc)
passes_here false at is = cc

from_occurs : (word text : List ℕ) (at : ℕ) → OccursAt word text at
    → starts_with nat_eq (drop at word) text ≡ true
from_occurs word text at occurs =
    (bytes_eq-Decides text (take (length text) (drop at word))).1
    (sym (OccursAt-part word text at occurs))

to_occurs : (word text : List ℕ) (at : ℕ) → at ≤ length word
    → starts_with nat_eq (drop at word) text ≡ true → OccursAt word text at
to_occurs word text at within stands =
    let same = (bytes_eq-Decides text (take (length text) (drop at word))).0 stands in
    let len : length text ≡ length (take (length text) (drop at word)) = ap length same in
    OccursAt-from_part word text at (grind (arith, common_steps, len)) (sym same)

mapped_none : (found : Option ℕ) → option_map suc found ≡ None → found ≡ None
mapped_none None is = refl
mapped_none (Some at) is = cc

cond_none : {A : Type 0} (test : Bool) (there : A) (later : Option A)
    → cond test (Some there) later ≡ None
    → (test ≡ false) × (later ≡ None)
cond_none true there later is = cc
cond_none false there later is = (refl, is)

nothing_there : (text : List ℕ) → bytes_eq text [] ≡ false → starts_with nat_eq [] text ≡ false
nothing_there [] is = is
nothing_there (byte ∷ bytes) is = refl

something_there : (text : List ℕ) → bytes_eq text [] ≡ true → starts_with nat_eq [] text ≡ true
something_there [] is = is
something_there (byte ∷ bytes) is = is

nowhere_before : (text word : List ℕ) → first_place text word ≡ None → (k : ℕ) → k ≤ length word
    → starts_with nat_eq (drop k word) text ≡ false
nowhere_before text [] is zero within = nothing_there text (cond_none _ _ _ is).0
nowhere_before text [] is (suc k) within = absurd (omega (arith, within))
nowhere_before text (byte ∷ bytes) is zero within = (cond_none _ _ _ is).0
nowhere_before text (byte ∷ bytes) is (suc k) within =
    nowhere_before text bytes (mapped_none _ (cond_none _ _ _ is).1) k (omega (arith, within))

record IsFirstPlace (text word : List ℕ) (at : ℕ) : Type 0 where
  within : at ≤ length word
  stands : starts_with nat_eq (drop at word) text ≡ true
  before : (k : ℕ) → k < at → starts_with nat_eq (drop k word) text ≡ false

cond_some : (test : Bool) (later : Option ℕ) (at : ℕ)
    → cond test (Some zero) (option_map suc later) ≡ Some at
    → ((test ≡ true) × (zero ≡ at))
    ⊎ ((test ≡ false) × (there : ℕ) × (later ≡ Some there) × (suc there ≡ at))
cond_some true later at is = inl (refl, cc)
cond_some false None at is = cc
cond_some false (Some there) at is = inr (refl, there, refl, cc)

before_zero : (text word : List ℕ) (k : ℕ) → k < zero → starts_with nat_eq (drop k word) text ≡ false
before_zero text word k below = absurd (omega (arith, below))

before_suc : (text : List ℕ) (byte : ℕ) (bytes : List ℕ) (at : ℕ)
    → starts_with nat_eq (byte ∷ bytes) text ≡ false
    → ((k : ℕ) → k < at → starts_with nat_eq (drop k bytes) text ≡ false)
    → (k : ℕ) → k < suc at → starts_with nat_eq (drop k (byte ∷ bytes)) text ≡ false
before_suc text byte bytes at here there zero below = here
before_suc text byte bytes at here there (suc k) below = there k (omega (arith, below))

first_is : (text word : List ℕ) (at : ℕ) → first_place text word ≡ Some at → IsFirstPlace text word at
first_is text [] at is =
    let here = passes_here (bytes_eq text []) at is in
    subst (IsFirstPlace text []) here.1 (record {
      within = omega arith;
      stands = something_there text here.0;
      before = before_zero text [];
    })
first_is text (byte ∷ bytes) at is =
    ⊎_elim
    (λ here. subst (IsFirstPlace text (byte ∷ bytes)) here.1 (record {
      within = omega arith;
      stands = here.0;
      before = before_zero text (byte ∷ bytes);
    }))
    (λ later.
    let first = first_is text bytes later.1 later.2 in
    subst (IsFirstPlace text (byte ∷ bytes)) later.3 (record {
      within = omega (arith, first.within);
      stands = first.stands;
      before = before_suc text byte bytes later.1 later.0 first.before;
    }))
    (cond_some (starts_with nat_eq (byte ∷ bytes) text) (first_place text bytes) at is)

first_found : (text word : List ℕ) (found : Option ℕ) → first_place text word ≡ found
    → (answer : Option ℕ) → FindsNeedle word text 0 answer → answer ≡ found
first_found text word None none None nowhere = refl
first_found text word None none (Some k) first =
    let stands = from_occurs word text k first.1 in
    absurd (true≢false (sym stands ∙ nowhere_before text word none k (omega (arith, first.0.high))))
first_found text word (Some at) some None nowhere =
    let found = first_is text word at some in
    absurd (nowhere at (omega arith) (omega (arith, found.within))
    (to_occurs word text at found.within found.stands))
first_found text word (Some at) some (Some k) first =
    let found = first_is text word at some in
    ⊎_elim (λ same. ap Some same)
    (λ apart. ⊎_elim
    (λ before. absurd (true≢false (sym (from_occurs word text k first.1) ∙ found.before k before)))
    (λ behind. absurd (first.0.before at (omega arith) behind
    (to_occurs word text at found.within found.stands)))
    apart)
    (cases_order k at)

-- a search from the beginning finds the first place
pub first_place-is : (text word : List ℕ) (answer : Option ℕ) → FindsNeedle word text 0 answer
    → answer ≡ first_place text word
first_place-is text word answer first =
    first_found text word (first_place text word) refl answer first

-- the text that is found lies in the word
pub first_place-fits : (text word : List ℕ) (at : ℕ) → first_place text word ≡ Some at
    → at + length text ≤ length word
first_place-fits text word at is =
    let found = first_is text word at is in
    (to_occurs word text at found.within found.stands).fits

reads_byte : (byte : ℕ) (word : List ℕ) (at : ℕ) → slice_index word at ≡ byte
    → (j : ℕ) → j < 1 → slice_index word (at + j) ≡ slice_index (byte ∷ []) j
reads_byte byte word at is zero under =
    let same : at + 0 ≡ at = omega arith in rw same is
reads_byte byte word at is (suc j) under = absurd (omega (arith, under))

occurs_byte : (byte : ℕ) (word : List ℕ) (at : ℕ) → at < length word → slice_index word at ≡ byte
    → OccursAt word (byte ∷ []) at
occurs_byte byte word at within is = record {
  fits = omega (arith, within);
  reads = reads_byte byte word at is;
}

byte_occurs : (byte : ℕ) (word : List ℕ) (at : ℕ) → OccursAt word (byte ∷ []) at
    → (at < length word) × (is_byte byte (slice_index word at) ≡ true)
byte_occurs byte word at occurs =
    let same : at + 0 ≡ at = omega arith in
    let reads : slice_index word at ≡ byte = rw same at (occurs.reads 0 (omega arith)) in
    (omega (arith, occurs.fits), eq-eqb _ _ reads)

-- a text of one byte is found where the byte is
pub first_place-byte : (byte : ℕ) (word : List ℕ) (answer : Option ℕ)
    → IsFirstByte (is_byte byte) word answer → answer ≡ first_place (byte ∷ []) word
first_place-byte byte word None none =
    first_place-is (byte ∷ []) word None (λ k low high occurs.
    let here = byte_occurs byte word k occurs in none k low here.0 here.1)
first_place-byte byte word (Some at) found =
    let is : slice_index word at ≡ byte = grind (arith, nat_tests, found.1) in
    first_place-is (byte ∷ []) word (Some at) (
      record {
        low = found.0.low;
        high = omega (arith, found.0.high);
        before = λ k low high occurs.
            let here = byte_occurs byte word k occurs in found.0.before k low high here.1;
      },
      occurs_byte byte word at found.0.high is,
    )

pub first_place-one : (text word : List ℕ) (answer : Option ℕ) → 1 ≤ length text → length text < 2
    → IsFirstByte (is_byte (slice_index text 0)) word answer → answer ≡ first_place text word
first_place-one [] word answer some one found = absurd (omega (arith, some))
first_place-one (byte ∷ []) word answer some one found = first_place-byte byte word answer found
first_place-one (byte ∷ next ∷ rest) word answer some one found = absurd (omega (arith, one))
