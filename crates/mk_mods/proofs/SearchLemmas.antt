-- Places that a search from the end finds.
use Rattle.std.proofs.Common.{◌≡◌, ℕ, zero, suc, ◌<◌, Bool, true, false, cond, List, [], ◌∷◌, Option, Some, None, length, get_or, refl, sym, ap, subst, ◌∙◌, inl, inr, ⊎_elim, ◌⊎◌, arith}
use Rattle.std.proofs.lemmas.Bool.{true≢false, cases_order}
use Rattle.memchr.specs.Find.{IsLastByte}
use Rattle.mk_mods.specs.Parts.{last_place, found_after}

-- a later byte that passes a test is the last one
found_none : (later here : Option ℕ) → found_after later here ≡ None → (later ≡ None) × (here ≡ None)
found_none None here is = (refl, is)
found_none (Some at) here is = cc

here_none : (test : Bool) → cond test (Some zero) None ≡ None → test ≡ false
here_none true is = cc
here_none false is = refl

none_passes : (test : ℕ → Bool) (bytes : List ℕ) → last_place test bytes ≡ None
    → (k : ℕ) → k < length bytes → test (get_or bytes k 0) ≡ false
none_passes test [] is k within = absurd (omega arith)
none_passes test (byte ∷ bytes) is zero within =
    here_none (test byte) (found_none (last_place test bytes) _ is).1
none_passes test (byte ∷ bytes) is (suc k) within =
    none_passes test bytes (found_none (last_place test bytes) _ is).0 k (omega (arith, within))

-- the byte at a place passes a test, and none behind it does
record IsLastPlace (test : ℕ → Bool) (bytes : List ℕ) (at : ℕ) : Type 0 where
  within : at < length bytes
  passes : test (get_or bytes at 0) ≡ true
  after : (k : ℕ) → at < k → k < length bytes → test (get_or bytes k 0) ≡ false

after_here : (test : ℕ → Bool) (byte : ℕ) (bytes : List ℕ) → last_place test bytes ≡ None
    → (k : ℕ) → zero < k → k < length (byte ∷ bytes) → test (get_or (byte ∷ bytes) k 0) ≡ false
after_here test byte bytes none zero some within = absurd (omega (arith, some))
after_here test byte bytes none (suc k) some within =
    none_passes test bytes none k (omega (arith, within))

after_there : (test : ℕ → Bool) (byte : ℕ) (bytes : List ℕ) (at : ℕ) → IsLastPlace test bytes at
    → (k : ℕ) → suc at < k → k < length (byte ∷ bytes) → test (get_or (byte ∷ bytes) k 0) ≡ false
after_there test byte bytes at last zero later within = absurd (omega (arith, later))
after_there test byte bytes at last (suc k) later within =
    last.after k (omega (arith, later)) (omega (arith, within))

found_some : (later : Option ℕ) (test : Bool) (at : ℕ)
    → found_after later (cond test (Some zero) None) ≡ Some at
    → ((later ≡ None) × (test ≡ true) × (zero ≡ at))
    ⊎ ((there : ℕ) × (later ≡ Some there) × (suc there ≡ at))
found_some None true at is = inl (refl, refl, cc)
found_some None false at is = cc
found_some (Some there) test at is = inr (there, refl, cc)

last_is : (test : ℕ → Bool) (bytes : List ℕ) (at : ℕ) → last_place test bytes ≡ Some at
    → IsLastPlace test bytes at
last_is test [] at is = cc
last_is test (byte ∷ bytes) at is =
    ⊎_elim
    (λ here. subst (IsLastPlace test (byte ∷ bytes)) here.2 (record {
      within = omega arith;
      passes = here.1;
      after = after_here test byte bytes here.0;
    }))
    (λ later.
    let last = last_is test bytes later.0 later.1 in
    subst (IsLastPlace test (byte ∷ bytes)) later.2 (record {
      within = omega (arith, last.within);
      passes = last.passes;
      after = after_there test byte bytes later.0 last;
    }))
    (found_some (last_place test bytes) (test byte) at is)

last_found : (test : ℕ → Bool) (bytes : List ℕ) (found : Option ℕ) → last_place test bytes ≡ found
    → (answer : Option ℕ) → IsLastByte test bytes answer → answer ≡ found
last_found test bytes None none None nowhere = refl
last_found test bytes None none (Some k) last =
    absurd (true≢false (sym last.1 ∙ none_passes test bytes none k last.0.high))
last_found test bytes (Some at) some None nowhere =
    let found = last_is test bytes at some in
    absurd (nowhere at (omega arith) found.within found.passes)
last_found test bytes (Some at) some (Some k) last =
    let found = last_is test bytes at some in
    ⊎_elim (λ same. ap Some same)
    (λ apart. ⊎_elim
    (λ before. absurd (last.0.after at (omega (arith, before)) found.within found.passes))
    (λ behind. absurd (true≢false (sym last.1 ∙ found.after k behind last.0.high)))
    apart)
    (cases_order k at)

-- a search from the end finds the last place
pub last_place-is : (test : ℕ → Bool) (bytes : List ℕ) (answer : Option ℕ)
    → IsLastByte test bytes answer → answer ≡ last_place test bytes
last_place-is test bytes answer last =
    last_found test bytes (last_place test bytes) refl answer last

pub last_place-within : (test : ℕ → Bool) (bytes : List ℕ) (at : ℕ)
    → last_place test bytes ≡ Some at → at < length bytes
last_place-within test bytes at is = (last_is test bytes at is).within
