-- Places that rise.
use Rattle.std.proofs.Common.{◌≡◌, ◌∙◌, ℕ, ◌+◌, ◌-◌, ◌^◌, ◌<◌, ◌≤◌, ◌||◌, ◌&&◌, ◌==◌, nat_lt, List, [], ◌∷◌, ◌++◌, length, get_or, take, Bool, true, false}
use Rattle.std.proofs.Common.{refl, sym, ap, arith, eq-eqb}
use Rattle.std.proofs.lemmas.Bool.Decides.{nat_tests}
use Rattle.std.proofs.lemmas.Grind.{common_steps}
use Rattle.std.proofs.lemmas.List.{take_more}
use Rattle.std.proofs.lemmas.List.Folds.{list_any-append}
use Rattle.mk_decision.specs.Ages.{is_one_of}
use Rattle.mk_decision.specs.Rising.{rise, rise_below}

-- the last of them is before the bound, and the others rise below it
pub rise_below-last : (places : List ℕ) (last bound : ℕ)
    → rise_below (places ++ last ∷ []) bound ≡ (nat_lt last bound && rise_below places last)
rise_below-last [] last bound = swap (nat_lt last bound) true
  where
    swap : (a b : Bool) → a ≡ (a && true)
    swap true b = refl
    swap false b = refl
rise_below-last (place ∷ []) last bound = swap (nat_lt place last) (nat_lt last bound)
  where
    swap : (a b : Bool) → (a && b) ≡ (b && a)
    swap true true = refl
    swap true false = refl
    swap false true = refl
    swap false false = refl
rise_below-last (place ∷ next ∷ more) last bound =
    ap (λ t. nat_lt place next && t) (rise_below-last (next ∷ more) last bound)
    ∙ swap (nat_lt place next) (nat_lt last bound) (rise_below (next ∷ more) last)
  where
    swap : (a b c : Bool) → (a && (b && c)) ≡ (b && (a && c))
    swap true true c = refl
    swap true false c = refl
    swap false true c = refl
    swap false false c = refl

-- each of them is before the bound
pub all_below : (places : List ℕ) (bound one : ℕ) → rise_below places bound ≡ true
    → is_one_of places one ≡ true → one < bound
all_below [] bound one up is = cc
all_below (place ∷ []) bound one up is = grind (arith, nat_tests, common_steps)
all_below (place ∷ next ∷ more) bound one up is =
    let rest : rise_below (next ∷ more) bound ≡ true = grind (arith, nat_tests, common_steps) in
    let first : place < next = grind (arith, nat_tests, common_steps) in
    let below = all_below (next ∷ more) bound next rest (grind (arith, nat_tests, common_steps)) in
    by (is_one_of (next ∷ more) one) refl (λ behind. all_below (next ∷ more) bound one rest behind)
    (omega arith)
  where
    by : (b : Bool) → is_one_of (next ∷ more) one ≡ b
        → (is_one_of (next ∷ more) one ≡ true → one < bound) → place < bound → one < bound
    by true behind deeper low = deeper behind
    by false before deeper low =
        let here : (place == one) ≡ true = grind (arith, nat_tests, common_steps) in
        grind (arith, nat_tests, common_steps)

-- they rise below each later bound, too
pub rise_below-later : (places : List ℕ) (bound later : ℕ) → bound ≤ later
    → rise_below places bound ≡ true → rise_below places later ≡ true
rise_below-later [] bound later less up = refl
rise_below-later (place ∷ []) bound later less up = grind (arith, nat_tests, common_steps)
rise_below-later (place ∷ next ∷ more) bound later less up =
    let rest : rise_below (next ∷ more) bound ≡ true = grind (arith, nat_tests, common_steps) in
    let more_up = rise_below-later (next ∷ more) bound later less rest in
    let first : nat_lt place next ≡ true = grind (arith, nat_tests, common_steps) in
    rw (first, more_up) refl

-- the last of some places, and those before it
pub last-apart : (places : List ℕ) → 0 < length places
    → places ≡ take (length places - 1) places ++ get_or places (length places - 1) 0 ∷ []
last-apart places some =
    let next : length places ≡ (length places - 1) + 1 = omega arith in
    let all : take (length places) places ≡ places = grind (arith, common_steps) in
    sym all ∙ (ap (λ k. take k places) next ∙ take_more places (length places - 1) 0 (omega arith))

last_is : (places : List ℕ) → 0 < length places → rise places ≡ true
    → (nat_lt (get_or places (length places - 1) 0) (2 ^ 32)
    && rise_below (take (length places - 1) places) (get_or places (length places - 1) 0)) ≡ true
last_is places some up =
    sym (ap rise (last-apart places some)
    ∙ rise_below-last (take (length places - 1) places) (get_or places (length places - 1) 0) (2 ^ 32)) ∙ up

-- those before the last are before it
pub before_last : (places : List ℕ) (one : ℕ) → 0 < length places → rise places ≡ true
    → is_one_of (take (length places - 1) places) one ≡ true → one < get_or places (length places - 1) 0
before_last places one some up is =
    let both = last_is places some up in
    all_below (take (length places - 1) places) (get_or places (length places - 1) 0) one
    (grind (arith, nat_tests, common_steps)) is

-- and they rise
pub rise-before : (places : List ℕ) → 0 < length places → rise places ≡ true
    → rise (take (length places - 1) places) ≡ true
rise-before places some up =
    let both = last_is places some up in
    let low : get_or places (length places - 1) 0 < 2 ^ 32 = grind (arith, nat_tests, common_steps) in
    rise_below-later (take (length places - 1) places) (get_or places (length places - 1) 0) (2 ^ 32)
    (omega (arith, low)) (grind (arith, nat_tests, common_steps))

-- each is the last or one before it
pub one-apart : (places : List ℕ) (one : ℕ) → 0 < length places
    → is_one_of places one ≡ (is_one_of (take (length places - 1) places) one
    || (get_or places (length places - 1) 0 == one))
one-apart places one some =
    ap (λ l. is_one_of l one) (last-apart places some)
    ∙ (list_any-append (λ k. k == one) (take (length places - 1) places) (get_or places (length places - 1) 0 ∷ [])
    ∙ ap (λ b. is_one_of (take (length places - 1) places) one || b) (none (get_or places (length places - 1) 0 == one)))
  where
    none : (b : Bool) → (b || false) ≡ b
    none true = refl
    none false = refl

-- the last is one of them
pub last-counts : (places : List ℕ) → 0 < length places
    → is_one_of places (get_or places (length places - 1) 0) ≡ true
last-counts places some =
    let last = get_or places (length places - 1) 0 in
    one-apart places last some
    ∙ (ap (λ b. is_one_of (take (length places - 1) places) last || b) (eq-eqb last last refl)
    ∙ always (is_one_of (take (length places - 1) places) last))
  where
    always : (b : Bool) → (b || true) ≡ true
    always true = refl
    always false = refl

-- and no other is behind it
pub none_behind : (places : List ℕ) (one : ℕ) → 0 < length places → rise places ≡ true
    → is_one_of places one ≡ true → one ≤ get_or places (length places - 1) 0
none_behind places one some up is =
    by (is_one_of (take (length places - 1) places) one) refl (before_last places one some up)
    (sym (one-apart places one some) ∙ is)
  where
    by : (b : Bool) → is_one_of (take (length places - 1) places) one ≡ b
        → (is_one_of (take (length places - 1) places) one ≡ true
        → one < get_or places (length places - 1) 0)
        → (is_one_of (take (length places - 1) places) one
        || (get_or places (length places - 1) 0 == one)) ≡ true
        → one ≤ get_or places (length places - 1) 0
    by true before low either = let less = low before in omega arith
    by false other low either = grind (arith, nat_tests, common_steps)
