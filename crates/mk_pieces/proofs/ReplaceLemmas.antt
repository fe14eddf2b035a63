-- Replacements, one place after the other.
use Rattle.std.proofs.Common.{◌≡◌, ℕ, zero, suc, ◌+◌, ◌<◌, ◌≤◌, Bool, true, false, not, ◌&&◌, ◌==◌, if◌then◌else◌, unwrap_or, is_some, List, [], ◌∷◌, ◌++◌, Option, Some, None, length, drop, take, refl, sym, ap, ◌∙◌, inl, inr, ⊎_elim, ◌⊎◌, arith}
use Rattle.std.proofs.lemmas.Grind.{common_steps}
use Rattle.std.proofs.lemmas.List.{drop_all}
use Rattle.mk_pieces.specs.Substitution.{around_replaced, is_percent, middle_of, with_middle, first_place, replaced, replaced_within, word_changed, words_changed, first_changed}
use Rattle.std.specs.List.{starts_with, ends_with}
use Rattle.std.specs.Prelude.{nat_eq, nat_le, position}
use Rattle.std.specs.Str.{bytes_eq}
use Rattle.std.proofs.lemmas.Bool.Decides.{nat_tests}
use Rattle.mk_pieces.proofs.SearchLemmas.{first_place-fits}

first_place-nil : (text : List ℕ) → 0 < length text → first_place text [] ≡ None
first_place-nil [] some = absurd (omega arith)
first_place-nil (byte ∷ bytes) some = refl

pub replaced-none : (times : ℕ) (from to word : List ℕ) → first_place from word ≡ None
    → replaced times from to word ≡ word
unfolding replaced
replaced-none zero from to word none = refl
replaced-none (suc times) from to word none = rw none refl

pub replaced-some : (times : ℕ) (from to word : List ℕ) (at : ℕ) → first_place from word ≡ Some at
    → replaced (suc times) from to word
    ≡ take at word ++ to ++ replaced times from to (drop (at + length from) word)
unfolding replaced
replaced-some times from to word at some = rw some refl

left_behind : (from word : List ℕ) (at times : ℕ) → 0 < length from
    → at + length from ≤ length word → length word ≤ suc times
    → length (drop (at + length from) word) ≤ times
left_behind from word at times some fits long = grind (arith, common_steps)

some_or_none : (found : Option ℕ) → (found ≡ None) ⊎ ((at : ℕ) × (found ≡ Some at))
some_or_none None = inl refl
some_or_none (Some at) = inr (at, refl)

-- more replacements than a word has bytes are no more
pub replaced-enough : (times others : ℕ) (from to word : List ℕ) → 0 < length from
    → length word ≤ times → length word ≤ others
    → replaced times from to word ≡ replaced others from to word
replaced-enough zero others from to [] some long large =
    let none = first_place-nil from some in
    replaced-none zero from to [] none ∙ sym (replaced-none others from to [] none)
replaced-enough (suc times) others from to [] some long large =
    let none = first_place-nil from some in
    replaced-none (suc times) from to [] none ∙ sym (replaced-none others from to [] none)
replaced-enough zero others from to (byte ∷ bytes) some long large = absurd (omega (arith, long))
replaced-enough (suc times) zero from to (byte ∷ bytes) some long large =
    absurd (omega (arith, large))
replaced-enough (suc times) (suc others) from to (byte ∷ bytes) some long large =
    let word = byte ∷ bytes in
    ⊎_elim
    (λ none. replaced-none (suc times) from to word none
    ∙ sym (replaced-none (suc others) from to word none))
    (λ found.
    let at = found.0 in
    let fits = first_place-fits from word at found.1 in
    let rest = drop (at + length from) word in
    replaced-some times from to word at found.1
    ∙ ap (λ more. take at word ++ to ++ more)
    (replaced-enough times others from to rest some (left_behind from word at times some fits long)
    (left_behind from word at others some fits large))
    ∙ sym (replaced-some others from to word at found.1))
    (some_or_none (first_place from word))

-- a word in which a place is found: what is behind it is changed too
pub replaced-more : (from to word : List ℕ) (at : ℕ) → 0 < length from
    → first_place from word ≡ Some at
    → replaced (length word) from to word
    ≡ take at word ++ to
    ++ replaced (length (drop (at + length from) word)) from to (drop (at + length from) word)
replaced-more from to [] at some found =
    let none = first_place-nil from some in absurd (let is = sym none ∙ found in cc)
replaced-more from to (byte ∷ bytes) at some found =
    let word = byte ∷ bytes in
    let fits = first_place-fits from word at found in
    let rest = drop (at + length from) word in
    let left = left_behind from word at (length bytes) some fits (omega arith) in
    replaced-some (length bytes) from to word at found
    ∙ ap (λ more. take at word ++ to ++ more)
    (replaced-enough (length bytes) (length rest) from to rest some left (omega arith))

-- all places
pub replaced_within-all : (from to word : List ℕ) (all : Bool) (at : ℕ) → all ≡ true
    → bytes_eq from [] ≡ false → 0 < length from → first_place from word ≡ Some at
    → replaced_within from to all word
    ≡ Some (take at word ++ to
    ++ replaced (length (drop (at + length from) word)) from to (drop (at + length from) word))
replaced_within-all from to word all at is other some found =
    rw (is, other, found) (ap Some (replaced-more from to word at some found))

-- the first place alone
pub replaced_within-first : (from to word : List ℕ) (all : Bool) (at : ℕ) → all ≡ false
    → bytes_eq from [] ≡ false → first_place from word ≡ Some at
    → replaced_within from to all word
    ≡ Some (take at word ++ to ++ drop (at + length from) word)
unfolding replaced
replaced_within-first from to word all at once some found =
    rw (once, some, found) refl

pub not_empty : (bytes : List ℕ) → (length bytes == 0) ≡ false → bytes_eq bytes [] ≡ false
not_empty [] is = is
not_empty (byte ∷ bytes) is = refl

pub some_bytes : (bytes : List ℕ) → (length bytes == 0) ≡ false → 0 < length bytes
some_bytes [] is = cc
some_bytes (byte ∷ bytes) is = omega arith

-- a word that begins and ends with two texts
pub around_replaced-some : (before after to word : List ℕ)
    → length before + length after ≤ length word → starts_with nat_eq word before ≡ true
    → ends_with nat_eq word after ≡ true
    → around_replaced before after to word
    ≡ Some (with_middle (position is_percent to) to (middle_of before after word))
around_replaced-some before after to word fits starts ends =
    let is : nat_le (length before + length after) (length word) ≡ true =
    grind (arith, nat_tests, fits) in
    rw (is, starts, ends) refl

pub word_changed-none : (ready : Bool) (change : List ℕ → Option (List ℕ)) (word : List ℕ)
    → change word ≡ None → word_changed ready change word ≡ word
word_changed-none true change word none = rw none refl
word_changed-none false change word none = refl

pub word_changed-some : (ready : Bool) (change : List ℕ → Option (List ℕ)) (word new : List ℕ)
    → ready ≡ true → change word ≡ Some new → word_changed ready change word ≡ new
word_changed-some ready change word new is some = rw (is, some) refl

-- what becomes of words while none is changed yet, or all may be
abbrev pub rest_changed : Bool → Bool → (List ℕ → Option (List ℕ)) → List (List ℕ) → List (List ℕ)
rest_changed ready once change words = if ready then words_changed once change words else words

once_more : (found : Bool) (change : List ℕ → Option (List ℕ)) (word : List ℕ)
    (words : List (List ℕ))
    → unwrap_or (change word) word ∷ (if found then words else first_changed change words)
    ≡ unwrap_or (change word) word ∷ rest_changed (not (true && found)) true change words
once_more true change word words = refl
once_more false change word words = refl

pub rest_changed-more : (ready once : Bool) (change : List ℕ → Option (List ℕ)) (word : List ℕ)
    (words : List (List ℕ))
    → rest_changed ready once change (word ∷ words)
    ≡ word_changed ready change word
    ∷ rest_changed (ready && not (once && is_some (change word))) once change words
rest_changed-more false once change word words = refl
rest_changed-more true false change word words = refl
rest_changed-more true true change word words = once_more (is_some (change word)) change word words

pub still_ready : (ready once found : Bool)
    → (ready && not (once && (ready && found))) ≡ (ready && not (once && found))
still_ready true once found = refl
still_ready false once found = refl

nothing_changed : (ready once : Bool) (change : List ℕ → Option (List ℕ))
    → rest_changed ready once change [] ≡ []
nothing_changed true true change = refl
nothing_changed true false change = refl
nothing_changed false once change = refl

-- no words are left
pub rest_changed-none : (ready once : Bool) (change : List ℕ → Option (List ℕ))
    (words : List (List ℕ)) (i : ℕ) → length words ≤ i
    → rest_changed ready once change (drop i words) ≡ []
rest_changed-none ready once change words i past =
    ap (rest_changed ready once change) (drop_all i words past) ∙ nothing_changed ready once change
