-- Where no `]` is left, no set begins.
use Rattle.std.proofs.Common.{◌≡◌, ◌≢◌, ◌⊎◌, inl, ℕ, ◌≤◌, Bool, true, false, not, cond, inr}
use Rattle.std.proofs.Common.{◌==◌, nat_lt, List, [], ◌∷◌, Option, Some, None, length, drop}
use Rattle.std.proofs.Common.{position, refl, IsTrue, arith}
use Rattle.std.specs.List.{position_or_len}
use Rattle.std.proofs.lemmas.Bool.Decides.{nat_tests}
use Rattle.mk_bytes.specs.Bytes.{star, question_mark, square_open, backslash, caret}
use Rattle.mk_glob.specs.Patterns.{Class, within, outside, is_close, set_part, escaped, plain_part}
use Rattle.mk_glob.specs.Reading.{no_close, has_no_set}
use Rattle.mk_glob.proofs.PartLemmas.{closed_set}
use Rattle.mk_glob.proofs.TestLemmas.{test_cases, and_right}

-- a list holds no `]` where the place of the first one is its end
past_no_close : (bytes : List ℕ) → length bytes ≤ position_or_len is_close bytes
    → IsTrue (no_close bytes)
past_no_close [] past = refl
past_no_close (byte ∷ bytes) past =
    test_cases (is_close byte)
    (λ is. absurd (let here = rw is at past in omega arith))
    (λ is. let here = rw is at past in rw is (past_no_close bytes (omega arith)))

no_close_past : (bytes : List ℕ) → IsTrue (no_close bytes)
    → length bytes ≤ position_or_len is_close bytes
no_close_past [] none = omega arith
no_close_past (byte ∷ bytes) none =
    test_cases (is_close byte)
    (λ is. absurd (let here = rw is at none in cc))
    (λ is.
    let here = rw is at none in
    let more : length bytes ≤ position_or_len is_close bytes = no_close_past bytes here in
    rw is (omega arith))

no_close_no_position : (bytes : List ℕ) → IsTrue (no_close bytes) → position is_close bytes ≡ None
no_close_no_position bytes none =
    let past : length bytes ≤ position_or_len is_close bytes = no_close_past bytes none in
    let far : nat_lt (position_or_len is_close bytes) (length bytes) ≡ false =
    grind (arith, nat_tests)
    in
    rw far refl

none_not_found : (found : Bool) (at : ℕ) → cond found (Some at) None ≡ None → found ≡ false
none_not_found true at is = cc
none_not_found false at is = refl

no_position_no_close : (bytes : List ℕ) → position is_close bytes ≡ None → IsTrue (no_close bytes)
no_position_no_close bytes none =
    let far : nat_lt (position_or_len is_close bytes) (length bytes) ≡ false =
    none_not_found _ _ none
    in
    past_no_close bytes (grind (arith, nat_tests))

no_close-rest : (bytes : List ℕ) → IsTrue (no_close bytes) → IsTrue (no_close (drop 1 bytes))
no_close-rest [] none = refl
no_close-rest (byte ∷ bytes) none = and_right (not (is_close byte)) (no_close bytes) none

-- where bytes have no set, those behind the first one have none
pub has_no_set-rest : (byte : ℕ) (rest : List ℕ) → IsTrue (has_no_set (byte ∷ rest))
    → IsTrue (has_no_set rest)
has_no_set-rest byte [] no_set = no_set
has_no_set-rest byte (first ∷ []) no_set = refl
has_no_set-rest byte (first ∷ second ∷ rest) no_set = no_close-rest (second ∷ rest) no_set

-- where bytes have no set, a `[` in front begins none
no_set_part : (rest : List ℕ) → IsTrue (has_no_set (square_open ∷ rest)) → set_part rest ≡ None
no_set_part [] no_set = refl
no_set_part (byte ∷ rest) no_set =
    let later : IsTrue (no_close (drop 1 rest)) = no_close-rest rest no_set in
    test_cases (byte == caret)
    (λ is. rw (is, no_close_no_position (drop 1 rest) later) refl)
    (λ is. rw (is, no_close_no_position rest no_set) refl)

-- A `[` begins no set where none was left before.
pub no_set_begins : (bytes rest : List ℕ) (first : ℕ) (unclosed : Bool) → bytes ≡ first ∷ rest
    → (unclosed ≡ true → IsTrue (has_no_set bytes))
    → ((first ≡ square_open) × (unclosed ≡ true)) ⊎ (first ≢ square_open)
    → first ≡ square_open → set_part rest ≡ None
no_set_begins bytes rest first unclosed cut left (inl (opens, is)) _ =
    no_set_part rest (rw cut at (left is))
no_set_begins bytes rest first unclosed cut left (inr other) opens = absurd (other opens)

closed_set-none : (class : List ℕ → Class) (bytes : List ℕ) (at : Option ℕ)
    → closed_set class bytes at ≡ None → at ≡ None
closed_set-none class bytes None none = refl
closed_set-none class bytes (Some at) none = cc

-- where a `[` begins no set, the bytes behind it have none
pub none_has_no_set : (rest : List ℕ) → set_part rest ≡ None → IsTrue (has_no_set rest)
none_has_no_set [] none = refl
none_has_no_set (byte ∷ rest) none =
    test_cases (byte == caret)
    (λ is.
    let here = rw is at none in
    no_position_no_close (drop 1 rest) (closed_set-none outside rest _ here))
    (λ is.
    let here = rw is at none in
    no_close-rest rest (no_position_no_close rest (closed_set-none within (byte ∷ rest) _ here)))

has_no_set-escaped : (rest : List ℕ) → IsTrue (has_no_set rest)
    → IsTrue (has_no_set (escaped rest).1)
has_no_set-escaped [] no_set = no_set
has_no_set-escaped (byte ∷ rest) no_set = has_no_set-rest byte rest no_set

-- where bytes have no set, those behind a part of them have none
pub has_no_set-plain_part : (byte : ℕ) (rest : List ℕ) → IsTrue (has_no_set rest)
    → IsTrue (has_no_set (plain_part byte rest).1)
has_no_set-plain_part byte rest no_set =
    test_cases (byte == star) (λ is. rw is no_set) (λ no_star.
    test_cases (byte == question_mark) (λ is. rw (no_star, is) no_set) (λ no_question.
    test_cases (byte == backslash)
    (λ is. rw (no_star, no_question, is) (has_no_set-escaped rest no_set))
    (λ no_backslash. rw (no_star, no_question, no_backslash) no_set)))
