-- The parts of a pattern, read from the front.
use Rattle.std.proofs.Common.{◌≡◌, ℕ, zero, suc, ◌+◌, ◌-◌, ◌≤◌, ◌==◌, List, []}
use Rattle.std.proofs.Common.{◌∷◌, Option, Some, None, length, take, drop, get_or, position, refl}
use Rattle.std.proofs.Common.{ap, arith, length-drop}
use Rattle.std.specs.Option.{option_map, unwrap_or}
use Rattle.std.proofs.lemmas.Bool.Decides.{nat_tests}
use Rattle.std.proofs.lemmas.Grind.{common_steps}
use Rattle.mk_bytes.specs.Bytes.{star, question_mark, square_open, backslash, caret}
use Rattle.mk_glob.specs.Patterns.{Class, within, outside, Part, one, is_close, set_part, escaped}
use Rattle.mk_glob.specs.Patterns.{plain_part, first_part, first_parts, parts_of}
use Rattle.mk_glob.proofs.TestLemmas.{test_cases}

-- the set whose `]` stands at a place, and what follows it
abbrev pub closed_set : (List ℕ → Class) → List ℕ → Option ℕ → Option (Part × List ℕ)
closed_set class bytes at =
    let cut = option_map (λ at. (take (at + 1) bytes, drop (at + 2) bytes)) at in
    option_map {T = List ℕ × List ℕ} (λ cut. (one (class cut.0), cut.1)) cut

-- what follows a set, or what stands in its place, is no longer than before
closed_set-shorter : (class : List ℕ → Class) (plain : Part × List ℕ) (bytes rest : List ℕ)
    (at : Option ℕ) → length bytes ≤ length rest → length plain.1 ≤ length rest
    → length (unwrap_or (closed_set class bytes at) plain).1 ≤ length rest
closed_set-shorter class plain bytes rest None shorter so = so
closed_set-shorter class plain bytes rest (Some at) shorter so =
    omega (arith, length-drop (at + 2) bytes)

set_part-shorter : (plain : Part × List ℕ) (rest : List ℕ) → length plain.1 ≤ length rest
    → length (unwrap_or (set_part rest) plain).1 ≤ length rest
set_part-shorter plain [] so = so
set_part-shorter plain (byte ∷ rest) so =
    let all = byte ∷ rest in
    test_cases (byte == caret)
    (λ is. rw is (closed_set-shorter outside plain rest all (position is_close (drop 1 rest))
    (omega arith) so))
    (λ is. rw is (closed_set-shorter within plain all all (position is_close rest)
    (omega arith) so))

escaped-shorter : (rest : List ℕ) → length (escaped rest).1 ≤ length rest
escaped-shorter [] = omega arith
escaped-shorter (byte ∷ rest) = omega arith

plain_part-shorter : (byte : ℕ) (rest : List ℕ) → length (plain_part byte rest).1 ≤ length rest
plain_part-shorter byte rest =
    test_cases (byte == star) (λ is. rw is (omega arith)) (λ no_star.
    test_cases (byte == question_mark) (λ is. rw (no_star, is) (omega arith)) (λ no_question.
    test_cases (byte == backslash)
    (λ is. rw (no_star, no_question, is) (escaped-shorter rest))
    (λ no_backslash. rw (no_star, no_question, no_backslash) (omega arith))))

-- what follows the first part is no longer than what follows the first byte
first_part-shorter : (byte : ℕ) (rest : List ℕ) → length (first_part byte rest).1 ≤ length rest
first_part-shorter byte rest =
    test_cases (byte == square_open)
    (λ is. rw is (set_part-shorter (plain_part byte rest) rest (plain_part-shorter byte rest)))
    (λ is. rw is (plain_part-shorter byte rest))

-- the parts of a pattern are at most as many as its bytes
first_parts-enough : (count more : ℕ) (pattern : List ℕ)
    → length pattern ≤ count → length pattern ≤ more
    → first_parts count pattern ≡ first_parts more pattern
first_parts-enough zero zero pattern enough so = refl
first_parts-enough zero (suc more) [] enough so = refl
first_parts-enough zero (suc more) (byte ∷ rest) enough so = absurd (omega arith)
first_parts-enough (suc count) zero [] enough so = refl
first_parts-enough (suc count) zero (byte ∷ rest) enough so = absurd (omega arith)
first_parts-enough (suc count) (suc more) [] enough so = refl
first_parts-enough (suc count) (suc more) (byte ∷ rest) enough so =
    let after = (first_part byte rest).1 in
    let shorter : length after ≤ length rest = first_part-shorter byte rest in
    ap (λ parts. (first_part byte rest).0 ∷ parts)
    (first_parts-enough count more after (omega arith) (omega arith))

pub parts_of-nil : parts_of [] ≡ []
unfolding parts_of
parts_of-nil = refl

parts_of-cons : (byte : ℕ) (rest : List ℕ)
    → parts_of (byte ∷ rest) ≡ (first_part byte rest).0 ∷ parts_of (first_part byte rest).1
unfolding parts_of
parts_of-cons byte rest =
    let after = (first_part byte rest).1 in
    let shorter : length after ≤ length rest = first_part-shorter byte rest in
    ap (λ parts. (first_part byte rest).0 ∷ parts)
    (first_parts-enough (length rest) (length after) after shorter (omega arith))

-- a set is the first part
pub parts_of-set : (bytes rest after : List ℕ) (first : ℕ) (set : Part)
    → bytes ≡ first ∷ rest → first ≡ square_open → set_part rest ≡ Some (set, after)
    → parts_of bytes ≡ set ∷ parts_of after
parts_of-set bytes rest after first set cut opens is = rw (cut, parts_of-cons, opens, is) refl

first_part-plain : (byte : ℕ) (rest : List ℕ) → (byte ≡ square_open → set_part rest ≡ None)
    → first_part byte rest ≡ plain_part byte rest
first_part-plain byte rest no_set =
    test_cases (byte == square_open)
    (λ is.
    let none : set_part rest ≡ None = no_set (grind (arith, nat_tests)) in
    rw (is, none) refl)
    (λ is. rw is refl)

-- what begins no set is the first part
pub parts_of-plain : (bytes rest : List ℕ) (first : ℕ) → bytes ≡ first ∷ rest
    → (first ≡ square_open → set_part rest ≡ None)
    → parts_of bytes ≡ (plain_part first rest).0 ∷ parts_of (plain_part first rest).1
parts_of-plain bytes rest first cut no_set =
    rw (cut, parts_of-cons, first_part-plain first rest no_set) refl

-- a list that is not empty is its first item and the rest
pub first_and_rest : (bytes : List ℕ) → 1 ≤ length bytes
    → bytes ≡ get_or bytes 0 0 ∷ take (length bytes - 1) (drop 1 bytes)
first_and_rest [] some = absurd (omega arith)
first_and_rest (byte ∷ bytes) some = grind (arith, common_steps)
