-- Why only the last `*` of a pattern need take more bytes.
use Rattle.std.proofs.Common.{◌≡◌, ℕ, Bool, true, false, ◌&&◌, ◌==◌, List, [], ◌∷◌, length}
use Rattle.std.proofs.Common.{refl, ◌∙◌, IsTrue, subst, arith}
use Rattle.std.proofs.lemmas.Bool.Decides.{nat_tests}
use Rattle.mk_glob.specs.Patterns.{Class, Part, many, one, takes, some_end, parts_match, parts_of}
use Rattle.mk_glob.specs.Patterns.{matches}
use Rattle.mk_glob.proofs.PartLemmas.{parts_of-nil}
use Rattle.mk_glob.proofs.TestLemmas.{or_left, or_right, or_cases, and_right, equal_tests}

-- the word itself is one of its ends
pub some_end-whole : (passes : List ℕ → Bool) (word : List ℕ)
    → IsTrue (passes word) → IsTrue (some_end passes word)
some_end-whole passes [] is = is
some_end-whole passes (byte ∷ word) is = or_left (passes (byte ∷ word)) (some_end passes word) is

-- an end of an end is an end
some_end-some_end : (passes : List ℕ → Bool) (word : List ℕ)
    → IsTrue (some_end (some_end passes) word) → IsTrue (some_end passes word)
some_end-some_end passes [] is = is
some_end-some_end passes (byte ∷ word) is =
    or_cases (some_end passes (byte ∷ word)) (some_end (some_end passes) word) is
    (λ here. here)
    (λ later. or_right (passes (byte ∷ word)) (some_end passes word)
    (some_end-some_end passes word later))

-- where parts match some end of a word, those behind the first one do
some_end-behind : (class : Class) (parts : List Part) (word : List ℕ)
    → IsTrue (some_end (parts_match (one class ∷ parts)) word)
    → IsTrue (some_end (parts_match parts) word)
some_end-behind class parts [] is = cc
some_end-behind class parts (byte ∷ word) is =
    let rest = some_end (parts_match parts) word in
    or_cases (takes class byte && parts_match parts word)
    (some_end (parts_match (one class ∷ parts)) word) is
    (λ here. or_right (parts_match parts (byte ∷ word)) rest
    (some_end-whole (parts_match parts) word (and_right (takes class byte) _ here)))
    (λ later. or_right (parts_match parts (byte ∷ word)) rest
    (some_end-behind class parts word later))

-- and they do so behind the first byte
some_end-behind_both : (class : Class) (parts : List Part) (byte : ℕ) (word : List ℕ)
    → IsTrue (some_end (parts_match (one class ∷ parts)) (byte ∷ word))
    → IsTrue (some_end (parts_match parts) word)
some_end-behind_both class parts byte word is =
    or_cases (takes class byte && parts_match parts word)
    (some_end (parts_match (one class ∷ parts)) word) is
    (λ here. some_end-whole (parts_match parts) word (and_right (takes class byte) _ here))
    (λ later. some_end-behind class parts word later)

-- the empty pattern matches the empty word
pub matches-nil : (pattern word : List ℕ) → pattern ≡ [] → matches pattern word ≡ (length word == 0)
matches-nil pattern [] is = rw (is, parts_of-nil) refl
matches-nil pattern (byte ∷ word) is =
    let more : (length (byte ∷ word) == 0) ≡ false = grind (arith, nat_tests) in
    rw (is, parts_of-nil, more) refl

-- A pattern that matched so far matches, at its next `*`, where what is behind it matches some end;
-- and so does some end of the whole.
pub matches-star : (pattern here after word left : List ℕ) → parts_of here ≡ many ∷ parts_of after
    → matches pattern word ≡ matches here left
    → (IsTrue (some_end (matches pattern) word) → IsTrue (some_end (matches here) left))
    → (matches pattern word ≡ some_end (matches after) left)
    × (some_end (matches pattern) word ≡ some_end (matches after) left)
matches-star pattern here after word left is same later =
    let whole : matches pattern word ≡ some_end (matches after) left = rw is at same in
    let ends = λ (passes : IsTrue (some_end (matches pattern) word)).
    subst (λ (parts : List Part). IsTrue (some_end (parts_match parts) left)) is (later passes)
    in (
      whole,
      equal_tests _ _
          (λ passes. some_end-some_end (matches after) left (ends passes))
          (λ passes. some_end-whole (matches pattern) word (whole ∙ passes)),
    )

-- a part that takes the first byte leaves the rest of the word to the rest of the pattern
pub matches-one : (here after word rest : List ℕ) (class : Class) (byte : ℕ)
    → parts_of here ≡ one class ∷ parts_of after → word ≡ byte ∷ rest → takes class byte ≡ true
    → matches here word ≡ matches after rest
matches-one here after word rest class byte is cut taken = rw (is, cut, taken) refl

-- and it does so at an end of the word
pub some_end-matches-one : (here after word rest : List ℕ) (class : Class) (byte : ℕ)
    → parts_of here ≡ one class ∷ parts_of after → word ≡ byte ∷ rest
    → IsTrue (some_end (matches here) word) → IsTrue (some_end (matches after) rest)
some_end-matches-one here after word rest class byte is cut passes =
    let Passes = λ (parts : List Part). IsTrue (some_end (parts_match parts) (byte ∷ rest)) in
    some_end-behind_both class (parts_of after) byte rest (subst Passes is (rw cut at passes))
