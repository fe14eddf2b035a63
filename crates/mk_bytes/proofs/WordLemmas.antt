-- The words of a text, one after the other.
use Rattle.std.proofs.Common.{◌≡◌, ℕ, ◌+◌, ◌<◌, ◌≤◌, Bool, true, false, not, cond, List, [], ◌∷◌, Option, Some, None, suc, length, take, drop, position, unwrap_or, slice_range, nat_lt, option_map, refl, sym, ap, subst, ◌∙◌, arith}
use Rattle.std.proofs.lemmas.Grind.{common_steps}
use Rattle.std.proofs.lemmas.Bool.Decides.{nat_tests}
use Rattle.std.proofs.lemmas.List.Sums.{prefix_len-le-length}
use Rattle.std.specs.List.{position_or_len, slice_split}
use Rattle.mk_bytes.specs.Words.{is_white, is_no_white, word_len, word_at, next_word, words_among}
use Rattle.mk_bytes.specs.Words.{words_of, IsNext, FindsNext}
use Rattle.mk_bytes.specs.declared.word.Span.{Span}
use Rattle.mk_bytes.proofs.PieceLemmas.{cond_cases, none_found}

-- white space in front of a text makes no word
words_of-white : (byte : ℕ) (bytes : List ℕ) → is_white byte ≡ true
    → words_of (byte ∷ bytes) ≡ words_of bytes
words_of-white byte bytes white = rw white refl

drop-more : (n byte : ℕ) (bytes : List ℕ) → drop (1 + n) (byte ∷ bytes) ≡ drop n bytes
drop-more n byte bytes = let one : 1 + n ≡ suc n = omega arith in rw one refl

take-more : (n byte : ℕ) (bytes : List ℕ) → take (1 + n) (byte ∷ bytes) ≡ byte ∷ take n bytes
take-more n byte bytes = let one : 1 + n ≡ suc n = omega arith in rw one refl

-- the bytes up to the first white space, and the parts behind them
parts_of : (text : List ℕ) → (rest : List (List ℕ))
    × (slice_split is_white text ≡ take (position_or_len is_white text) text ∷ rest)
    × (words_among rest ≡ words_of (drop (position_or_len is_white text) text))
parts_of [] = ([], refl, refl)
parts_of (byte ∷ bytes) =
    cond_cases (is_white byte)
    (λ white. (
      slice_split is_white bytes,
      rw white refl,
      rw white (sym (words_of-white byte bytes white)),
    ))
    (λ other.
    let parts = parts_of bytes in
    (parts.0, rw (other, parts.1, take-more) refl, rw (other, drop-more) parts.2))

-- the first part is a word where it is not empty
words_of-first : (text : List ℕ) → 0 < position_or_len is_white text
    → words_of text ≡ take (position_or_len is_white text) text
    ∷ words_of (drop (position_or_len is_white text) text)
words_of-first [] some = absurd (omega arith)
words_of-first (byte ∷ bytes) some =
    cond_cases (is_white byte)
    (λ white. absurd (let none = rw white at some in omega (arith, none)))
    (λ other.
    let parts = parts_of bytes in
    let word = byte ∷ take (position_or_len is_white bytes) bytes in
    rw (other, parts.1, take-more, drop-more) (ap (λ rest. word ∷ rest) parts.2))

-- without the white space in front the words are the same
words_of-skip : (text : List ℕ)
    → words_of (drop (position_or_len is_no_white text) text) ≡ words_of text
words_of-skip [] = refl
words_of-skip (byte ∷ bytes) =
    cond_cases (is_white byte)
    (λ white. rw (white, drop-more) (words_of-skip bytes))
    (λ other.
    let none : position_or_len is_no_white (byte ∷ bytes) ≡ 0 = rw other refl in
    ap (λ skipped. words_of (drop skipped (byte ∷ bytes))) none)

-- what is left behind the white space in front begins with no white space
word_is-filled : (text : List ℕ) → position_or_len is_no_white text < length text
    → 0 < position_or_len is_white (drop (position_or_len is_no_white text) text)
word_is-filled [] some = absurd (omega arith)
word_is-filled (byte ∷ bytes) some =
    cond_cases (is_white byte)
    (λ white.
    let more = rw white at some in
    rw (white, drop-more) (word_is-filled bytes (omega (arith, more))))
    (λ other. rw (other, other) (omega arith))

len_by : (found : Bool) (at len : ℕ) → nat_lt at len ≡ found → at ≤ len
    → unwrap_or (cond found (Some at) None) len ≡ at
len_by true at len is short = refl
len_by false at len is short = grind (arith, nat_tests)

word_len-is : (text : List ℕ) → word_len text ≡ position_or_len is_white text
word_len-is text =
    len_by (nat_lt (position_or_len is_white text) (length text)) (position_or_len is_white text)
    (length text) refl (prefix_len-le-length (λ byte. not (is_white byte)) text)

mapped_none : {A B : Type 0} (f : A → B) (found : Option A) → option_map f found ≡ None → found ≡ None
mapped_none f None is = refl
mapped_none f (Some at) is = cc

-- without a next word there is none
pub words_of-none : (text : List ℕ) (from : ℕ) → next_word text from ≡ None
    → words_of (drop from text) ≡ []
words_of-none text from none =
    let rest = drop from text in
    let skipped = position_or_len is_no_white rest in
    let past = none_found _ _ (mapped_none _ (position is_no_white rest) none) in
    let short = prefix_len-le-length (λ byte. not (is_no_white byte)) rest in
    let all : drop skipped rest ≡ [] = grind (arith, nat_tests, common_steps) in
    sym (words_of-skip rest) ∙ ap words_of all

next_at : (text : List ℕ) (from : ℕ) → from ≤ length text
    → position_or_len is_no_white (drop from text) < length (drop from text)
    → IsNext text from (word_at text (from + position_or_len is_no_white (drop from text)))
next_at text from inside some =
    let rest = drop from text in
    let skipped = position_or_len is_no_white rest in
    let start = from + skipped in
    let left : drop skipped rest ≡ drop start text = grind (arith, common_steps) in
    let first = position_or_len is_white (drop start text) in
    let filled : 0 < first =
    subst (λ bytes. 0 < position_or_len is_white bytes) left (word_is-filled rest some)
    in
    let len = word_len-is (drop start text) in
    let short = prefix_len-le-length (λ byte. not (is_white byte)) (drop start text) in
    let words : words_of rest ≡ take first (drop start text) ∷ words_of (drop first (drop start text)) =
    sym (words_of-skip rest) ∙ ap words_of left ∙ words_of-first (drop start text) filled
    in
    let here : slice_range text start (start + first) ≡ take first (drop start text) =
    grind (arith, common_steps)
    in
    let behind : drop first (drop start text) ≡ drop (start + first) text =
    grind (arith, common_steps)
    in
    record {
      start = omega arith;
      some = rw len (omega (arith, filled));
      end = rw len (grind (arith, common_steps));
      words = rw (len, here, ← behind) words;
    }

found_at : {A : Type 0} (found : Bool) (at : ℕ) (f : ℕ → A) (answer : A)
    → option_map f (cond found (Some at) None) ≡ Some answer → (found ≡ true) × (f at ≡ answer)
found_at true at f answer is = (refl, cc)
found_at false at f answer is = cc

pub next_word-is : (text : List ℕ) (from : ℕ) (word : Span) → from ≤ length text
    → next_word text from ≡ Some word → IsNext text from word
next_word-is text from word inside is =
    let found = found_at _ _ (λ skipped. word_at text (from + skipped)) word is in
    let some : position_or_len is_no_white (drop from text) < length (drop from text) =
    grind (arith, nat_tests)
    in
    subst (IsNext text from) found.1 (next_at text from inside some)

-- what `next_word` finds is the next word
pub next_word-finds : (text : List ℕ) (from : ℕ) (found : Option Span) → from ≤ length text
    → next_word text from ≡ found → FindsNext text from found
next_word-finds text from None inside is = words_of-none text from is
next_word-finds text from (Some word) inside is = next_word-is text from word inside is
