-- The numbers of the places in each end of a text.
use Rattle.std.proofs.Common.{◌≡◌, ℕ, zero, suc, ◌+◌, ◌-◌, ◌<◌, ◌≤◌, ◌==◌, Bool, true, false, List, [], ◌∷◌, ◌++◌}
use Rattle.std.proofs.Common.{Option, Some, None, length, length-append, length-drop, get_or, take, drop, refl, sym, ap, ◌∙◌, arith}
use Rattle.std.proofs.Math.Seq.{drop-append-add}
use Rattle.std.proofs.lemmas.Grind.{common_steps}
use Rattle.std.proofs.lemmas.List.{take-append-drop}
use Rattle.std.specs.Option.{IfSome, option_map}
use Rattle.mk_bytes.specs.Bytes.{curly_open, curly_close}
use Rattle.mk_depline.specs.Braces.{comma, depth_behind, moved, next_in, number_of, numbers_of, place_from, place_numbered}
use Rattle.mk_depline.specs.Braces.{place_of, stops}
use Rattle.mk_depline.proofs.LeftLemmas.{Cut, cut_of, never, place-closed, place-unclosed, shift}

pub numbered : (found : Option ℕ) → place_numbered (number_of found) ≡ found
numbered None = refl
numbered (Some at) = refl

pub length-numbers : (wanted : ℕ) (text : List ℕ) → length (numbers_of wanted text) ≡ suc (length text)
unfolding numbers_of
length-numbers wanted [] = refl
length-numbers wanted (byte ∷ rest) =
    rw (length-append (numbers_of wanted rest) (number_of (place_of wanted (byte ∷ rest)) ∷ []))
    (omega (arith, length-numbers wanted rest))

get-before : (first : List ℕ) (last k : ℕ) → k < length first
    → get_or (first ++ last ∷ []) k 0 ≡ get_or first k 0
get-before first last k within = grind (arith, common_steps)

get-last : (first : List ℕ) (last k : ℕ) → k ≡ length first → get_or (first ++ last ∷ []) k 0 ≡ last
get-last first last k is = grind (arith, common_steps)

here : (wanted : ℕ) (rest : List ℕ) → get_or (numbers_of wanted rest) (length rest) 0 ≡ number_of (place_of wanted rest)
unfolding numbers_of place_from
here wanted [] = refl
here wanted (byte ∷ rest) =
    let long : suc (length rest) ≡ length (numbers_of wanted rest) = sym (length-numbers wanted rest) in
    get-last (numbers_of wanted rest) (number_of (place_of wanted (byte ∷ rest))) (suc (length rest)) long

-- the number of the place in an end of a text
pub number-behind : (wanted : ℕ) (front rest : List ℕ)
    → get_or (numbers_of wanted (front ++ rest)) (length rest) 0 ≡ number_of (place_of wanted rest)
unfolding numbers_of
number-behind wanted [] rest = here wanted rest
number-behind wanted (byte ∷ front) rest =
    let within : length rest < length (numbers_of wanted (front ++ rest)) =
    omega (arith, length-numbers wanted (front ++ rest), length-append front rest) in
    get-before (numbers_of wanted (front ++ rest)) (number_of (place_of wanted (byte ∷ (front ++ rest)))) (length rest) within
    ∙ number-behind wanted front rest

-- a place lies in the text
within_suc : (found : Option ℕ) (at : ℕ) (text : List ℕ) → option_map suc found ≡ Some at
    → ((k : ℕ) → found ≡ Some k → k < length text) → at < suc (length text)
within_suc None at text is next = cc
within_suc (Some k) zero text is next = omega arith
within_suc (Some k) (suc at) text is next = let same : k ≡ at = cc in omega (arith, next k refl)

within-byte : (wanted depth byte at : ℕ) (rest : List ℕ) (stop : Bool) → stops wanted depth byte ≡ stop
    → place_from wanted depth (byte ∷ rest) ≡ Some at
    → ((k : ℕ) → place_from wanted (depth_behind depth byte) rest ≡ Some k → k < length rest)
    → at < suc (length rest)
unfolding place_from
within-byte wanted depth byte zero rest true is some next = omega arith
within-byte wanted depth byte (suc at) rest true is some next = let no = rw is at some in cc
within-byte wanted depth byte at rest false is some next =
    within_suc (place_from wanted (depth_behind depth byte) rest) at rest (rw is at some) next

pub place-within : (wanted depth at : ℕ) (text : List ℕ) → place_from wanted depth text ≡ Some at
    → at < length text
unfolding place_from
place-within wanted depth at [] some = cc
place-within wanted depth at (byte ∷ rest) some =
    within-byte wanted depth byte at rest (stops wanted depth byte) refl some
    (λ k is. place-within wanted (depth_behind depth byte) k rest is)

pub number-drop : (wanted : ℕ) (text : List ℕ) (count : ℕ)
    → count ≤ length text
    → get_or (numbers_of wanted text) (length text - count) 0 ≡ number_of (place_of wanted (drop count text))
number-drop wanted text count within =
    let e = number-behind wanted (take count text) (drop count text) in
    rw (take-append-drop count text, length-drop count text) at e

pub number-whole : (wanted : ℕ) (text : List ℕ)
    → get_or (numbers_of wanted text) (length text) 0 ≡ number_of (place_of wanted text)
number-whole wanted text = here wanted text

-- The number of one byte more

pub number-wanted : (wanted byte : ℕ) (rest : List ℕ) → (byte == wanted) ≡ true
    → number_of (place_of wanted (byte ∷ rest)) ≡ 1
unfolding place_from
number-wanted wanted byte rest is = rw is refl

moved-one : (found : Option ℕ) → number_of (option_map suc found) ≡ moved (number_of found) 1
moved-one None = refl
moved-one (Some at) = omega arith

number-other-at : (wanted byte : ℕ) (rest : List ℕ) (closes : Bool) → (byte == wanted) ≡ false
    → (byte == curly_open) ≡ false → (byte == curly_close) ≡ closes
    → number_of (place_of wanted (byte ∷ rest)) ≡ moved (number_of (place_of wanted rest)) 1
unfolding place_from
number-other-at wanted byte rest true is opens closing =
    rw (is, opens, closing) (moved-one (place_of wanted rest))
number-other-at wanted byte rest false is opens closing =
    rw (is, opens, closing) (moved-one (place_of wanted rest))

pub number-other : (wanted byte : ℕ) (rest : List ℕ) → (byte == wanted) ≡ false
    → (byte == curly_open) ≡ false
    → number_of (place_of wanted (byte ∷ rest)) ≡ moved (number_of (place_of wanted rest)) 1
number-other wanted byte rest is opens =
    number-other-at wanted byte rest (byte == curly_close) is opens refl

pub number-unclosed : (wanted : ℕ) (rest : List ℕ) → (curly_open == wanted) ≡ false
    → place_of curly_close rest ≡ None → number_of (place_of wanted (curly_open ∷ rest)) ≡ 0
unfolding place_from
number-unclosed wanted rest is none = rw (is, place-unclosed wanted 0 rest none) refl

close-next : (wanted : ℕ) (behind : List ℕ)
    → place_from wanted 1 (curly_close ∷ behind) ≡ option_map suc (place_of wanted behind)
unfolding place_from
close-next wanted behind = rw (never wanted 0 curly_close) refl

moved-group : (at : ℕ) (found : Option ℕ)
    → number_of (option_map suc (shift at (option_map suc found))) ≡ moved (number_of found) (suc at + 1)
moved-group at None = refl
moved-group at (Some k) = omega arith

number-cut : (wanted : ℕ) (rest : List ℕ) (at : ℕ) → (curly_open == wanted) ≡ false → Cut 0 rest at
    → number_of (place_of wanted (curly_open ∷ rest))
    ≡ moved (number_of (place_of wanted (drop (suc at) rest))) (suc at + 1)
unfolding place_from
number-cut wanted rest at is cut =
    let one : suc (length cut.inside) ≡ length cut.inside + 1 = omega arith in
    let behind : drop (suc (length cut.inside)) (cut.inside ++ curly_close ∷ cut.behind) ≡ cut.behind =
    rw one (drop-append-add cut.inside (curly_close ∷ cut.behind) 1) in
    rw (
      cut.whole,
      ← cut.long,
      behind,
      is,
      place-closed wanted 0 cut.inside (curly_close ∷ cut.behind) cut.closed,
      close-next wanted cut.behind,
    ) (moved-group (length cut.inside) (place_of wanted cut.behind))

pub number-group : (wanted : ℕ) (rest : List ℕ) (at : ℕ) → (curly_open == wanted) ≡ false
    → place_of curly_close rest ≡ Some at
    → number_of (place_of wanted (curly_open ∷ rest))
    ≡ moved (number_of (place_of wanted (drop (suc at) rest))) (suc at + 1)
number-group wanted rest at is closed = number-cut wanted rest at is (cut_of rest at closed)

-- no number is greater than the length
pub number-small : (wanted : ℕ) (text : List ℕ) (found : Option ℕ) → place_of wanted text ≡ found
    → number_of found ≤ length text
number-small wanted text None is = omega arith
number-small wanted text (Some at) is = omega (arith, place-within wanted 0 at text is)

pub number-skip : (wanted : ℕ) (text : List ℕ) (count : ℕ) → count ≤ length text
    → get_or (numbers_of wanted text) (length text - count) 0 ≤ length text - count
number-skip wanted text count within =
    let small = number-small wanted (drop count text) (place_of wanted (drop count text)) refl in
    rw (number-drop wanted text count within) (rw (length-drop count text) at small)

-- The place in the first bytes of a text

some_suc : (at count : ℕ) (found short : Option ℕ) → option_map suc found ≡ Some at → at < suc count
    → ((k : ℕ) → found ≡ Some k → k < count → short ≡ Some k) → option_map suc short ≡ Some at
some_suc at count None short is within next = cc
some_suc zero count (Some k) short is within next = cc
some_suc (suc at) count (Some k) short is within next =
    let same : k ≡ at = cc in
    let less : k < count = omega (arith, within, same) in
    rw (next k refl less) (ap (λ n. Some (suc n)) same)

some-byte : (wanted depth byte at count : ℕ) (rest : List ℕ) (stop : Bool) → stops wanted depth byte ≡ stop
    → place_from wanted depth (byte ∷ rest) ≡ Some at → at < suc count
    → ((k : ℕ) → place_from wanted (depth_behind depth byte) rest ≡ Some k → k < count
    → place_from wanted (depth_behind depth byte) (take count rest) ≡ Some k)
    → place_from wanted depth (byte ∷ take count rest) ≡ Some at
unfolding place_from
some-byte wanted depth byte at count rest true is some within next = rw is (rw is at some)
some-byte wanted depth byte at count rest false is some within next =
    rw is (some_suc at count (place_from wanted (depth_behind depth byte) rest)
    (place_from wanted (depth_behind depth byte) (take count rest)) (rw is at some) within next)

pub take-some : (wanted depth at count : ℕ) (text : List ℕ) → place_from wanted depth text ≡ Some at
    → at < count → place_from wanted depth (take count text) ≡ Some at
unfolding place_from
take-some wanted depth at zero text some within = absurd (omega (arith, within))
take-some wanted depth at (suc count) [] some within = cc
take-some wanted depth at (suc count) (byte ∷ rest) some within =
    some-byte wanted depth byte at count rest (stops wanted depth byte) refl some within
    (λ k is less. take-some wanted (depth_behind depth byte) k count rest is less)

none-byte : (wanted depth byte count : ℕ) (rest : List ℕ) (stop : Bool) → stops wanted depth byte ≡ stop
    → ((k : ℕ) → place_from wanted depth (byte ∷ rest) ≡ Some k → suc count ≤ k)
    → (((k : ℕ) → place_from wanted (depth_behind depth byte) rest ≡ Some k → count ≤ k)
    → place_from wanted (depth_behind depth byte) (take count rest) ≡ None)
    → place_from wanted depth (byte ∷ take count rest) ≡ None
unfolding place_from
none-byte wanted depth byte count rest true is past next =
    let no : suc count ≤ 0 = past 0 (rw is refl) in absurd (omega (arith, no))
none-byte wanted depth byte count rest false is past next =
    let none = next (λ k found. let more : suc count ≤ suc k = past (suc k) (rw (is, found) refl) in omega (arith, more)) in
    rw (is, none) refl

pub take-none : (wanted depth count : ℕ) (text : List ℕ)
    → ((k : ℕ) → place_from wanted depth text ≡ Some k → count ≤ k)
    → place_from wanted depth (take count text) ≡ None
unfolding place_from
take-none wanted depth zero text past = refl
take-none wanted depth (suc count) [] past = refl
take-none wanted depth (suc count) (byte ∷ rest) past =
    none-byte wanted depth byte count rest (stops wanted depth byte) refl past
    (take-none wanted (depth_behind depth byte) count rest)

pub place-inside : (wanted : ℕ) (text : List ℕ) (found : Option ℕ) → place_of wanted text ≡ found
    → IfSome found (λ at. at < length text)
place-inside wanted text None is = tt
place-inside wanted text (Some at) is = place-within wanted 0 at text is

pub none-number : (found : Option ℕ) → number_of found ≡ 0 → found ≡ None
none-number None is = refl
none-number (Some at) is = absurd (omega (arith, is))

pub some-number : (found : Option ℕ) → (number_of found ≡ 0 → ⊥) → (at : ℕ) × (found ≡ Some at)
some-number None is = absurd (is refl)
some-number (Some at) is = (at, refl)

absurd_none : {P : Type 0} (found : Option ℕ) (k : ℕ) → found ≡ None → found ≡ Some k → P
absurd_none found k none some = cc

past_same : (found : Option ℕ) (at k end : ℕ) → found ≡ Some at → found ≡ Some k → end ≤ at → end ≤ k
past_same found at k end is some past = let same : at ≡ k = cc in omega (arith, past, same)

-- where the alternative behind the first one begins, by the places of the whole text
pub next-none : (text : List ℕ) (end : ℕ) → place_of comma text ≡ None → next_in text (Some end) ≡ None
next-none text end none =
    rw (take-none comma 0 end text (λ k is. absurd_none (place_of comma text) k none is)) refl

pub next-some : (text : List ℕ) (end at : ℕ) → place_of comma text ≡ Some at → at < end
    → next_in text (Some end) ≡ Some (at + 1)
next-some text end at is less =
    let one : at + 1 ≡ suc at = omega arith in
    rw (take-some comma 0 at end text is less, one) refl

pub next-past : (text : List ℕ) (end at : ℕ) → place_of comma text ≡ Some at → end ≤ at
    → next_in text (Some end) ≡ None
next-past text end at is past =
    rw (take-none comma 0 end text (λ k found. past_same (place_of comma text) at k end is found past)) refl
