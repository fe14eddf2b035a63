-- The first group of a word of which a part is read, and its alternatives.
use Rattle.std.proofs.Common.{◌≡◌, ℕ, zero, suc, ◌+◌, ◌-◌, ◌<◌, ◌≤◌, Bool, true, false, not, List, [], ◌∷◌, ◌++◌}
use Rattle.std.proofs.Common.{Option, Some, None, Ok, Err, length, take, drop, refl, sym, ap, ◌∙◌, append_assoc, length-append, length-drop, cond, nat_lt, inr, arith}
use Rattle.std.proofs.Math.Seq.{drop-length, take-append_seam, drop-append-add}
use Rattle.std.proofs.lemmas.Bool.{eqb-true}
use Rattle.std.proofs.lemmas.List.Recursion.{is_position_or_len}
use Rattle.std.proofs.lemmas.List.{append-nil, drop-append-le, drop-drop}
use Rattle.std.proofs.lemmas.Bool.Decides.{nat_tests}
use Rattle.std.specs.List.{position, position_or_len}
use Rattle.std.specs.Option.{option_map}
use Rattle.mk_bytes.specs.Bytes.{curly_open, curly_close}
use Rattle.mk_depline.specs.Braces.{Plain, alternatives_to, behind_to, both_spelled, comma}
use Rattle.mk_depline.specs.Braces.{first_group, first_of, group_end, group_of, is_open}
use Rattle.mk_depline.specs.Braces.{is_plain, left, next_in, place_from, place_of, spelled_in, spelled_to, steps_to}
use Rattle.mk_depline.specs.Braces.{word_steps}
use Rattle.mk_bytes.specs.Agrees.{AgreesErr}
use Rattle.mk_bytes.specs.Words.{words_among}
use Rattle.mk_depline.specs.declared.fault.DepFault.TheVariants.{Brace, NoMemory}
use Rattle.mk_depline.proofs.BraceLemmas.{alternatives-comma, alternatives-last, spelled-fault}
use Rattle.mk_depline.proofs.BraceLemmas.{spelled-group, spelled-none, steps-group}
use Rattle.mk_depline.proofs.LeftLemmas.{Closed, Cut, closed-comma, cut_of, left-byte, left-end}
use Rattle.mk_depline.proofs.LeftLemmas.{left-group, left-unclosed, none_map, place-close}

-- The first brace

place_open : List ℕ → ℕ
place_open [] = 0
place_open (byte ∷ text) = cond (is_open byte) 0 (1 + place_open text)

is_place : (text : List ℕ) → place_open text ≡ position_or_len is_open text
unfolding place_open
is_place text = is_position_or_len place_open is_open refl (λ byte more. refl) text

place-behind : (text rest : List ℕ) → Plain text → place_open (text ++ curly_open ∷ rest) ≡ length text
unfolding place_open
place-behind [] rest plain = refl
place-behind (byte ∷ text) rest plain = rw (plain.0, place-behind text rest plain.1) (omega arith)

place-none : (text : List ℕ) → Plain text → place_open text ≡ length text
unfolding place_open
place-none [] plain = refl
place-none (byte ∷ text) plain = rw (plain.0, place-none text plain.1) (omega arith)

open-behind : (text rest : List ℕ) → Plain text
    → position is_open (text ++ curly_open ∷ rest) ≡ Some (length text)
open-behind text rest plain =
    let word = text ++ curly_open ∷ rest in
    let at : position_or_len is_open word ≡ length text = sym (is_place word) ∙ place-behind text rest plain in
    let longer : length word ≡ length text + suc (length rest) = length-append text (curly_open ∷ rest) in
    let within : nat_lt (length text) (length word) ≡ true = grind (arith, nat_tests, longer) in
    rw (at, within) refl

open-none : (text : List ℕ) → Plain text → position is_open text ≡ None
open-none text plain =
    let at : position_or_len is_open text ≡ length text = sym (is_place text) ∙ place-none text plain in
    let past : nat_lt (position_or_len is_open text) (length text) ≡ false = grind (arith, nat_tests, at) in
    rw past refl

pub plain-push : (text : List ℕ) (last : ℕ) → is_open last ≡ false → Plain text
    → Plain (text ++ last ∷ [])
plain-push [] last is plain = (is, tt)
plain-push (byte ∷ text) last is plain = (plain.0, plain-push text last is plain.1)

-- Its group

group-open : (text inside behind : List ℕ) → Plain text → Closed 0 inside
    → group_of (text ++ curly_open ∷ (inside ++ curly_close ∷ behind))
    ≡ Ok (Some (record { before = text; inside = inside; behind = behind }))
group-open text inside behind none closed =
    rw (
      open-behind text (inside ++ curly_close ∷ behind) none,
      take-append_seam text (curly_open ∷ (inside ++ curly_close ∷ behind)),
      drop-append-add text (curly_open ∷ (inside ++ curly_close ∷ behind)) 1,
      place-close 0 inside behind closed,
      take-append_seam inside (curly_close ∷ behind),
      drop-append-add inside (curly_close ∷ behind) 1,
    ) refl

group-unclosed : (text rest : List ℕ) → Plain text → place_of curly_close rest ≡ None
    → group_of (text ++ curly_open ∷ rest) ≡ Err Brace
group-unclosed text rest none unclosed =
    rw (
      open-behind text rest none,
      drop-append-add text (curly_open ∷ rest) 1,
      unclosed,
    ) refl

-- a brace that is not closed
pub group-fault : (depth : ℕ) (text rest : List ℕ) → Plain text
    → place_of curly_close rest ≡ None → group_of (text ++ left depth (curly_open ∷ rest)) ≡ Err Brace
group-fault depth text rest none unclosed =
    rw (left-unclosed depth rest unclosed) (group-unclosed text rest none unclosed)

group-cut : (depth : ℕ) (text rest : List ℕ) (at : ℕ) → Plain text → Cut 0 rest at
    → group_of (text ++ left depth (curly_open ∷ rest))
    ≡ Ok (Some (record { before = text; inside = take at rest; behind = left depth (drop (suc at) rest) }))
group-cut depth text rest at none cut =
    let next : suc (length cut.inside) ≡ length cut.inside + 1 = omega arith in
    rw (
      cut.whole,
      ← cut.long,
      left-group depth cut.inside cut.behind cut.closed,
      group-open text cut.inside (left depth cut.behind) none cut.closed,
      take-append_seam cut.inside (curly_close ∷ cut.behind),
      next,
      drop-append-add cut.inside (curly_close ∷ cut.behind) 1,
    ) refl

-- the words of a group that is met
pub spelled-met : (most depth : ℕ) (text rest : List ℕ) (at : ℕ) → Plain text
    → place_of curly_close rest ≡ Some at → 0 < most
    → spelled_in most (text ++ left depth (curly_open ∷ rest)) ≡ spelled_to (most - 1) text depth rest (Some at)
spelled-met most depth text rest at none is some =
    spelled-group most (text ++ left depth (curly_open ∷ rest)) _ some
    (group-cut depth text rest at none (cut_of rest at is))

pub steps-met : (most depth : ℕ) (text rest : List ℕ) (at : ℕ) → Plain text
    → place_of curly_close rest ≡ Some at → 0 < most
    → word_steps most (text ++ left depth (curly_open ∷ rest)) ≡ steps_to (most - 1) text depth rest (Some at)
steps-met most depth text rest at none is some =
    steps-group most (text ++ left depth (curly_open ∷ rest)) _ some
    (group-cut depth text rest at none (cut_of rest at is))

-- Its alternatives

-- the first of them
abbrev first_at : List ℕ → Option ℕ → List ℕ
first_at text None = text
first_at text (Some at) = first_of (take at text)

left-first : (depth : ℕ) (text : List ℕ) (found : Option ℕ) → place_of curly_close text ≡ found
    → left (suc depth) text ≡ first_at text found ++ behind_to depth text found
unfolding left
left-first depth text None is = rw is (sym (append-nil text))
left-first depth text (Some at) is = rw is refl

alternatives-only : (text : List ℕ) (found : Option ℕ) → next_in text found ≡ None
    → alternatives_to text found ≡ first_at text found ∷ []
alternatives-only text None none = refl
alternatives-only text (Some at) none =
    let last = none_map (place_of comma (take at text)) none in
    rw (alternatives-last (take at text) last, last) refl

first-comma : (inside : List ℕ) (at : ℕ) → place_of comma inside ≡ Some at → first_of inside ≡ take at inside
first-comma inside at is = rw is refl

-- those behind the first
record Others (depth : ℕ) (text : List ℕ) (found : Option ℕ) (others : List ℕ) (at : Option ℕ) : Type 0 where
  pub alternatives : alternatives_to text found ≡ first_at text found ∷ alternatives_to others at
  pub behind : behind_to depth text found ≡ behind_to depth others at

others-cut : (depth : ℕ) (inside behind : List ℕ) (at : ℕ) → Closed 0 inside
    → place_of comma inside ≡ Some at
    → Others depth (inside ++ curly_close ∷ behind) (Some (length inside))
    (drop (suc at) (inside ++ curly_close ∷ behind))
    (place_of curly_close (drop (suc at) (inside ++ curly_close ∷ behind)))
others-cut depth inside behind at closed is =
    let later = closed-comma 0 inside at is closed in
    let within : suc at ≤ length inside = omega (arith, later.1) in
    let others = drop (suc at) inside in
    let one : suc (length inside) ≡ length inside + 1 = omega arith in
    let more : suc (length others) ≡ length others + 1 = omega arith in
    let same : at + 1 ≡ suc at = omega arith in
    rw (
      drop-append-le (suc at) inside (curly_close ∷ behind) within,
      place-close 0 others behind later.0,
    ) (record {
      alternatives = rw (
        take-append_seam inside (curly_close ∷ behind),
        take-append_seam others (curly_close ∷ behind),
        alternatives-comma inside at is,
        first-comma inside at is,
        same,
      ) refl;
      behind = rw (
        one,
        more,
        drop-append-add inside (curly_close ∷ behind) 1,
        drop-append-add others (curly_close ∷ behind) 1,
      ) refl;
    })

others-at : (depth : ℕ) (text : List ℕ) (end at : ℕ) → Cut 0 text end
    → place_of comma (take end text) ≡ Some at
    → Others depth text (Some end) (drop (suc at) text) (place_of curly_close (drop (suc at) text))
others-at depth text end at cut is =
    let inside : take end text ≡ cut.inside =
    rw (cut.whole, ← cut.long) (take-append_seam cut.inside (curly_close ∷ cut.behind)) in
    rw (cut.whole, ← cut.long)
    (others-cut depth cut.inside cut.behind at cut.closed (rw inside at is))

others-found : (depth : ℕ) (text : List ℕ) (end count : ℕ) (found : Option ℕ) → Cut 0 text end
    → place_of comma (take end text) ≡ found → option_map suc found ≡ Some count
    → Others depth text (Some end) (drop count text) (place_of curly_close (drop count text))
others-found depth text end count None cut is some = cc
others-found depth text end zero (Some at) cut is some = cc
others-found depth text end (suc count) (Some at) cut is some =
    let same : at ≡ count = cc in others-at depth text end count cut (is ∙ ap Some same)

others-of : (depth : ℕ) (text : List ℕ) (found : Option ℕ) (count : ℕ)
    → place_of curly_close text ≡ found → next_in text found ≡ Some count
    → Others depth text found (drop count text) (place_of curly_close (drop count text))
others-of depth text None count is some = cc
others-of depth text (Some end) count is some =
    others-found depth text end count (place_of comma (take end text)) (cut_of text end is) refl some

-- the word of the first, and those of the others
pub next-only : (most depth : ℕ) (before text : List ℕ) (found : Option ℕ)
    → place_of curly_close text ≡ found → next_in text found ≡ None
    → spelled_to most before depth text found
    ≡ both_spelled (spelled_in most (before ++ left (depth + 1) text)) (Ok [])
next-only most depth before text found is none =
    let one : depth + 1 ≡ suc depth = omega arith in
    rw (
      one,
      alternatives-only text found none,
      left-first depth text found is,
      ← append_assoc before (first_at text found) (behind_to depth text found),
    ) refl

pub next-only-steps : (most depth : ℕ) (before text : List ℕ) (found : Option ℕ)
    → place_of curly_close text ≡ found → next_in text found ≡ None
    → steps_to most before depth text found
    ≡ 1 + (word_steps most (before ++ left (depth + 1) text) + 0)
next-only-steps most depth before text found is none =
    let one : depth + 1 ≡ suc depth = omega arith in
    rw (
      one,
      alternatives-only text found none,
      left-first depth text found is,
      ← append_assoc before (first_at text found) (behind_to depth text found),
    ) refl

pub next-more : (most depth : ℕ) (before text : List ℕ) (found : Option ℕ) (count : ℕ)
    → place_of curly_close text ≡ found → next_in text found ≡ Some count
    → spelled_to most before depth text found
    ≡ both_spelled (spelled_in most (before ++ left (depth + 1) text))
    (spelled_to most before depth (drop count text) (place_of curly_close (drop count text)))
next-more most depth before text found count is some =
    let others = others-of depth text found count is some in
    let one : depth + 1 ≡ suc depth = omega arith in
    rw (
      one,
      left-first depth text found is,
      ← append_assoc before (first_at text found) (behind_to depth text found),
      others.behind,
      others.alternatives,
    ) refl

pub next-more-steps : (most depth : ℕ) (before text : List ℕ) (found : Option ℕ) (count : ℕ)
    → place_of curly_close text ≡ found → next_in text found ≡ Some count
    → steps_to most before depth text found
    ≡ 1 + (word_steps most (before ++ left (depth + 1) text)
    + steps_to most before depth (drop count text) (place_of curly_close (drop count text)))
next-more-steps most depth before text found count is some =
    let others = others-of depth text found count is some in
    let one : depth + 1 ≡ suc depth = omega arith in
    rw (
      one,
      left-first depth text found is,
      ← append_assoc before (first_at text found) (behind_to depth text found),
      others.behind,
      others.alternatives,
    ) refl

-- One byte

not_open : (byte : ℕ) (is : Bool) → is_open byte ≡ is → not is ≡ true → is_open byte ≡ false
not_open byte true is plain = cc
not_open byte false is plain = is

read-byte : (depth : ℕ) (text : List ℕ) → is_plain text ≡ true → group_end depth text ≡ None
    → take 1 text ++ left depth (drop 1 text) ≡ left depth text
read-byte depth [] plain none = cc
read-byte depth (byte ∷ rest) plain none =
    sym (left-byte depth byte rest (not_open byte (is_open byte) refl plain) none)

-- a byte of an alternative
pub word-byte : (word text : List ℕ) (at depth : ℕ) → is_plain (drop at word) ≡ true
    → group_end depth (drop at word) ≡ None
    → (text ++ take 1 (drop at word)) ++ left depth (drop (at + 1) word)
    ≡ text ++ left depth (drop at word)
word-byte word text at depth plain none =
    rw (← drop-drop 1 at word, append_assoc text (take 1 (drop at word)) (left depth (drop 1 (drop at word))))
    (ap (λ more. text ++ more) (read-byte depth (drop at word) plain none))

-- the end of an alternative
pub word-end : (word text : List ℕ) (at depth end : ℕ) → group_end depth (drop at word) ≡ Some end
    → text ++ left (depth - 1) (drop (at + (end + 1)) word) ≡ text ++ left depth (drop at word)
word-end word text at depth end is =
    let next : end + 1 ≡ suc end = omega arith in
    rw (← drop-drop (end + 1) at word, next)
    (ap (λ more. text ++ more) (sym (left-end depth (drop at word) end is)))

read-plain : (text more : List ℕ) → is_plain more ≡ true → Plain text
    → Plain (text ++ take 1 more)
read-plain text [] plain none = cc
read-plain text (byte ∷ more) plain none =
    plain-push text byte (not_open byte (is_open byte) refl plain) none

pub plain-read : (word text : List ℕ) (at : ℕ) → is_plain (drop at word) ≡ true
    → Plain text → Plain (text ++ take 1 (drop at word))
plain-read word text at plain none = read-plain text (drop at word) plain none

some_plain : (more : List ℕ) → is_plain more ≡ true → 0 < length more
some_plain [] plain = cc
some_plain (byte ∷ more) plain = omega arith

pub plain-within : (word : List ℕ) (at : ℕ) → is_plain (drop at word) ≡ true → at < length word
plain-within word at plain = omega (arith, length-drop at word, some_plain (drop at word) plain)

-- Where the reading stops

stops_here : (byte : ℕ) (is : Bool) → is_open byte ≡ is → not is ≡ false → is_open byte ≡ true
stops_here byte true is plain = is
stops_here byte false is plain = cc

pub met : (more : List ℕ) → is_plain more ≡ false → 0 < length more → more ≡ curly_open ∷ drop 1 more
met [] plain some = absurd (omega arith)
met (byte ∷ rest) plain some =
    ap (λ b. b ∷ rest) (eqb-true byte curly_open (stops_here byte (is_open byte) refl plain))

met-at : (word : List ℕ) (at : ℕ) → is_plain (drop at word) ≡ false → at < length word
    → drop at word ≡ curly_open ∷ drop (at + 1) word
met-at word at plain within =
    let some : 0 < length (drop at word) = omega (arith, length-drop at word) in
    met (drop at word) plain some ∙ ap (λ more. curly_open ∷ more) (drop-drop 1 at word)

left-nil : (depth : ℕ) → left depth [] ≡ []
unfolding left place_from
left-nil zero = refl
left-nil (suc depth) = refl

group-none : (text : List ℕ) → Plain text → group_of text ≡ Ok None
group-none text plain = let none = open-none text plain in ap (first_group text) none

-- a word that is read up to its end
pub spelled-over : (most depth at : ℕ) (text word : List ℕ) → at ≡ length word → Plain text
    → spelled_in most (text ++ left depth (drop at word)) ≡ Ok (words_among (text ∷ []))
spelled-over most depth at text word over plain =
    let end : drop at word ≡ [] = rw over (drop-length word) in
    rw (end, left-nil depth, append-nil text) (spelled-none most text (group-none text plain))

-- a word that is read up to a group
pub spelled-word : (most depth at end : ℕ) (text word : List ℕ) → is_plain (drop at word) ≡ false
    → at < length word → Plain text → place_of curly_close (drop (at + 1) word) ≡ Some end → 0 < most
    → spelled_in most (text ++ left depth (drop at word))
    ≡ spelled_to (most - 1) text depth (drop (at + 1) word) (place_of curly_close (drop (at + 1) word))
spelled-word most depth at end text word stops within plain is some =
    rw (met-at word at stops within, is) (spelled-met most depth text (drop (at + 1) word) end plain is some)

pub steps-word : (most depth at end : ℕ) (text word : List ℕ) → is_plain (drop at word) ≡ false
    → at < length word → Plain text → place_of curly_close (drop (at + 1) word) ≡ Some end → 0 < most
    → word_steps most (text ++ left depth (drop at word))
    ≡ steps_to (most - 1) text depth (drop (at + 1) word) (place_of curly_close (drop (at + 1) word))
steps-word most depth at end text word stops within plain is some =
    rw (met-at word at stops within, is) (steps-met most depth text (drop (at + 1) word) end plain is some)

pub spelled-unclosed : (most depth at : ℕ) (text word : List ℕ) → is_plain (drop at word) ≡ false
    → at < length word → Plain text → place_of curly_close (drop (at + 1) word) ≡ None
    → AgreesErr NoMemory Brace (spelled_in most (text ++ left depth (drop at word)))
spelled-unclosed most depth at text word stops within plain is =
    rw (met-at word at stops within)
    (spelled-fault most (text ++ left depth (curly_open ∷ drop (at + 1) word)) Brace
    (inr (group-fault depth text (drop (at + 1) word) plain is)))
