-- A sort puts words in the one order of their bytes.
use Rattle.std.proofs.Common.{◌≡◌, ℕ, zero, suc, ◌+◌, ◌<◌, ◌≤◌, Bool, true, false, cond, List, [], ◌∷◌, length, get_or, set, refl, sym, ap, ◌∙◌, arith}
use Rattle.std.proofs.lemmas.Bool.{true≢false}
use Rattle.std.proofs.lemmas.Grind.{common_steps}
use Rattle.std.proofs.lemmas.Slice.Eq.{bytes_eq-Decides}
use Rattle.std.proofs.lemmas.List.Sorted.{IsPermutation-keeps, All-permutation, ranks_by}
use Rattle.std.specs.Cmp.Lexicographic.{slice_cmp, nat_list_cmp_total, texts_ties}
use Rattle.std.specs.Cmp.{IsStrictWeakOrder}
use Rattle.std.specs.List.{swap, All}
use Rattle.std.specs.List.Sorted.{IsPermutation, IsSortedBy}
use Rattle.std.specs.Ordering.{nat_cmp, is_lt, is_eq, ordering_reverse}
use Rattle.std.specs.declared.cmp.Ordering.{Ordering}
use Rattle.std.specs.declared.cmp.Ordering.TheVariants.{Less, Equal, Greater}
use Rattle.std.specs.Str.{bytes_eq}
use Rattle.mk_pool.specs.declared.region.Piece.{Piece}
use Rattle.mk_mods.specs.Order.{is_before, put_in, sorted}
use Rattle.mk_pieces.specs.Pieces.{bytes_of, texts_of, furthest}
use Rattle.mk_pieces.proofs.PieceLemmas.{furthest-at}

cases : {P : Type 0} (test : Bool) → (test ≡ true → P) → (test ≡ false → P) → P
cases true here there = here refl
cases false here there = there refl

words_rank : IsStrictWeakOrder is_before
words_rank = ranks_by nat_list_cmp_total (λ (word : List ℕ). word)

-- the laws of the order of words
before_one_way : (word other : List ℕ) → is_before word other ≡ true → is_before other word ≡ false
before_one_way word other is = words_rank.one_way word other is

before_trans : (first second third : List ℕ) → is_before first third ≡ true
    → is_before first second ≡ false → is_before second third ≡ true
before_trans first second third here there =
    cases (is_before second third) (λ is. is)
    (λ is. absurd (true≢false (sym here ∙ words_rank.chain first second third there is)))

neither : (order back : Ordering) → back ≡ ordering_reverse order → is_lt order ≡ false
    → is_lt back ≡ false → is_eq order ≡ true
neither Less back turned here there = absurd (true≢false here)
neither Equal back turned here there = refl
neither Greater back turned here there = absurd (let is = rw turned at there in true≢false is)

before_apart : (word other : List ℕ) → is_before word other ≡ false → is_before other word ≡ false
    → word ≡ other
before_apart word other here there =
    let equal = neither (slice_cmp nat_cmp word other) (slice_cmp nat_cmp other word)
    (nat_list_cmp_total.antisymm other word) here there
    in
    (bytes_eq-Decides word other).0 (texts_ties word other ∙ equal)

put_in-first : (word first : List ℕ) (words : List (List ℕ)) → is_before first word ≡ false
    → put_in word (first ∷ words) ≡ word ∷ first ∷ words
put_in-first word first words is = rw is refl

put_in-later : (word first : List ℕ) (words : List (List ℕ)) → is_before first word ≡ true
    → put_in word (first ∷ words) ≡ first ∷ put_in word words
put_in-later word first words is = rw is refl

-- two words that both go first
both_first : (a b : List ℕ) (words : List (List ℕ)) → put_in a words ≡ a ∷ words
    → put_in b words ≡ b ∷ words → put_in a (b ∷ words) ≡ put_in b (a ∷ words)
both_first a b words first second =
    cases (is_before b a)
    (λ is. put_in-later a b words is ∙ ap (λ rest. b ∷ rest) first
    ∙ sym (put_in-first b a words (before_one_way b a is)))
    (λ is. cases (is_before a b)
    (λ less. put_in-first a b words is ∙ ap (λ rest. a ∷ rest) (sym second)
    ∙ sym (put_in-later b a words less))
    (λ more. let same = before_apart a b more is in
    put_in-first a b words is ∙ ap (λ word. word ∷ b ∷ words) same
    ∙ ap (λ word. b ∷ word ∷ words) (sym same) ∙ sym (put_in-first b a words more)))

-- one word that goes first, and one that goes later
one_first : (a b first : List ℕ) (words : List (List ℕ)) → is_before first a ≡ true
    → is_before first b ≡ false
    → put_in a (put_in b (first ∷ words)) ≡ put_in b (put_in a (first ∷ words))
one_first a b first words later here =
    ap (put_in a) (put_in-first b first words here)
    ∙ put_in-later a b (first ∷ words) (before_trans first b a later here)
    ∙ ap (λ rest. b ∷ rest) (put_in-later a first words later)
    ∙ sym (put_in-first b first (put_in a words) here)
    ∙ ap (put_in b) (sym (put_in-later a first words later))

put_in-comm : (a b : List ℕ) (words : List (List ℕ))
    → put_in a (put_in b words) ≡ put_in b (put_in a words)
put_in-comm a b [] = both_first a b [] refl refl
put_in-comm a b (first ∷ words) =
    cases (is_before first a)
    (λ before_a. cases (is_before first b)
    (λ before_b.
    ap (put_in a) (put_in-later b first words before_b)
    ∙ put_in-later a first (put_in b words) before_a
    ∙ ap (λ rest. first ∷ rest) (put_in-comm a b words)
    ∙ sym (put_in-later b first (put_in a words) before_b)
    ∙ ap (put_in b) (sym (put_in-later a first words before_a)))
    (λ behind_b. one_first a b first words before_a behind_b))
    (λ behind_a. cases (is_before first b)
    (λ before_b. sym (one_first b a first words before_b behind_a))
    (λ behind_b.
    ap (put_in a) (put_in-first b first words behind_b)
    ∙ both_first a b (first ∷ words) (put_in-first a first words behind_a)
    (put_in-first b first words behind_b)
    ∙ ap (put_in b) (sym (put_in-first a first words behind_a))))

-- a word taken out again
take_out : List ℕ → List (List ℕ) → List (List ℕ)
take_out word [] = []
take_out word (first ∷ words) = cond (bytes_eq first word) words (first ∷ take_out word words)

same_bytes : (word : List ℕ) → bytes_eq word word ≡ true
same_bytes word = (bytes_eq-Decides word word).1 refl

other_bytes : (word other : List ℕ) → is_before word other ≡ true → bytes_eq word other ≡ false
other_bytes word other is =
    cases (bytes_eq word other)
    (λ same. let equal = (bytes_eq-Decides word other).0 same in
    let back = before_one_way word other is in
    absurd (true≢false (sym is ∙ ap (λ w. is_before w other) equal
    ∙ ap (λ w. is_before other w) (sym equal) ∙ back)))
    (λ apart. apart)

take_out-put_in : (word : List ℕ) (words : List (List ℕ))
    → take_out word (put_in word words) ≡ words
unfolding take_out
take_out-put_in word [] = rw (same_bytes word) refl
take_out-put_in word (first ∷ words) =
    cases (is_before first word)
    (λ is. rw (put_in-later word first words is, other_bytes first word is)
    (ap (λ rest. first ∷ rest) (take_out-put_in word words)))
    (λ is. rw (put_in-first word first words is, same_bytes word) refl)

put_in-same : (word : List ℕ) (words others : List (List ℕ))
    → put_in word words ≡ put_in word others → words ≡ others
put_in-same word words others same =
    sym (take_out-put_in word words) ∙ ap (take_out word) same ∙ take_out-put_in word others

-- another word in the place of one
sorted-set : (words : List (List ℕ)) (i : ℕ) (word default : List ℕ) → i < length words
    → put_in (get_or words i default) (sorted (set words i word)) ≡ put_in word (sorted words)
sorted-set [] i word default within = absurd (omega arith)
sorted-set (first ∷ words) zero word default within = put_in-comm first word (sorted words)
sorted-set (first ∷ words) (suc i) word default within =
    put_in-comm (get_or words i default) first (sorted (set words i word))
    ∙ ap (put_in first) (sorted-set words i word default (omega (arith, within)))
    ∙ put_in-comm first word (sorted words)

sorted-swap : (words : List (List ℕ)) (i j : ℕ) → i < length words → j < length words
    → sorted (swap words i j) ≡ sorted words
sorted-swap [] i j here there = refl
sorted-swap (default ∷ rest) i j here there =
    let words = default ∷ rest in
    let a = get_or words i default in
    let b = get_or words j default in
    let once = set words i b in
    let twice = set once j a in
    let len : length once ≡ length words = grind (arith, common_steps) in
    let at : get_or once j default ≡ b = grind (arith, common_steps) in
    let first = sorted-set words i b default here in
    let second = sorted-set once j a default (omega (arith, len, there)) in
    put_in-same b (sorted twice) (sorted words)
    (ap (λ word. put_in word (sorted twice)) (sym at) ∙ second ∙ first)

-- words in another order are sorted the same
pub sorted-permutation : (words others : List (List ℕ)) → IsPermutation words others
    → sorted others ≡ sorted words
sorted-permutation words others moved =
    IsPermutation-keeps words (λ list. sorted list ≡ sorted words) refl
    (λ list i j here there same. sorted-swap list i j here there ∙ same) others moved

-- pieces that show words in order
pub sorted-pieces : (region : List ℕ) (pieces : List Piece)
    → IsSortedBy (λ piece other. is_before (bytes_of region piece) (bytes_of region other)) pieces
    → sorted (texts_of region pieces) ≡ texts_of region pieces
sorted-pieces region [] ordered = refl
sorted-pieces region (first ∷ []) ordered = refl
sorted-pieces region (first ∷ second ∷ pieces) ordered =
    let rest = sorted-pieces region (second ∷ pieces)
    (λ k default low high.
    let next : suc k + 1 ≡ suc (k + 1) = omega arith in
    rw next at (ordered (suc k) default (omega arith) (omega (arith, high))))
    in
    let here = ordered zero first (omega arith) (omega arith) in
    ap (put_in (bytes_of region first)) rest
    ∙ put_in-first (bytes_of region first) (bytes_of region second) (texts_of region pieces) here

furthest-all : (len : ℕ) (pieces : List Piece) → All (λ piece. piece.end ≤ len) pieces
    → furthest pieces ≤ len
furthest-all len [] all = omega arith
furthest-all len (piece ∷ pieces) all =
    let here : piece.end ≤ len = all zero piece (omega arith) in
    let rest = furthest-all len pieces
    (λ k default within. all (suc k) default (omega (arith, within)))
    in
    omega (arith, here, rest)

pub furthest-permutation : (pieces others : List Piece) → IsPermutation pieces others
    → furthest others ≤ furthest pieces
furthest-permutation pieces others moved =
    furthest-all (furthest pieces) others
    (All-permutation (λ piece. piece.end ≤ furthest pieces) pieces others moved
    (λ k default within. furthest-at pieces k default within))
