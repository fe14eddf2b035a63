-- Texts in the turns of loops.
use Rattle.std.proofs.Common.{◌≡◌, ℕ, suc, ◌+◌, ◌-◌, ◌<◌, ◌≤◌, Bool, true, false, List, [], ◌∷◌}
use Rattle.std.proofs.Common.{◌++◌, map, reverse, refl, sym, ap, ◌∙◌, arith, add-one, ◌||◌, Ok}
use Rattle.std.proofs.Common.{length, nat_lt}
use Rattle.std.proofs.lemmas.Bool.Decides.{nat_tests}
use Rattle.std.specs.List.{list_any}
use Rattle.std.proofs.lemmas.Grind.{reverse_onto}
use Rattle.std.proofs.lemmas.List.{map-append}
use Rattle.mk_lines.specs.Faults.{max_len}
use Rattle.mk_for.specs.Substitution.{is_dollar, replaced, replaced_behind, within}
use Rattle.mk_turns.specs.OpenLoops.{has_next, IsNext, turn_of, turns_behind, turns_in}
use Rattle.mk_turns.specs.Turns.{Turn, in_turns, loop_turns, turn_at, turn_count, turns_from}
use Rattle.mk_turns.specs.declared.loops.OpenLoop.{OpenLoop}

neither : (a b : Bool) → (a || b) ≡ false → (a ≡ false) × (b ≡ false)
neither true b none = absurd cc
neither false b none = (refl, none)

-- a text without a `$` stays as it is
replaced-plain : (names words : List (List ℕ)) (text : List ℕ)
    → list_any is_dollar text ≡ false → replaced names words text ≡ text
unfolding replaced_behind
replaced-plain names words [] none = refl
replaced-plain names words (byte ∷ text) none =
    let both = neither (is_dollar byte) (list_any is_dollar text) none in
    rw (both.0, replaced-plain names words text both.1) refl

-- a text within the limit
pub within-short : (limit : ℕ) (text : List ℕ) → length text ≤ limit → within limit text ≡ Ok text
within-short limit text short =
    let fits : nat_lt limit (length text) ≡ false = grind (arith, nat_tests) in rw fits refl

pub in_turns-plain : (turns : List Turn) (text : List ℕ)
    → list_any is_dollar text ≡ false → length text ≤ max_len → in_turns turns text ≡ Ok text
in_turns-plain [] text none short = refl
in_turns-plain (turn ∷ turns) text none short =
    rw (replaced-plain turn.names turn.words text none, within-short max_len text short)
    (in_turns-plain turns text none short)

-- the turns that are read, in the order in which their loops were begun
pub turns_in-reverse : (loops : List OpenLoop) → turns_in loops ≡ map turn_of (reverse loops)
turns_in-reverse [] = refl
turns_in-reverse (o ∷ outer) =
    ap (λ turns. turns ++ turn_of o ∷ []) (turns_in-reverse outer)
    ∙ sym (map-append turn_of (reverse outer) (o ∷ []))
    ∙ ap (map turn_of) (sym (reverse_onto outer o []))

-- the turns of a loop from one on that it has
pub turns-begin : (names words : List (List ℕ)) (k : ℕ) → k < turn_count names words
    → turns_from names words k (turn_count names words - k)
    ≡ turn_at names words k ∷ turns_from names words (k + 1) (turn_count names words - (k + 1))
unfolding turns_from
turns-begin names words k less =
    let left : turn_count names words - k ≡ suc (turn_count names words - (k + 1)) = omega arith in
    rw (left, add-one) refl

pub turns-over : (names words : List (List ℕ)) (k : ℕ) → turn_count names words ≤ k
    → turns_from names words k (turn_count names words - k) ≡ []
unfolding turns_from
turns-over names words k past =
    let left : turn_count names words - k ≡ 0 = omega arith in rw left refl

pub turns-none : (names words : List (List ℕ)) → turn_count names words ≡ 0
    → loop_turns names words ≡ []
unfolding turns_from
turns-none names words none = rw none refl

pub turns-first : (names words : List (List ℕ)) → 0 < turn_count names words
    → loop_turns names words
    ≡ turn_at names words 0 ∷ turns_from names words (0 + 1) (turn_count names words - (0 + 1))
turns-first names words some =
    let all : turn_count names words ≡ turn_count names words - 0 = omega arith in
    ap (turns_from names words 0) all ∙ turns-begin names words 0 some

-- the turns behind the one that is read

pub last-turn : (o : OpenLoop) → has_next o true ≡ false → turns_behind o ≡ []
last-turn o none =
    let past : turn_count o.header.names o.header.words ≤ o.turn + 1 = grind
    (arith, nat_tests, none) in
    turns-over o.header.names o.header.words (o.turn + 1) past

pub other-turn : (o : OpenLoop) (goes_on : Bool) → has_next o goes_on ≡ true
    → turns_behind o ≡ turn_at o.header.names o.header.words (o.turn + 1)
    ∷ turns_from o.header.names o.header.words (o.turn + 1 + 1)
    (turn_count o.header.names o.header.words - (o.turn + 1 + 1))
other-turn o false next = absurd cc
other-turn o true next =
    let less : o.turn + 1 < turn_count o.header.names o.header.words = grind
    (arith, nat_tests, next) in
    turns-begin o.header.names o.header.words (o.turn + 1) less

pub next-turns : (o next : OpenLoop) (goes_on : Bool) → IsNext o next → has_next o goes_on ≡ true
    → turns_behind o ≡ turn_of next ∷ turns_behind next
next-turns o next goes_on is more =
    rw (is.names, is.words, is.turn) (other-turn o goes_on more)
