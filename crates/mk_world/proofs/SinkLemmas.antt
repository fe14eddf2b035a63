-- What a sink gains by several calls.
use denote.Ref.{Bor}
use Rattle.std.proofs.Common.{◌≡◌, ℕ, ◌+◌, ◌<◌, List, [], ◌++◌, length, drop, get_or, Option, Some, None, Result, Ok, Err, OnErr, sym, ap, ◌∙◌, append_assoc}
use Rattle.std.proofs.lemmas.List.{append-nil, drop_more}
use Rattle.mk_world.specs.Sinks.{Gains, GainsPart, all_of}

-- without a call it gains nothing
pub Gains-nothing : (held : Option (List ℕ)) → Gains held held []
Gains-nothing None = tt
Gains-nothing (Some bytes) = sym (append-nil bytes)

-- one gain after another
pub Gains-then : (a b c : Option (List ℕ)) (x y : List ℕ) → Gains a b x → Gains b c y
    → Gains a c (x ++ y)
Gains-then a b None x y first second = tt
Gains-then a None (Some c) x y first second = absurd second
Gains-then None (Some b) (Some c) x y first second = absurd first
Gains-then (Some a) (Some b) (Some c) x y first second =
    second ∙ ap (λ l. l ++ y) first ∙ append_assoc a x y

-- a part of some bytes is a part of more
pub GainsPart-more : (a b : Option (List ℕ)) (x y : List ℕ) → GainsPart a b x
    → GainsPart a b (x ++ y)
GainsPart-more a None x y gained = tt
GainsPart-more None (Some b) x y gained = gained
GainsPart-more (Some a) (Some b) x y gained = (
  gained.0,
  record {
    rest = gained.1.rest ++ y;
    is = ap (λ l. l ++ y) gained.1.is
        ∙ append_assoc gained.0 gained.1.rest y;
  },
  gained.2,
)

-- a gain, and then a part of the rest
pub GainsPart-then : (a b c : Option (List ℕ)) (x y : List ℕ) → Gains a b x → GainsPart b c y
    → GainsPart a c (x ++ y)
GainsPart-then a b None x y first second = tt
GainsPart-then a None (Some c) x y first second = absurd second
GainsPart-then None (Some b) (Some c) x y first second = absurd first
GainsPart-then (Some a) (Some b) (Some c) x y first second = (
  x ++ second.0,
  record {
    rest = second.1.rest;
    is = ap (λ l. x ++ l) second.1.is
        ∙ sym (append_assoc x second.0 second.1.rest);
  },
  second.2 ∙ ap (λ l. l ++ second.0) first ∙ append_assoc a x second.0,
)

-- what holds anyway, holds at a refusal
pub OnErr-from : {T E P : Type 0} (r : Result T E) → P → OnErr r P
OnErr-from (Ok x) p = tt
OnErr-from (Err e) p = p

-- the pieces from a place on: the one there, and those behind it
pub all_of-drop : (pieces : List (Bor (List ℕ))) (i : ℕ) (d : Bor (List ℕ)) → i < length pieces
    → all_of (drop i pieces) ≡ (get_or pieces i d).now ++ all_of (drop (i + 1) pieces)
all_of-drop pieces i d within = ap all_of (drop_more pieces i d within)
