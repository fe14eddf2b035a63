-- For which paths a pattern stands.
use Rattle.std.proofs.Common.{◌≡◌, ℕ, Bool, Result, Ok, Err, OnErr, true, false, ◌||◌, cond, List, [], ◌∷◌, ◌++◌, map, filter, Option, Some, None, IfSome, refl, sym, ap, subst, ◌∙◌, inl}
use Rattle.std.proofs.lemmas.Bool.{false≢true}
use Rattle.std.proofs.lemmas.Slice.Eq.{bytes_eq-Decides}
use Rattle.std.specs.Str.{bytes_eq}
use Rattle.mk_bytes.specs.Texts.{is_among}
use Rattle.mk_world.specs.Calls.{Adds, OwnNothing}
use Rattle.mk_world.specs.History.{State}
use Rattle.mk_world.specs.Listings.{AreInOrder}
use Rattle.mk_world.specs.Talks.{Meaning}
use Rattle.mk_world.specs.declared.history.Happening.{Happening}
use Rattle.mk_world.specs.declared.history.History.{History}
use Rattle.mk_world.proofs.CallLemmas.{adds_nothing}
use Rattle.mk_wild.specs.Names.{before_name, last_name, takes}
use Rattle.mk_wild.specs.Wild.{OwnAtMost, PatternsAreExact, taken, taken_of}
use Rattle.mk_wild.proofs.OrderLemmas.{behind-in-order, kept-in-order, none-in-order}

-- a name among those that a test keeps, behind a beginning
record Kept (start : List ℕ) (test : List ℕ → Bool) (names : List (List ℕ)) (path : List ℕ) : Type 0
  where
    name : List ℕ
    is : path ≡ start ++ name
    among : is_among names name ≡ true
    passes : test name ≡ true

abbrev kept : List ℕ → (List ℕ → Bool) → List (List ℕ) → List (List ℕ)
kept start test names = map (λ name. start ++ name) (filter test names)

or-true : (b : Bool) → (b || true) ≡ true
or-true true = refl
or-true false = refl

Kept-later : (start : List ℕ) (test : List ℕ → Bool) (one : List ℕ) (names : List (List ℕ))
    (path : List ℕ) → Kept start test names path → Kept start test (one ∷ names) path
Kept-later start test one names path found = record {
  name = found.name;
  is = found.is;
  among = ap (λ b. bytes_eq found.name one || b) found.among ∙ or-true (bytes_eq found.name one);
  passes = found.passes;
}

Kept-first : (start : List ℕ) (test : List ℕ → Bool) (one : List ℕ) (names : List (List ℕ))
    (path : List ℕ) (same : Bool) → bytes_eq path (start ++ one) ≡ same → test one ≡ true
    → (is_among (kept start test names) path ≡ true → Kept start test names path)
    → (same || is_among (kept start test names) path) ≡ true → Kept start test (one ∷ names) path
Kept-first start test one names path true same passes later is = record {
  name = one;
  is = (bytes_eq-Decides path (start ++ one)).0 same;
  among = ap (λ b. b || is_among names one) ((bytes_eq-Decides one one).1 refl);
  passes = passes;
}
Kept-first start test one names path false same passes later is =
    Kept-later start test one names path (later is)

Kept-by : (start : List ℕ) (test : List ℕ → Bool) (one : List ℕ) (names : List (List ℕ))
    (path : List ℕ) (passes : Bool) → test one ≡ passes
    → (is_among (kept start test names) path ≡ true → Kept start test names path)
    → is_among (map (λ name. start ++ name) (cond passes (one ∷ filter test names) (filter test names)))
    path ≡ true
    → Kept start test (one ∷ names) path
Kept-by start test one names path true passes later is =
    Kept-first start test one names path (bytes_eq path (start ++ one)) refl passes later is
Kept-by start test one names path false passes later is =
    Kept-later start test one names path (later is)

kept-from : (start : List ℕ) (test : List ℕ → Bool) (names : List (List ℕ)) (path : List ℕ)
    → is_among (kept start test names) path ≡ true → Kept start test names path
kept-from start test [] path is = cc
kept-from start test (one ∷ names) path is =
    Kept-by start test one names path (test one) refl (kept-from start test names path) is

among-later : (start : List ℕ) (test : List ℕ → Bool) (one : List ℕ) (names : List (List ℕ))
    (path : List ℕ) (passes : Bool) → is_among (kept start test names) path ≡ true
    → is_among (map (λ name. start ++ name) (cond passes (one ∷ filter test names) (filter test names)))
    path ≡ true
among-later start test one names path true is =
    ap (λ b. bytes_eq path (start ++ one) || b) is ∙ or-true (bytes_eq path (start ++ one))
among-later start test one names path false is = is

among-here : (start : List ℕ) (test : List ℕ → Bool) (one : List ℕ) (names : List (List ℕ))
    → test one ≡ true → is_among (kept start test (one ∷ names)) (start ++ one) ≡ true
among-here start test one names passes =
    ap (λ b. is_among (map (λ name. start ++ name) (cond b (one ∷ filter test names)
    (filter test names))) (start ++ one)) passes
    ∙ ap (λ b. b || is_among (kept start test names) (start ++ one))
    ((bytes_eq-Decides (start ++ one) (start ++ one)).1 refl)

among-by : (start : List ℕ) (test : List ℕ → Bool) (one name : List ℕ) (names : List (List ℕ))
    (same : Bool) → bytes_eq name one ≡ same → test name ≡ true
    → (is_among names name ≡ true → is_among (kept start test names) (start ++ name) ≡ true)
    → (same || is_among names name) ≡ true
    → is_among (kept start test (one ∷ names)) (start ++ name) ≡ true
among-by start test one name names true same passes later is =
    subst (λ n. is_among (kept start test (n ∷ names)) (start ++ name) ≡ true)
    ((bytes_eq-Decides name one).0 same) (among-here start test name names passes)
among-by start test one name names false same passes later is =
    among-later start test one names (start ++ name) (test one) (later is)

kept-to : (start : List ℕ) (test : List ℕ → Bool) (names : List (List ℕ)) (name : List ℕ)
    → test name ≡ true → is_among names name ≡ true
    → is_among (kept start test names) (start ++ name) ≡ true
kept-to start test [] name passes is = cc
kept-to start test (one ∷ names) name passes is =
    among-by start test one name names (bytes_eq name one) refl passes
    (kept-to start test names name passes) is

-- the paths that a pattern takes are in order
pub taken-in-order : (pattern : List ℕ) (names : Option (List (List ℕ))) → IfSome names AreInOrder
    → AreInOrder (taken pattern names)
taken-in-order pattern None ordered = none-in-order
taken-in-order pattern (Some names) ordered =
    behind-in-order (before_name pattern) (filter (λ name. takes (last_name pattern) name) names)
    (kept-in-order (λ name. takes (last_name pattern) name) names ordered)

pub patterns-are-exact : PatternsAreExact
patterns-are-exact store pattern None lists = record {
  ordered = none-in-order;
  are = λ path. (
    λ is. absurd cc,
    λ match. absurd (false≢true ((lists.1.are match.name).1 match.stands)),
  );
}
patterns-are-exact store pattern (Some names) lists = record {
  ordered = taken-in-order pattern (Some names) lists.1.ordered;
  are = λ path. (
    λ is.
        let found = kept-from (before_name pattern) (λ name. takes (last_name pattern) name) names path is
        in record {
          name = found.name;
          is = found.is;
          stands = (lists.1.are found.name).0 found.among;
          taken = found.passes;
        },
    λ match.
        subst (λ p. is_among (taken_of pattern names) p ≡ true) (sym match.is)
        (kept-to (before_name pattern) (λ name. takes (last_name pattern) name) names match.name
        match.taken ((lists.1.are match.name).1 match.stands)),
  );
}

-- no call was made
pub added-nothing : (meaning : Meaning) (told : Option History) → Adds meaning told told OwnNothing
added-nothing meaning None = tt
added-nothing meaning (Some history) = adds_nothing meaning OwnNothing history refl

-- less is said of what a call adds
pub adds-weaker : (meaning : Meaning) (before after : Option History)
    (Own Weaker : State → List Happening → Type 0)
    → ((state : State) (own : List Happening) → Own state own → Weaker state own)
    → Adds meaning before after Own → Adds meaning before after Weaker
adds-weaker meaning before None Own Weaker weaken adds = tt
adds-weaker meaning None (Some new) Own Weaker weaken adds = absurd adds
adds-weaker meaning (Some old) (Some new) Own Weaker weaken adds = record {
  early = adds.early;
  own = adds.own;
  late = adds.late;
  base = adds.base;
  events = adds.events;
  early_steps = adds.early_steps;
  late_steps = adds.late_steps;
  lawful = adds.lawful;
  is_own = weaken _ adds.own adds.is_own;
}

pub at-most-nothing : (meaning : Meaning) (before after : Option History) (dir : List ℕ)
    → Adds meaning before after OwnNothing → Adds meaning before after (OwnAtMost dir)
at-most-nothing meaning before after dir adds =
    adds-weaker meaning before after OwnNothing (OwnAtMost dir) (λ state own none. inl none) adds

pub on-err : {T E : Type 0} {Fact : Type 0} (result : Result T E) → Fact → OnErr result Fact
on-err (Ok given) fact = tt
on-err (Err fault) fact = fact
