-- Running children of which nothing is seen.
use Rattle.std.proofs.Common.{
  ◌≡◌,
  Some,
  ℕ,
  suc,
  zero,
  List,
  [],
  ◌∷◌,
  ◌++◌,
  ◌<◌,
  length,
  take,
  drop,
  refl,
  sym,
  ◌∙◌,
  ap,
  take-append-drop,
  drop-cons,
}
use Rattle.std.specs.Prelude.{slice_get, slice_index, slice_set}
use Rattle.std.proofs.lemmas.Option.{same_Some}
use Rattle.std.specs.List.{remove}
use Rattle.mk_world.specs.Calls.{TakenOut}
use Rattle.mk_world.specs.Held.{Held}
use Rattle.mk_world.specs.KidsLent.{with_kid}

slice_set-same : (kids : List ℕ) (place kid : ℕ) → Some kid ≡ slice_get kids place
    → slice_set kids place kid ≡ kids
slice_set-same [] place kid is = refl
slice_set-same (first ∷ rest) zero kid is = ap (λ one. one ∷ rest) (same_Some kid first is)
slice_set-same (first ∷ rest) (suc place) kid is =
    ap (λ others. first ∷ others) (slice_set-same rest place kid is)

-- children of which one is used, and stays what it was, are as they were
pub with_kid_unchanged : (held : Held ℕ) (place kid : ℕ) → Some kid ≡ slice_get held.kids place
    → with_kid held place kid ≡ held
with_kid_unchanged held place kid is =
    ap (λ kids. record held { kids = kids }) (slice_set-same held.kids place kid is)

-- the ticket at a place is taken out
pub TakenOut-at : (place ticket : ℕ) (old new : List ℕ) → place < length old
    → ticket ≡ slice_index old place → new ≡ remove old place → TakenOut ticket old new
TakenOut-at place ticket old new within which rest = record {
  front = take place old;
  back = drop (suc place) old;
  was = sym (take-append-drop place old)
      ∙ ap (λ others. take place old ++ others)
      (drop-cons old place 0 within ∙ ap (λ first. first ∷ drop (suc place) old) (sym which));
  now = rest;
}
