-- What a sink gains by a call.
use denote.Ref.{Bor}
use Rattle.std.specs.Prelude.{◌≡◌, ℕ, List, [], ◌∷◌, ◌++◌, Option}
use Rattle.mk_world.specs.Told.{Told}

-- these bytes, at its end
abbrev pub Gains : Option (List ℕ) → Option (List ℕ) → List ℕ → Type 0
Gains before after bytes = Told before after (λ old new. new ≡ old ++ bytes)

-- a list begins another one
pub record Begins (part whole : List ℕ) : Type 0 where
  pub rest : List ℕ
  pub is : whole ≡ part ++ rest

-- a part of these bytes, from their beginning
abbrev pub GainsPart : Option (List ℕ) → Option (List ℕ) → List ℕ → Type 0
GainsPart before after bytes =
    Told before after (λ old new. (part : List ℕ) × Begins part bytes × (new ≡ old ++ part))

-- pieces, joined
abbrev pub all_of : List (Bor (List ℕ)) → List ℕ
all_of [] = []
all_of (piece ∷ pieces) = piece.now ++ all_of pieces
