-- Pieces of a region, and the texts that they show.
use Rattle.std.specs.Prelude.{◌≡◌, ℕ, ◌≤◌, max, List, [], ◌∷◌, length, take, map, slice_range}
use Rattle.mk_pool.specs.declared.region.Piece.{Piece}

-- the bytes of a piece, and those of each of some pieces
abbrev pub bytes_of : List ℕ → Piece → List ℕ
bytes_of region piece = slice_range region piece.start piece.end

abbrev pub texts_of : List ℕ → List Piece → List (List ℕ)
texts_of region pieces = map (bytes_of region) pieces

-- the greatest end of pieces
abbrev pub furthest : List Piece → ℕ
furthest [] = 0
furthest (piece ∷ pieces) = max piece.end (furthest pieces)

-- old bytes are the beginning of the new ones
abbrev pub Begins : List ℕ → List ℕ → Type 0
Begins old new = take (length old) new ≡ old

-- pieces that lie in a region and show texts
pub record Shows (region : List ℕ) (pieces : List Piece) (texts : List (List ℕ)) : Type 0 where
  pub within : furthest pieces ≤ length region
  pub shown : texts_of region pieces ≡ texts
