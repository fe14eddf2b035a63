-- Pieces that show texts, and pieces of pieces.
use Rattle.std.proofs.Common.{◌≡◌, ℕ, ◌+◌, ◌-◌, ◌≤◌, ◌<◌, List, [], ◌∷◌, ◌++◌, length, take, drop, slice_range, refl, sym, ap, ◌∙◌, arith}
use Rattle.std.proofs.lemmas.Grind.{common_steps}
use Rattle.std.proofs.lemmas.List.{drop-take, take-take, drop-drop}
use Rattle.mk_pool.specs.declared.region.Piece.{Piece}
use Rattle.mk_pieces.specs.Limits.{total}
use Rattle.mk_pieces.specs.Pieces.{bytes_of, Shows, Begins}
use Rattle.mk_pieces.proofs.PieceLemmas.{length-begins, texts_of-begins, furthest-append, texts_of-append}

pub Shows-none : (region : List ℕ) → Shows region [] []
Shows-none region = record { within = omega arith; shown = refl }

pub Shows-begins : (old new : List ℕ) (pieces : List Piece) (texts : List (List ℕ))
    → Begins old new → Shows old pieces texts → Shows new pieces texts
Shows-begins old new pieces texts begins shows =
    let longer = length-begins old new begins in
    record {
      within = omega (arith, longer, shows.within);
      shown = texts_of-begins old new pieces begins shows.within ∙ shows.shown;
    }

pub Shows-append : (region : List ℕ) (first second : List Piece) (texts more : List (List ℕ))
    → Shows region first texts → Shows region second more
    → Shows region (first ++ second) (texts ++ more)
Shows-append region first second texts more shows others =
    record {
      within = rw (furthest-append first second) (omega (arith, shows.within, others.within));
      shown = rw (texts_of-append region first second, shows.shown, others.shown) refl;
    }

pub Shows-one : (region : List ℕ) (piece : Piece) (text : List ℕ) → piece.end ≤ length region
    → bytes_of region piece ≡ text → Shows region (piece ∷ []) (text ∷ [])
Shows-one region piece text within is =
    record { within = omega (arith, within); shown = ap (λ shown. shown ∷ []) is }

pub Shows-push : (region : List ℕ) (pieces : List Piece) (texts : List (List ℕ)) (piece : Piece)
    (text : List ℕ) → Shows region pieces texts → piece.end ≤ length region
    → bytes_of region piece ≡ text → Shows region (pieces ++ piece ∷ []) (texts ++ text ∷ [])
Shows-push region pieces texts piece text shows within is =
    Shows-append region pieces (piece ∷ []) texts (text ∷ []) shows
    (Shows-one region piece text within is)

-- a piece of a piece
pub bytes_of-inner : (region : List ℕ) (piece : Piece) (start end : ℕ) → start ≤ end
    → end ≤ length (bytes_of region piece)
    → bytes_of region (record { start = piece.start + start; end = piece.start + end })
    ≡ slice_range (bytes_of region piece) start end
bytes_of-inner region piece start end ordered within =
    let len = piece.end - piece.start in
    let behind = drop piece.start region in
    let short : end ≤ len = grind (arith, common_steps) in
    let whole : start + (len - start) ≡ len = omega (arith, short, ordered) in
    let cut : drop start (take len behind) ≡ take (len - start) (drop start behind) =
    ap (λ n. drop start (take n behind)) (sym whole) ∙ drop-take start (len - start) behind
    in
    let same : piece.start + end - (piece.start + start) ≡ end - start = omega arith in
    let less = take-take (end - start) (len - start) (drop start behind) (omega (arith, short)) in
    rw (cut, less, drop-drop, same)
    refl

-- a piece of a piece ends where that does, or before
pub inner-within : (region : List ℕ) (piece : Piece) (end : ℕ) → 0 < end
    → end ≤ length (bytes_of region piece) → piece.start + end ≤ piece.end
inner-within region piece end some within = grind (arith, common_steps)

-- what follows a place of a piece
pub bytes_of-behind : (region : List ℕ) (start end at : ℕ)
    → at < length (slice_range region start end)
    → slice_range region (start + at + 1) end ≡ drop (at + 1) (slice_range region start end)
bytes_of-behind region start end at within =
    let left = end - (start + at + 1) in
    let short : at < end - start = grind (arith, common_steps) in
    let whole : at + 1 + left ≡ end - start = omega (arith, short) in
    let same : start + (at + 1) ≡ start + at + 1 = omega arith in
    sym (ap (λ n. drop (at + 1) (take n (drop start region))) (sym whole)
    ∙ drop-take (at + 1) left (drop start region)
    ∙ ap (take left) (drop-drop (at + 1) start region ∙ ap (λ n. drop n region) same))

-- one more text
pub total-push : (texts : List (List ℕ)) (text : List ℕ)
    → total (texts ++ text ∷ []) ≡ total texts + length text
total-push [] text = omega arith
total-push (first ∷ texts) text = let rest = total-push texts text in omega (arith, rest)
