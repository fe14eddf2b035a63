-- Pieces of a region that grows.
use Rattle.std.proofs.Common.{◌≡◌, ℕ, ◌+◌, ◌-◌, ◌≤◌, List, [], ◌∷◌, ◌++◌, length, take, drop, max, get_or, zero, suc, ◌<◌, refl, sym, ap, ◌∙◌, arith}
use Rattle.std.proofs.Common.{slice_range, length-append, append_assoc}
use Rattle.std.proofs.Math.Seq.{take-append-add, drop-append_seam, take-length}
use Rattle.std.proofs.lemmas.Grind.{common_steps}
use Rattle.std.proofs.lemmas.List.{drop_more}
use Rattle.mk_pool.specs.declared.region.Piece.{Piece}
use Rattle.mk_pool.proofs.RegionLemmas.{slice_range-take}
use Rattle.mk_pieces.specs.Pieces.{bytes_of, texts_of, furthest, Begins}

pub Begins-append : (old more : List ℕ) → Begins old (old ++ more)
Begins-append old more = grind (arith, common_steps)

pub Begins-under : (old first second : List ℕ) → Begins first second
    → Begins (old ++ first) (old ++ second)
Begins-under old first second begins =
    rw (length-append, take-append-add old second (length first), begins) refl

-- bytes that come behind others in a region
pub bytes_of-new : (region before text : List ℕ) (start end : ℕ)
    → start ≡ length region + length before → end ≡ length region + length (before ++ text)
    → bytes_of (region ++ (before ++ text)) (record { start = start; end = end }) ≡ text
bytes_of-new region before text start end first last =
    let at : start ≡ length (region ++ before) = rw length-append first in
    let long : length (before ++ text) ≡ length before + length text = rw length-append refl in
    let len : end - start ≡ length text = omega (arith, first, last, long) in
    let there : drop start (region ++ (before ++ text)) ≡ text =
    ap (drop start) (sym (append_assoc region before text))
    ∙ ap (λ n. drop n ((region ++ before) ++ text)) at
    ∙ drop-append_seam (region ++ before) text
    in
    rw (there, len) (take-length text)

pub Begins-refl : (old : List ℕ) → Begins old old
Begins-refl old = grind (arith, common_steps)

pub length-begins : (old new : List ℕ) → Begins old new → length old ≤ length new
length-begins old new begins =
    let len : length (take (length old) new) ≡ length old = ap length begins in
    grind (arith, common_steps, len)

pub Begins-trans : (first second third : List ℕ)
    → Begins first second → Begins second third → Begins first third
Begins-trans first second third before after =
    let short = length-begins first second before in
    let cut : take (length first) (take (length second) third) ≡ take (length first) third =
    grind (arith, common_steps)
    in
    sym cut ∙ ap (take (length first)) after ∙ before

-- a piece shows the same where more bytes are placed
pub bytes_of-begins : (old new : List ℕ) (piece : Piece) → Begins old new
    → piece.end ≤ length old → bytes_of new piece ≡ bytes_of old piece
bytes_of-begins old new piece begins within =
    sym (slice_range-take new piece.start piece.end (length old) within
    (length-begins old new begins))
    ∙ ap (λ all. slice_range all piece.start piece.end) begins

pub texts_of-begins : (old new : List ℕ) (pieces : List Piece) → Begins old new
    → furthest pieces ≤ length old → texts_of new pieces ≡ texts_of old pieces
texts_of-begins old new [] begins within = refl
texts_of-begins old new (piece ∷ pieces) begins within =
    let here : piece.end ≤ length old = omega (arith, within) in
    let there : furthest pieces ≤ length old = omega (arith, within) in
    rw (bytes_of-begins old new piece begins here, texts_of-begins old new pieces begins there) refl

pub furthest-append : (first second : List Piece)
    → furthest (first ++ second) ≡ max (furthest first) (furthest second)
furthest-append [] second = omega arith
furthest-append (piece ∷ first) second = rw (furthest-append first second) (omega arith)

pub texts_of-append : (region : List ℕ) (first second : List Piece)
    → texts_of region (first ++ second) ≡ texts_of region first ++ texts_of region second
texts_of-append region [] second = refl
texts_of-append region (piece ∷ first) second =
    ap (λ texts. bytes_of region piece ∷ texts) (texts_of-append region first second)

pub texts_of-push : (region : List ℕ) (pieces : List Piece) (piece : Piece)
    → texts_of region (pieces ++ piece ∷ []) ≡ texts_of region pieces ++ bytes_of region piece ∷ []
texts_of-push region pieces piece = texts_of-append region pieces (piece ∷ [])

pub furthest-push : (len : ℕ) (pieces : List Piece) (piece : Piece) → furthest pieces ≤ len
    → piece.end ≤ len → furthest (pieces ++ piece ∷ []) ≤ len
furthest-push len pieces piece before here =
    rw (furthest-append pieces (piece ∷ [])) (omega (arith, before, here))

pub furthest-at : (pieces : List Piece) (i : ℕ) (default : Piece) → i < length pieces
    → (get_or pieces i default).end ≤ furthest pieces
furthest-at [] i default within = absurd (omega arith)
furthest-at (piece ∷ pieces) zero default within = omega arith
furthest-at (piece ∷ pieces) (suc i) default within =
    let there = furthest-at pieces i default (omega (arith, within)) in omega (arith, there)

-- the texts of the pieces from a place on
pub texts_of-more : (region : List ℕ) (pieces : List Piece) (i : ℕ) (default : Piece)
    → i < length pieces
    → texts_of region (drop i pieces)
    ≡ bytes_of region (get_or pieces i default) ∷ texts_of region (drop (i + 1) pieces)
texts_of-more region pieces i default within = ap (texts_of region) (drop_more pieces i default within)
