-- Texts of pieces that are chosen.
use Rattle.std.proofs.Common.{◌≡◌, ℕ, zero, suc, ◌+◌, ◌≤◌, Bool, true, false, List, [], ◌∷◌, drop, get_or, set, refl, sym, ap, ◌∙◌, arith}
use Rattle.std.proofs.lemmas.List.{drop-drop, drop-set-lt, get_or-drop}
use Rattle.std.specs.List.{filter, dedup_from}
use Rattle.std.specs.Str.{bytes_eq}
use Rattle.mk_pool.specs.declared.region.Piece.{Piece}
use Rattle.mk_pieces.specs.Pieces.{bytes_of, texts_of, furthest}

cases : {P : Type 0} (test : Bool) → (test ≡ true → P) → (test ≡ false → P) → P
cases true here there = here refl
cases false here there = there refl

-- a choice by what pieces show is a choice of what they show
pub texts_of-filter : (region : List ℕ) (test : List ℕ → Bool) (pieces : List Piece)
    → texts_of region (filter (λ piece. test (bytes_of region piece)) pieces)
    ≡ filter test (texts_of region pieces)
texts_of-filter region test [] = refl
texts_of-filter region test (piece ∷ pieces) =
    cases (test (bytes_of region piece))
    (λ is. rw is (ap (λ texts. bytes_of region piece ∷ texts) (texts_of-filter region test pieces)))
    (λ is. rw is (texts_of-filter region test pieces))

pub furthest-filter : (test : Piece → Bool) (pieces : List Piece)
    → furthest (filter test pieces) ≤ furthest pieces
furthest-filter test [] = omega arith
furthest-filter test (piece ∷ pieces) =
    let fewer = furthest-filter test pieces in
    cases (test piece)
    (λ is. rw is (omega (arith, fewer)))
    (λ is. rw is (omega (arith, fewer)))

-- one more word, the same as the last one or another
pub dedup_from-same : (word last : List ℕ) (words : List (List ℕ)) → bytes_eq word last ≡ true
    → dedup_from bytes_eq last (word ∷ words) ≡ dedup_from bytes_eq last words
dedup_from-same word last words is = rw is refl

pub dedup_from-other : (word last : List ℕ) (words : List (List ℕ)) → bytes_eq word last ≡ false
    → dedup_from bytes_eq last (word ∷ words) ≡ last ∷ dedup_from bytes_eq word words
dedup_from-other word last words is = rw is refl

pub furthest-set : (len : ℕ) (pieces : List Piece) (i : ℕ) (piece : Piece) → furthest pieces ≤ len
    → piece.end ≤ len → furthest (set pieces i piece) ≤ len
furthest-set len [] i piece before here = before
furthest-set len (first ∷ pieces) zero piece before here = omega (arith, before, here)
furthest-set len (first ∷ pieces) (suc i) piece before here =
    let there = furthest-set len pieces i piece (omega (arith, before)) here in
    omega (arith, before, there)

pub same_item : (pieces others : List Piece) (i : ℕ) (default : Piece) → drop i pieces ≡ drop i others
    → get_or pieces i default ≡ get_or others i default
same_item pieces others i default same =
    let same_index : i + 0 ≡ i = omega arith in
    let here = get_or-drop i pieces 0 default in
    let there = get_or-drop i others 0 default in
    rw same_index at (sym here ∙ ap (λ left. get_or left 0 default) same ∙ there)

pub same_left : (pieces others : List Piece) (i : ℕ) (piece : Piece) → drop i pieces ≡ drop i others
    → drop (i + 1) (set pieces i piece) ≡ drop (i + 1) others
same_left pieces others i piece same =
    drop-set-lt (i + 1) pieces i piece (omega arith)
    ∙ sym (drop-drop 1 i pieces) ∙ ap (drop 1) same ∙ drop-drop 1 i others
