-- The files of a generated world, piece by piece.
use denote.Ref.{Bor}
use Rattle.std.proofs.Common.{◌≡◌, ◌∙◌, ℕ, ◌+◌, ◌<◌, List, [], ◌∷◌, ◌++◌, length, take, get_or, map, sym, ap, append_assoc, codes, arith}
use Rattle.std.proofs.lemmas.List.{append-nil, take_more}
use Rattle.std.proofs.lemmas.List.Folds.{concat-append}
use Rattle.std.proofs.lemmas.List.FromFn.{map-range_with_len_more}
use Rattle.std.specs.List.{concat}
use Rattle.mk_bytes.specs.Bytes.{newline}
use Rattle.mk_world.specs.Sinks.{all_of}
use Rattle.mk_generate.specs.Input as spec

-- one piece more, behind a text
pub joined-next : (piece : ℕ → List ℕ) (first : List ℕ) (i : ℕ)
    → first ++ concat (map piece (spec.below (i + 1)))
    ≡ (first ++ concat (map piece (spec.below i))) ++ piece i
joined-next piece first i =
    ap (λ texts. first ++ concat texts) (map-range_with_len_more piece 0 i i (omega arith))
    ∙ ap (λ all. first ++ all) (concat-append (map piece (spec.below i)) (piece i ∷ []))
    ∙ (ap (λ last. first ++ (concat (map piece (spec.below i)) ++ last)) (append-nil (piece i))
    ∙ sym (append_assoc first (concat (map piece (spec.below i))) (piece i)))

-- all pieces but the last one, and this one
all_of-append : (pieces : List (Bor (List ℕ))) (last : Bor (List ℕ))
    → all_of (pieces ++ last ∷ []) ≡ all_of pieces ++ last.now
all_of-append [] last = append-nil last.now
all_of-append (piece ∷ pieces) last =
    ap (λ all. piece.now ++ all) (all_of-append pieces last)
    ∙ sym (append_assoc piece.now (all_of pieces) last.now)

-- the pieces up to a place, and the one there
pub all_of-take : (pieces : List (Bor (List ℕ))) (i : ℕ) (d : Bor (List ℕ)) (first : List ℕ)
    → i < length pieces
    → first ++ all_of (take (i + 1) pieces)
    ≡ (first ++ all_of (take i pieces)) ++ (get_or pieces i d).now
all_of-take pieces i d first within =
    ap (λ front. first ++ all_of front) (take_more pieces i d within)
    ∙ (ap (λ all. first ++ all) (all_of-append (take i pieces) (get_or pieces i d))
    ∙ sym (append_assoc first (all_of (take i pieces)) (get_or pieces i d).now))

-- the makefile, as it is written
pub makefile-pieces : (n : ℕ) → ((codes ".MAKE.MODE=meta curdirOk=yes missing-meta=yes missing-filemon=yes\nall:"
    ++ concat (map (λ i. spec.spaced (spec.target i)) (spec.below n)))
    ++ codes "\n.PHONY: all\n")
    ++ concat (map (spec.rule n) (spec.below n))
    ≡ spec.makefile_of n
makefile-pieces n =
    let targets = concat (map (λ i. spec.spaced (spec.target i)) (spec.below n)) in
    ap (λ behind.
    (codes ".MAKE.MODE=meta curdirOk=yes missing-meta=yes missing-filemon=yes\nall:" ++ behind)
    ++ concat (map (spec.rule n) (spec.below n)))
    (sym (append_assoc targets (newline ∷ []) (codes ".PHONY: all\n")))
