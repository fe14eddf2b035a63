-- The marks of nodes, and what is left of a walk by the mark of its next node.
use Rattle.std.proofs.Common.{◌≡◌, ℕ, zero, suc, ◌<◌, ◌≤◌, inl, inr, Bool, true, false}
use Rattle.std.proofs.Common.{nat_eq, cond, List, [], ◌∷◌, ◌++◌, length, get_or, set, Ok, Err}
use Rattle.std.proofs.Common.{refl, sym, ◌∙◌, arith, length-append, eq-eqb}
use Rattle.std.proofs.lemmas.Bool.{cases_eq, ne_eqb, or_right}
use Rattle.std.proofs.lemmas.List.{get_or-set_same, get_or-set_other}
use Rattle.mk_bytes.specs.Agrees.{◌>>=◌}
use Rattle.mk_graph.specs.Steps.{Frame, entered, AreWithin, path_of, mark_of, AreApart}
use Rattle.mk_graph.specs.Steps.{outer_left, left}
use Rattle.mk_graph.specs.Walks.{is_among, preds_of, closed, Walked, all_visited, visited}
use Rattle.mk_graph.specs.declared.walk.Mark.{Mark}
use Rattle.mk_graph.specs.declared.walk.Mark.TheVariants.{New, OnPath, Done}
use Rattle.mk_graph.proofs.AmongLemmas.{or-false, is_among-append, IsPath, IsPath-none}
use Rattle.mk_graph.proofs.AmongLemmas.{IsPath-append, path_length}

-- what the marks mean
pub on_path : (on over : Bool) → cond on OnPath (cond over Done New) ≡ OnPath → on ≡ true
on_path true over is = refl
on_path false true is = absurd cc
on_path false false is = absurd cc

pub is_over : (on over : Bool) → cond on OnPath (cond over Done New) ≡ Done
    → (on ≡ false) × (over ≡ true)
is_over true over is = absurd cc
is_over false true is = (refl, refl)
is_over false false is = absurd cc

pub is_new : (on over : Bool) → cond on OnPath (cond over Done New) ≡ New
    → (on ≡ false) × (over ≡ false)
is_new true over is = absurd cc
is_new false true is = absurd cc
is_new false false is = (refl, refl)

-- visits, by these marks
visited-on : (room : ℕ) (preds : List (List ℕ)) (path done : List ℕ) (n : ℕ)
    → is_among path n ≡ true → visited (suc room) preds path done n ≡ Err (closed path n)
unfolding visited
visited-on room preds path done n on = rw on refl

visited-over : (room : ℕ) (preds : List (List ℕ)) (path done : List ℕ) (n : ℕ)
    → is_among path n ≡ false → is_among done n ≡ true
    → visited room preds path done n ≡ Ok done
unfolding visited
visited-over zero preds path done n off over = refl
visited-over (suc room) preds path done n off over = rw (off, over) refl

visited-new : (room : ℕ) (preds : List (List ℕ)) (path done : List ℕ) (n : ℕ)
    → is_among path n ≡ false → is_among done n ≡ false
    → visited (suc room) preds path done n
    ≡ (all_visited (visited room preds (path ++ n ∷ [])) done (preds_of preds n)
    >>= λ later. Ok (n ∷ later))
unfolding visited
visited-new room preds path done n off fresh = rw (off, fresh) refl

-- the steps behind a node that is done inside
through : (inner : Walked) (n : ℕ) (next last : List ℕ → Walked)
    → (((inner >>= λ later. Ok (n ∷ later)) >>= next) >>= last)
    ≡ (inner >>= λ later. next (n ∷ later) >>= last)
through (Ok later) n next last = refl
through (Err walk) n next last = refl

-- what is left, by the first node of the list
pub left-over : (preds : List (List ℕ)) (marks : List Mark) (path : List Frame) (n : ℕ)
    (more done : List ℕ) (room : ℕ) → is_among (path_of path) n ≡ false → is_among done n ≡ true
    → left preds room (record { marks = marks; path = path; rest = n ∷ more }) done
    ≡ left preds room (record { marks = marks; path = path; rest = more }) done
unfolding all_visited
left-over preds marks path n more done room off over =
    rw (visited-over room preds (path_of path) done n off over) refl

pub left-on : (preds : List (List ℕ)) (marks : List Mark) (path : List Frame) (n : ℕ)
    (more done : List ℕ) (room : ℕ) → is_among (path_of path) n ≡ true
    → left preds (suc room) (record { marks = marks; path = path; rest = n ∷ more }) done
    ≡ Err (closed (path_of path) n)
unfolding all_visited
left-on preds marks path n more done room on =
    rw (visited-on room preds (path_of path) done n on) refl

pub left-new : (preds : List (List ℕ)) (marks : List Mark) (path : List Frame) (n : ℕ)
    (more done : List ℕ) (room : ℕ) → is_among (path_of path) n ≡ false
    → is_among done n ≡ false
    → left preds (suc room) (record { marks = marks; path = path; rest = n ∷ more }) done
    ≡ left preds room (entered preds (record { marks = marks; path = path; rest = more }) n) done
unfolding all_visited outer_left
left-new preds marks path n more done room off fresh =
    rw (visited-new room preds (path_of path) done n off fresh)
    (through
    (all_visited (visited room preds (path_of path ++ n ∷ [])) done (preds_of preds n)) n
    (λ later. all_visited (visited (suc room) preds (path_of path)) later more)
    (λ later. outer_left preds (suc room) path later))

-- a path of frames is a path
frames_path : (bound : ℕ) (path : List Frame) → AreWithin bound path → AreApart path
    → IsPath bound (path_of path)
frames_path bound [] within apart = IsPath-none bound
frames_path bound (frame ∷ path) within apart =
    IsPath-append bound (path_of path) frame.node (frames_path bound path within.2 apart.1)
    apart.0 within.0

-- it has as many nodes as frames
length-path_of : (path : List Frame) → length (path_of path) ≡ length path
length-path_of [] = refl
length-path_of (frame ∷ path) =
    let longer = length-append (path_of path) (frame.node ∷ []) in
    omega (arith, longer, length-path_of path)

-- so a walk has room for the nodes of its list
pub has_room : (bound : ℕ) (path : List Frame) → AreWithin bound path → AreApart path
    → length path ≤ bound
has_room bound path within apart =
    omega (
      arith,
      length-path_of path,
      path_length bound (path_of path)
          (frames_path bound path within apart),
    )

-- marks, as nodes get onto the path and are done
mark_of-path : (path done : List ℕ) (n q : ℕ) → (q ≡ n → ⊥)
    → mark_of (path ++ n ∷ []) done q ≡ mark_of path done q
mark_of-path path done n q other =
    let apart = ne_eqb q n other in
    rw (is_among-append path n q, apart, or-false (is_among path q)) refl

pub marks-entered : (preds : List (List ℕ)) (marks : List Mark) (path done : List ℕ) (n : ℕ)
    → length marks ≡ length preds → n < length preds
    → ((q : ℕ) → q < length preds → get_or marks q New ≡ mark_of path done q)
    → (q : ℕ) → q < length preds
    → get_or (set marks n OnPath) q New ≡ mark_of (path ++ n ∷ []) done q
marks-entered preds marks path done n as_many within are q less =
    elim (cases_eq q n) [
      | inl same ↦
          let at = get_or-set_same marks n OnPath New (omega (arith, as_many)) in
          let on = is_among-append path n q in
          let here = or_right (is_among path q) (nat_eq q n) (eq-eqb q n same) in
          rw (on, here, same) at
      | inr other ↦
          let at = get_or-set_other marks n q OnPath New other in
          at ∙ are q less ∙ sym (mark_of-path path done n q other)
    ]

pub marks-back : (preds : List (List ℕ)) (marks : List Mark) (path done : List ℕ) (n : ℕ)
    → length marks ≡ length preds → n < length preds → is_among path n ≡ false
    → ((q : ℕ) → q < length preds → get_or marks q New ≡ mark_of (path ++ n ∷ []) done q)
    → (q : ℕ) → q < length preds → get_or (set marks n Done) q New ≡ mark_of path (n ∷ done) q
marks-back preds marks path done n as_many within off are q less =
    elim (cases_eq q n) [
      | inl same ↦
          let at = get_or-set_same marks n Done New (omega (arith, as_many)) in
          let itself = eq-eqb n n refl in
          rw (same, off, itself) at
      | inr other ↦
          let at = get_or-set_other marks n q Done New other in
          let apart = ne_eqb q n other in
          rw apart (at ∙ are q less ∙ mark_of-path path done n q other)
    ]
