-- A depth-first walk is done with each node that is reached once, and with no other.
use Rattle.std.proofs.Common.{◌≡◌, ◌∙◌, ◌↔◌, ◌⊎◌, ℕ, zero, suc, ◌+◌, ◌<◌, inl, inr, Bool, true, false, nat_eq, cond, ◌||◌, IsTrue}
use Rattle.std.proofs.Common.{List, [], ◌∷◌, ◌++◌, length, reverse, Ok, Err, refl, sym, ap, subst, arith, append_assoc, eq-eqb}
use Rattle.std.proofs.lemmas.Bool.{cond_both, or_cases, or_left, or_right, eqb-true, false≢true}
use Rattle.std.proofs.lemmas.List.{append-nil, reverse-append}
use Rattle.mk_bytes.specs.Agrees.{◌>>=◌}
use Rattle.mk_graph.specs.Closed.{Reaches, given, behind}
use Rattle.mk_graph.specs.Numbers.{AreBelow, EachBelow}
use Rattle.mk_graph.specs.Orders.{AreOnce, IsWhole, OrdersAreWhole}
use Rattle.mk_graph.specs.Walks.{is_among, preds_of, closed, Walked, Visit, all_visited, visited, walked, ordered_by, depth_first}
use Rattle.mk_graph.specs.declared.walk.Ordered.TheVariants.{Order, Cycle}
use Rattle.mk_graph.proofs.AmongLemmas.{head_among, tail_among, is_among-append}
use Rattle.mk_graph.proofs.DoneLemmas.{after_done, AreSettled, walked-done, walked-order, reached-done}

-- what is reached from predecessors of a node is reached from it
reached-through : (preds : List (List ℕ)) (n m : ℕ) → Reaches preds (preds_of preds n) m
    → Reaches preds (n ∷ []) m
reached-through preds n m (given among) = behind (given (head_among n [])) among
reached-through preds n m (behind {n = last} reached step) =
    behind (reached-through preds n last reached) step

-- what is reached from one of several nodes is reached from them
reached-first : (preds : List (List ℕ)) (n : ℕ) (more : List ℕ) (m : ℕ) → Reaches preds (n ∷ []) m
    → Reaches preds (n ∷ more) m
reached-first preds n more m (given among) =
    given (elim (or_cases (nat_eq m n) false among) [
      | inl same ↦ or_left (nat_eq m n) (is_among more m) same
      | inr none ↦ absurd (false≢true none)
    ])
reached-first preds n more m (behind {n = last} reached step) =
    behind (reached-first preds n more last reached) step

reached-later : (preds : List (List ℕ)) (n : ℕ) (more : List ℕ) (m : ℕ) → Reaches preds more m
    → Reaches preds (n ∷ more) m
reached-later preds n more m (given among) = given (tail_among n m more among)
reached-later preds n more m (behind {n = last} reached step) =
    behind (reached-later preds n more last reached) step

-- What nodes from which a walk goes on add to those that are done: each once, none that is on the
-- path, and what is reached from them.
record Adds (preds : List (List ℕ)) (path from done later : List ℕ) : Type 0 where
  once : AreOnce done → AreOnce later
  off : (m : ℕ) → is_among later m ≡ true → (is_among done m ≡ true) ⊎ (is_among path m ≡ false)
  reached : (m : ℕ) → is_among later m ≡ true → (is_among done m ≡ true) ⊎ Reaches preds from m

adds-none : (preds : List (List ℕ)) (path from done : List ℕ) → Adds preds path from done done
adds-none preds path from done =
    record { once = λ once. once; off = λ m among. inl among; reached = λ m among. inl among }

adds-all : (preds : List (List ℕ)) (path : List ℕ) (visit : Visit) (nodes done later : List ℕ)
    → ((n : ℕ) (done later : List ℕ) → visit done n ≡ Ok later → Adds preds path (n ∷ []) done later)
    → all_visited visit done nodes ≡ Ok later → Adds preds path nodes done later
unfolding all_visited
adds-all preds path visit [] done later each is =
    let same : done ≡ later = cc in
    subst (λ other. Adds preds path [] done other) same (adds-none preds path [] done)
adds-all preds path visit (n ∷ more) done later each is =
    after_done (visit done n) (λ next. all_visited visit next more) later
    (Adds preds path (n ∷ more) done later) is
    (λ next here rest.
    let first = each n done next here in
    let others = adds-all preds path visit more next later each rest in record {
      once = λ once. others.once (first.once once);
      off = λ m among. elim (others.off m among) [
        | inl before ↦ first.off m before
        | inr free ↦ inr free
      ];
      reached = λ m among. elim (others.reached m among) [
        | inl before ↦ elim (first.reached m before) [
          | inl earlier ↦ inl earlier
          | inr reached ↦ inr (reached-first preds n more m reached)
        ]
        | inr reached ↦ inr (reached-later preds n more m reached)
      ];
    })

on-path : (path : List ℕ) (n : ℕ) → is_among (path ++ n ∷ []) n ≡ true
on-path path n =
    is_among-append path n n ∙ or_right (is_among path n) (nat_eq n n) (eq-eqb n n refl)

off-path : (path : List ℕ) (n m : ℕ) → is_among (path ++ n ∷ []) m ≡ false → is_among path m ≡ false
off-path path n m is = left (is_among path m) (nat_eq m n) (sym (is_among-append path n m) ∙ is)
  where
    left : (a b : Bool) → (a || b) ≡ false → a ≡ false
    left true b is = absurd (false≢true (sym is))
    left false b is = refl

-- a node that is done last was not done, and neither was it while its predecessors were
new-node : (preds : List (List ℕ)) (path done inside : List ℕ) (n : ℕ)
    → is_among path n ≡ false → is_among done n ≡ false
    → Adds preds (path ++ n ∷ []) (preds_of preds n) done inside
    → Adds preds path (n ∷ []) done (n ∷ inside)
new-node preds path done inside n off fresh adds = record {
  once = λ once. (not-inside (is_among inside n) refl, adds.once once);
  off = λ m among. elim (or_cases (nat_eq m n) (is_among inside m) among) [
    | inl same ↦ inr (subst (λ k. is_among path k ≡ false) (sym (eqb-true m n same)) off)
    | inr later ↦ elim (adds.off m later) [
      | inl before ↦ inl before
      | inr free ↦ inr (off-path path n m free)
    ]
  ];
  reached = λ m among. elim (or_cases (nat_eq m n) (is_among inside m) among) [
    | inl same ↦ inr (given (or_left (nat_eq m n) false same))
    | inr later ↦ elim (adds.reached m later) [
      | inl before ↦ inl before
      | inr reached ↦ inr (reached-through preds n m reached)
    ]
  ];
}
  where
    not-inside : (b : Bool) → is_among inside n ≡ b → is_among inside n ≡ false
    not-inside true is = elim (adds.off n is) [
      | inl before ↦ absurd (false≢true (sym fresh ∙ before))
      | inr free ↦ absurd (false≢true (sym free ∙ on-path path n))
    ]
    not-inside false is = is

visited-adds : (room : ℕ) (preds : List (List ℕ)) (path done : List ℕ) (n : ℕ) (later : List ℕ)
    → visited room preds path done n ≡ Ok later → Adds preds path (n ∷ []) done later
unfolding visited
visited-adds zero preds path done n later is =
    let same : done ≡ later = cc in
    subst (λ other. Adds preds path (n ∷ []) done other) same (adds-none preds path (n ∷ []) done)
visited-adds (suc room) preds path done n later is =
    let on = path ++ n ∷ [] in
    let inner = all_visited (visited room preds on) done (preds_of preds n) in
    let new : Walked = inner >>= λ inside. Ok (n ∷ inside) in
    let old : Walked = cond (is_among done n) (Ok done) new in
    cond_both (is_among path n) (Err (closed path n)) old
    (λ r. r ≡ Ok later → Adds preds path (n ∷ []) done later)
    (λ on_it met. absurd cc)
    (λ off. cond_both (is_among done n) (Ok done) new
    (λ r. r ≡ Ok later → Adds preds path (n ∷ []) done later)
    (λ over met.
    let same : done ≡ later = cc in
    subst (λ other. Adds preds path (n ∷ []) done other) same
    (adds-none preds path (n ∷ []) done))
    (λ fresh met. after_done inner (λ inside. Ok (n ∷ inside)) later
    (Adds preds path (n ∷ []) done later) met
    (λ inside here last_is.
    let same : n ∷ inside ≡ later = cc in
    subst (λ other. Adds preds path (n ∷ []) done other) same
    (new-node preds path done inside n off fresh
    (adds-all preds on (visited room preds on) (preds_of preds n) done inside
    (λ m other_done other is_other. visited-adds room preds on other_done m other is_other) here)))))
    is

walked-adds : (preds : List (List ℕ)) (from done : List ℕ) → walked preds from ≡ Ok done
    → Adds preds [] from [] done
walked-adds preds from done is =
    adds-all preds [] (visited (suc (length preds)) preds []) from [] done
    (λ n before later here. visited-adds (suc (length preds)) preds [] before n later here) is

-- the same nodes, the first that was done first

among-turned : (done more : List ℕ) (m : ℕ)
    → is_among (reverse done ++ more) m ≡ (is_among done m || is_among more m)
among-turned [] more m = refl
among-turned (n ∷ done) more m =
    rw (reverse-append (n ∷ []) done, append_assoc)
    (among-turned done (n ∷ more) m
    ∙ exchanged (is_among done m) (nat_eq m n) (is_among more m))
  where
    exchanged : (a b c : Bool) → (a || (b || c)) ≡ ((b || a) || c)
    exchanged true true c = refl
    exchanged true false c = refl
    exchanged false true c = refl
    exchanged false false c = refl

once-turned : (done more : List ℕ) → AreOnce done → AreOnce more
    → ((m : ℕ) → is_among done m ≡ true → is_among more m ≡ false) → AreOnce (reverse done ++ more)
once-turned [] more once others apart = others
once-turned (n ∷ done) more once others apart =
    rw (reverse-append (n ∷ []) done, append_assoc)
    (once-turned done (n ∷ more) once.1 (apart n (head_among n done), others)
    (λ m among. both-false (nat_eq m n) (is_among more m) (other m among (nat_eq m n) refl)
    (apart m (tail_among n m done among))))
  where
    both-false : (a b : Bool) → a ≡ false → b ≡ false → (a || b) ≡ false
    both-false true b first second = absurd (false≢true (sym first))
    both-false false b first second = second

    other : (m : ℕ) → is_among done m ≡ true → (b : Bool) → nat_eq m n ≡ b → nat_eq m n ≡ false
    other m among true is =
        let here = subst (λ k. is_among done k ≡ true) (eqb-true m n is) among in
        absurd (false≢true (sym once.0 ∙ here))
    other m among false is = is

or-none : (b : Bool) → (b || false) ≡ b
or-none true = refl
or-none false = refl

among-reversed : (done : List ℕ) (m : ℕ) → is_among (reverse done) m ≡ is_among done m
among-reversed done m =
    ap (λ l. is_among l m) (sym (append-nil (reverse done)))
    ∙ (among-turned done [] m ∙ or-none (is_among done m))

whole-by : (preds : List (List ℕ)) (from done : List ℕ) → EachBelow (length preds) preds
    → AreBelow (length preds) from → walked preds from ≡ Ok done → IsWhole preds from (reverse done)
whole-by preds from done below within is =
    let adds = walked-adds preds from done is in
    let got = walked-done preds from done below within is in
    record {
      order_is = walked-order preds from done below within is;
      once = subst AreOnce (append-nil (reverse done))
          (once-turned done [] (adds.once tt) tt (λ m among. refl));
      reached = λ m. (
        (λ among. elim (adds.reached m (sym (among-reversed done m) ∙ among)) [
          | inl before ↦ absurd (false≢true before)
          | inr reached ↦ reached
        ]),
        (λ reached. among-reversed done m ∙ reached-done preds from done m got.0 got.1 reached),
      );
    }

ordered-is : (r : Walked) (order : List ℕ) → ordered_by r ≡ Order order
    → (done : List ℕ) × (r ≡ Ok done) × (reverse done ≡ order)
ordered-is (Ok done) order is = let same : reverse done ≡ order = cc in (done, refl, same)
ordered-is (Err walk) order is = absurd cc

pub orders_whole : OrdersAreWhole
orders_whole preds from order below within is =
    let done = ordered-is (walked preds from) order is in
    subst (IsWhole preds from) done.2 (whole-by preds from done.0 below within done.1)
