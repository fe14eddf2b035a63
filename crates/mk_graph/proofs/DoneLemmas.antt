-- What a depth-first walk is done with, and that no closed walk is there where none is met.
use Rattle.std.proofs.Common.{◌≡◌, ℕ, zero, suc, ◌+◌, ◌<◌, inl, inr, true, nat_eq, cond}
use Rattle.std.proofs.Common.{List, [], ◌∷◌, ◌++◌, length, Ok, Err, None, Some, refl, sym, ap}
use Rattle.std.proofs.Common.{subst, arith, length-append, append_assoc, reverse}
use Rattle.std.proofs.lemmas.List.{append-nil, reverse-append}
use Rattle.std.proofs.lemmas.Bool.{cond_both, or_cases, eqb-true, false≢true}
use Rattle.mk_bytes.specs.Agrees.{◌>>=◌}
use Rattle.mk_graph.specs.Closed.{IsWalk, Reaches, given, behind, NoneCloses}
use Rattle.mk_graph.specs.Numbers.{AreBelow, EachBelow}
use Rattle.mk_graph.specs.Orders.{AreAmong, AreBehind, IsOrder}
use Rattle.mk_graph.specs.Walks.{is_among, preds_of, closed, Walked, Visit, all_visited, visited}
use Rattle.mk_graph.specs.Walks.{walk_met, walked, first_cycle, ordered_by, depth_first}
use Rattle.mk_graph.specs.declared.walk.Ordered.TheVariants.{Order, Cycle}
use Rattle.mk_graph.proofs.AmongLemmas.{head_among, tail_among, AreAmong-at, IsPath}
use Rattle.mk_graph.proofs.AmongLemmas.{IsPath-none, IsPath-append, path_length, preds-below}

-- nodes are done where both steps are
pub after_done : (first : Walked) (next : List ℕ → Walked) (later : List ℕ) (P : Type 0)
    → (first >>= next) ≡ Ok later
    → ((done : List ℕ) → first ≡ Ok done → next done ≡ Ok later → P) → P
after_done (Ok done) next later P is goes = goes done refl is
after_done (Err met) next later P is goes = absurd cc

-- nodes alone are done, the predecessors of each before it
abbrev pub AreSettled : List (List ℕ) → List ℕ → Type 0
AreSettled preds [] = Unit {0}
AreSettled preds (n ∷ done) =
    (n < length preds) × AreAmong done (preds_of preds n) × AreSettled preds done

record Grows (preds : List (List ℕ)) (done later : List ℕ) : Type 0 where
  settled : AreSettled preds later
  keeps : (m : ℕ) → is_among done m ≡ true → is_among later m ≡ true

-- several nodes are done where each is
all-done : (preds : List (List ℕ)) (bound : ℕ) (visit : Visit) (nodes done later : List ℕ)
    → ((n : ℕ) (done later : List ℕ) → n < bound → visit done n ≡ Ok later
    → AreSettled preds done → Grows preds done later × (is_among later n ≡ true))
    → AreBelow bound nodes → all_visited visit done nodes ≡ Ok later → AreSettled preds done
    → Grows preds done later × AreAmong later nodes
unfolding all_visited
all-done preds bound visit [] done later each below is settled =
    let same : done ≡ later = cc in
    subst (λ other. Grows preds done other × AreAmong other []) same
    (record { settled = settled; keeps = λ m among. among }, tt)
all-done preds bound visit (n ∷ more) done later each below is settled =
    after_done (visit done n) (λ next. all_visited visit next more) later
    (Grows preds done later × AreAmong later (n ∷ more)) is
    (λ next here rest.
    let first = each n done next below.0 here settled in
    let others = all-done preds bound visit more next later each below.1 rest first.0.settled in (
      record {
        settled = others.0.settled;
        keeps = λ m among. others.0.keeps m (first.0.keeps m among);
      },
      (others.0.keeps n first.1, others.1),
    ))

-- a visit is done with its node once all its predecessors are
visited-done : (room : ℕ) (preds : List (List ℕ)) (path done : List ℕ) (n : ℕ) (later : List ℕ)
    → room + length path ≡ suc (length preds) → IsPath (length preds) path
    → EachBelow (length preds) preds → n < length preds
    → visited room preds path done n ≡ Ok later → AreSettled preds done
    → Grows preds done later × (is_among later n ≡ true)
unfolding visited
visited-done zero preds path done n later room whole below within is settled =
    absurd (omega (arith, room, path_length (length preds) path whole))
visited-done (suc room) preds path done n later rooms whole below within is settled =
    let bound = length preds in
    let on_path = path ++ n ∷ [] in
    let inner = all_visited (visited room preds on_path) done (preds_of preds n) in
    let new : Walked = inner >>= λ done_inside. Ok (n ∷ done_inside) in
    let old : Walked = cond (is_among done n) (Ok done) new in
    let longer = length-append path (n ∷ []) in
    cond_both (is_among path n) (Err (closed path n)) old
    (λ r. r ≡ Ok later → Grows preds done later × (is_among later n ≡ true))
    (λ on met. absurd cc)
    (λ off. cond_both (is_among done n) (Ok done) new
    (λ r. r ≡ Ok later → Grows preds done later × (is_among later n ≡ true))
    (λ over met.
    let same : done ≡ later = cc in
    subst (λ other. Grows preds done other × (is_among other n ≡ true)) same
    (record { settled = settled; keeps = λ m among. among }, over))
    (λ fresh met. after_done inner (λ done_inside. Ok (n ∷ done_inside)) later
    (Grows preds done later × (is_among later n ≡ true)) met
    (λ inside here last_is.
    let same : n ∷ inside ≡ later = cc in
    let got = all-done preds bound (visited room preds on_path) (preds_of preds n) done inside
    (λ m other_done other less is_other settled_other.
    visited-done room preds on_path other_done m other (omega (arith, rooms, longer))
    (IsPath-append bound path n whole off within) below less is_other settled_other)
    (preds-below bound preds n below) here settled in
    subst (λ other. Grows preds done other × (is_among other n ≡ true)) same (
      record {
        settled = (within, got.1, got.0.settled);
        keeps = λ m among. tail_among n m inside (got.0.keeps m among);
      },
      head_among n inside,
    ))))
    is

-- from a node that is done one comes to such nodes alone
settled-next : (preds : List (List ℕ)) (done : List ℕ) (n next : ℕ) → AreSettled preds done
    → is_among done n ≡ true → is_among (preds_of preds n) next ≡ true → is_among done next ≡ true
settled-next preds [] n next settled among step = absurd (false≢true among)
settled-next preds (one ∷ done) n next settled among step =
    elim (or_cases (nat_eq n one) (is_among done n) among) [
      | inl same ↦
          let is = eqb-true n one same in
          let here = subst (λ m. is_among (preds_of preds m) next ≡ true) is step in
          tail_among one next done (AreAmong-at done (preds_of preds one) next settled.1 here)
      | inr later ↦ tail_among one next done (settled-next preds done n next settled.2 later step)
    ]

-- and by a whole walk too
settled-end : (preds : List (List ℕ)) (done : List ℕ) (n stop : ℕ) (inner : List ℕ)
    → AreSettled preds done → is_among done n ≡ true → IsWalk preds n (inner ++ stop ∷ [])
    → is_among done stop ≡ true
settled-end preds done n stop [] settled among walks =
    settled-next preds done n stop settled among walks.0
settled-end preds done n stop (next ∷ more) settled among walks =
    settled-end preds done next stop more settled
    (settled-next preds done n next settled among walks.0) walks.1

-- a walk from the last node that was done comes to earlier ones alone
last-end : (preds : List (List ℕ)) (done : List ℕ) (n stop : ℕ) (inner : List ℕ)
    → AreAmong done (preds_of preds n) → AreSettled preds done
    → IsWalk preds n (inner ++ stop ∷ []) → is_among done stop ≡ true
last-end preds done n stop [] all settled walks =
    AreAmong-at done (preds_of preds n) stop all walks.0
last-end preds done n stop (next ∷ more) all settled walks =
    settled-end preds done next stop more settled
    (AreAmong-at done (preds_of preds n) next all walks.0) walks.1

-- so no node that is done lies on a closed walk
settled-open : (preds : List (List ℕ)) (done : List ℕ) (n : ℕ) (inner : List ℕ)
    → AreSettled preds done → is_among done n ≡ true → IsWalk preds n (inner ++ n ∷ []) → ⊥
settled-open preds [] n inner settled among walks = false≢true among
settled-open preds (one ∷ done) n inner settled among walks =
    elim (or_cases (nat_eq n one) (is_among done n) among) [
      | inl same ↦
          let is = eqb-true n one same in
          let all = subst (λ m. AreAmong done (preds_of preds m)) (sym is) settled.1 in
          settled-open preds done n inner settled.2
          (last-end preds done n n inner all settled.2 walks) walks
      | inr later ↦ settled-open preds done n inner settled.2 later walks
    ]

-- all that are reached are done
pub reached-done : (preds : List (List ℕ)) (from done : List ℕ) (n : ℕ) → AreSettled preds done
    → AreAmong done from → Reaches preds from n → is_among done n ≡ true
reached-done preds from done n settled all (given among) = AreAmong-at done from n all among
reached-done preds from done n settled all (behind {n = last} reached step) =
    settled-next preds done last n settled (reached-done preds from done last settled all reached)
    step

-- the walk went to its end
none_met : (r : Walked) → walk_met r ≡ None → (done : List ℕ) × (r ≡ Ok done)
none_met (Ok done) is = (done, refl)
none_met (Err met) is = absurd cc

-- so is a whole walk that went to its end
pub walked-done : (preds : List (List ℕ)) (from done : List ℕ) → EachBelow (length preds) preds
    → AreBelow (length preds) from → walked preds from ≡ Ok done
    → AreSettled preds done × AreAmong done from
walked-done preds from done below within is =
    let bound = length preds in
    let got = all-done preds bound (visited (suc bound) preds []) from [] done
    (λ n before later less is_later settled.
    visited-done (suc bound) preds [] before n later (omega arith) (IsPath-none bound) below less
    is_later settled)
    within is tt in
    (got.0.settled, got.1)

-- the nodes that are done, the first of them first
below-turned : (preds : List (List ℕ)) (done more : List ℕ) → AreSettled preds done
    → AreBelow (length preds) more → AreBelow (length preds) (reverse done ++ more)
below-turned preds [] more settled below = below
below-turned preds (n ∷ done) more settled below =
    rw (reverse-append (n ∷ []) done, append_assoc)
    (below-turned preds done (n ∷ more) settled.2 (settled.0, below))

behind-turned : (preds : List (List ℕ)) (done more : List ℕ) → AreSettled preds done
    → AreBehind preds done more → AreBehind preds [] (reverse done ++ more)
behind-turned preds [] more settled holds = holds
behind-turned preds (n ∷ done) more settled holds =
    rw (reverse-append (n ∷ []) done, append_assoc)
    (behind-turned preds done (n ∷ more) settled.2 (settled.1, holds))

-- each node is done behind its predecessors
pub walked-order : (preds : List (List ℕ)) (from done : List ℕ) → EachBelow (length preds) preds
    → AreBelow (length preds) from → walked preds from ≡ Ok done → IsOrder preds (reverse done)
walked-order preds from done below within is =
    let got = walked-done preds from done below within is in
    record {
      within = subst (AreBelow (length preds)) (append-nil (reverse done))
          (below-turned preds done [] got.0 tt);
      behind = subst (AreBehind preds []) (append-nil (reverse done))
          (behind-turned preds done [] got.0 tt);
    }

-- where none is met, there is none
pub first_cycle-none : (preds : List (List ℕ)) (from : List ℕ) → EachBelow (length preds) preds
    → AreBelow (length preds) from → first_cycle preds from ≡ None → NoneCloses preds from
first_cycle-none preds from below within is =
    let over = none_met (walked preds from) is in
    let got = walked-done preds from over.0 below within over.1 in
    λ n inner reached walks.
    settled-open preds over.0 n inner got.0
    (reached-done preds from over.0 n got.0 got.1 reached) walks

-- an order is no closed walk, and a closed walk no order
ordered-none : (r : Walked) (order : List ℕ) → ordered_by r ≡ Order order → walk_met r ≡ None
ordered-none (Ok done) order is = refl
ordered-none (Err walk) order is = absurd cc

ordered-some : (r : Walked) (walk : List ℕ) → ordered_by r ≡ Cycle walk → walk_met r ≡ Some walk
ordered-some (Ok done) walk is = absurd cc
ordered-some (Err met) walk is = let same : met ≡ walk = cc in ap (λ w. Some w) same

pub cycle-order : (preds : List (List ℕ)) (from order : List ℕ)
    → depth_first preds from ≡ Order order → first_cycle preds from ≡ None
cycle-order preds from order is = ordered-none (walked preds from) order is

pub cycle-cycle : (preds : List (List ℕ)) (from walk : List ℕ)
    → depth_first preds from ≡ Cycle walk → first_cycle preds from ≡ Some walk
cycle-cycle preds from walk is = ordered-some (walked preds from) walk is
