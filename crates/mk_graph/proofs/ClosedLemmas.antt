-- The walk that is met is closed, and reached.
use Rattle.std.proofs.Common.{◌≡◌, ℕ, zero, suc, true, nat_eq, cond, List}
use Rattle.std.proofs.Common.{[], ◌∷◌, ◌++◌, length, IsTrue, Ok, Err, Some, refl, sym, ap}
use Rattle.std.proofs.Common.{subst}
use Rattle.std.proofs.lemmas.Bool.{cond_both, eqb-true, false≢true}
use Rattle.mk_bytes.specs.Agrees.{◌>>=◌}
use Rattle.mk_graph.specs.Closed.{IsWalk, Reaches, given, behind, IsClosed}
use Rattle.mk_graph.specs.Walks.{is_among, preds_of, from_node, closed, Walked, Visit}
use Rattle.mk_graph.specs.Walks.{all_visited, visited, walk_met, walked, first_cycle}
use Rattle.mk_graph.proofs.AmongLemmas.{head_among, tail_among}

-- a closed walk is that of the first step, or of the next one
after_step : (first : Walked) (next : List ℕ → Walked) (walk : List ℕ) (P : Type 0)
    → (first >>= next) ≡ Err walk → (first ≡ Err walk → P)
    → ((done : List ℕ) → first ≡ Ok done → next done ≡ Err walk → P) → P
after_step (Ok done) next walk P is fault goes = goes done refl is
after_step (Err met) next walk P is fault goes = fault is

-- a walk goes on by a predecessor of its last node
IsWalk-on : (preds : List (List ℕ)) (start n next : ℕ) (inner : List ℕ)
    → IsWalk preds start (inner ++ n ∷ []) → IsTrue (is_among (preds_of preds n) next)
    → IsWalk preds start ((inner ++ n ∷ []) ++ next ∷ [])
IsWalk-on preds start n next [] walks among = (walks.0, (among, tt))
IsWalk-on preds start n next (one ∷ more) walks among =
    (walks.0, IsWalk-on preds one n next more walks.1 among)

-- a way from a node that is given
abbrev IsWay : List (List ℕ) → List ℕ → List ℕ → Type 0
IsWay preds from [] = Unit {0}
IsWay preds from (start ∷ more) = IsTrue (is_among from start) × IsWalk preds start more

-- and so does a way
IsWay-on : (preds : List (List ℕ)) (from path : List ℕ) (n next : ℕ)
    → IsWay preds from (path ++ n ∷ []) → IsTrue (is_among (preds_of preds n) next)
    → IsWay preds from ((path ++ n ∷ []) ++ next ∷ [])
IsWay-on preds from [] n next way among = (way.0, (among, tt))
IsWay-on preds from (start ∷ more) n next way among =
    (way.0, IsWalk-on preds start n next more way.1 among)

-- a path that closes at its first node
closed-here : (preds : List (List ℕ)) (from : List ℕ) (one : ℕ) (more : List ℕ) (n : ℕ)
    → Reaches preds from one → IsWalk preds one (more ++ n ∷ []) → n ≡ one
    → IsClosed preds from ((one ∷ more) ++ n ∷ [])
closed-here preds from one more n reached walks is =
    subst (λ m. IsClosed preds from ((one ∷ more) ++ m ∷ [])) (sym is) (record {
      first = one;
      inner = more;
      is = refl;
      walks = subst (λ m. IsWalk preds one (more ++ m ∷ [])) is walks;
      reached = reached;
    })

-- or at another one
closed-is : (preds : List (List ℕ)) (from : List ℕ) (one : ℕ) (more : List ℕ) (n : ℕ)
    → Reaches preds from one → IsWalk preds one (more ++ n ∷ []) → is_among (one ∷ more) n ≡ true
    → IsClosed preds from (closed (one ∷ more) n)
closed-is preds from one [] n reached walks among =
    cond_both (nat_eq n one) (one ∷ []) [] (λ part. IsClosed preds from (part ++ n ∷ []))
    (λ same. closed-here preds from one [] n reached walks (eqb-true n one same))
    (λ other. absurd (false≢true (rw other at among)))
closed-is preds from one (two ∷ rest) n reached walks among =
    cond_both (nat_eq n one) (one ∷ two ∷ rest) (from_node (two ∷ rest) n)
    (λ part. IsClosed preds from (part ++ n ∷ []))
    (λ same. closed-here preds from one (two ∷ rest) n reached walks (eqb-true n one same))
    (λ other. closed-is preds from two rest n (behind reached walks.0) walks.1 (rw other at among))

-- a way that comes to one of its nodes again
closed-met : (preds : List (List ℕ)) (from path : List ℕ) (n : ℕ)
    → IsWay preds from (path ++ n ∷ []) → is_among path n ≡ true
    → IsClosed preds from (closed path n)
closed-met preds from [] n way among = absurd (false≢true among)
closed-met preds from (start ∷ more) n way among =
    closed-is preds from start more n (given way.0) way.1 among

-- what several visits meet is closed where what each meets is
all-closed : (preds : List (List ℕ)) (from : List ℕ) (visit : Visit) (nodes done walk : List ℕ)
    → ((n : ℕ) (done walk : List ℕ) → is_among nodes n ≡ true → visit done n ≡ Err walk
    → IsClosed preds from walk)
    → all_visited visit done nodes ≡ Err walk → IsClosed preds from walk
unfolding all_visited
all-closed preds from visit [] done walk each is = absurd cc
all-closed preds from visit (n ∷ more) done walk each is =
    after_step (visit done n) (λ later. all_visited visit later more) walk
    (IsClosed preds from walk) is
    (λ met. each n done walk (head_among n more) met)
    (λ later ok rest. all-closed preds from visit more later walk
    (λ m other_done other among. each m other_done other (tail_among n m more among)) rest)

-- what a visit meets is closed
visited-closed : (room : ℕ) (preds : List (List ℕ)) (from path done : List ℕ) (n : ℕ)
    (walk : List ℕ) → IsWay preds from (path ++ n ∷ [])
    → visited room preds path done n ≡ Err walk → IsClosed preds from walk
unfolding visited
visited-closed zero preds from path done n walk way is = absurd cc
visited-closed (suc room) preds from path done n walk way is =
    let inner = all_visited (visited room preds (path ++ n ∷ [])) done (preds_of preds n) in
    let new : Walked = inner >>= λ later. Ok (n ∷ later) in
    let old : Walked = cond (is_among done n) (Ok done) new in
    cond_both (is_among path n) (Err (closed path n)) old
    (λ r. r ≡ Err walk → IsClosed preds from walk)
    (λ on met.
    let same : closed path n ≡ walk = cc in
    subst (λ w. IsClosed preds from w) same (closed-met preds from path n way on))
    (λ off. cond_both (is_among done n) (Ok done) new
    (λ r. r ≡ Err walk → IsClosed preds from walk)
    (λ over met. absurd cc)
    (λ fresh met. after_step inner (λ later. Ok (n ∷ later)) walk (IsClosed preds from walk) met
    (λ fault. all-closed preds from (visited room preds (path ++ n ∷ [])) (preds_of preds n) done
    walk
    (λ m other_done other among. visited-closed room preds from (path ++ n ∷ []) other_done m other
    (IsWay-on preds from path n m way among))
    fault)
    (λ later ok wrong. absurd cc)))
    is

-- the closed walk ended the walk
met_walk : (r : Walked) (walk : List ℕ) → walk_met r ≡ Some walk → r ≡ Err walk
met_walk (Ok done) walk is = absurd cc
met_walk (Err met) walk is = let same : met ≡ walk = cc in ap Err same

-- the walk that is met is closed, and reached
pub first_cycle-closed : (preds : List (List ℕ)) (from walk : List ℕ)
    → first_cycle preds from ≡ Some walk → IsClosed preds from walk
first_cycle-closed preds from walk is =
    all-closed preds from (visited (suc (length preds)) preds []) from [] walk
    (λ n done other among. visited-closed (suc (length preds)) preds from [] done n other
    (among, tt))
    (met_walk (walked preds from) walk is)
