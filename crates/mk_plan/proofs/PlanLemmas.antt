-- Orders of nodes, and their places in a plan.
use Rattle.std.proofs.Common.{◌≡◌, ◌∙◌, ℕ, zero, suc, ◌+◌, ◌<◌, ◌≤◌, Bool, true, false, ◌&&◌, nat_eq, nat_lt}
use Rattle.std.proofs.Common.{cond, List, [], ◌∷◌, ◌++◌, length, map, reverse, drop, get_or, set, slice_get, codes}
use Rattle.std.proofs.Common.{Some, inl, inr, refl, sym, ap, subst, arith}
use Rattle.std.proofs.Common.{append_assoc, eq-eqb}
use Rattle.std.proofs.lemmas.Bool.{cond_both, or_cases, eqb-true, false≢true, lt-ltb}
use Rattle.std.proofs.lemmas.Grind.{common_steps}
use Rattle.std.proofs.lemmas.List.{length-reverse, reverse-append, get_or-set_same, get_or-set_other}
use Rattle.std.proofs.Math.Seq.{drop-cons}
use Rattle.mk_closure.proofs.MemberLemmas.{AreBelow-append, all_preds-length, planned_of-append}
use Rattle.mk_closure.specs.Members.{preds_in, all_preds, numbers_from, planned_of, sourced_of, sources_in}
use Rattle.mk_closure.specs.Parts.{State}
use Rattle.mk_graph.specs.Numbers.{AreBelow}
use Rattle.mk_graph.specs.Orders.{AreAmong, AreBehind, IsOrder}
use Rattle.mk_graph.specs.Walks.{is_among, preds_of}
use Rattle.mk_plan.specs.Plans.{place_from, plan_node, inner_nodes, frame_node, nodes_of, first_nodes}
use Rattle.mk_plan.specs.Plans.{frame_commands, is_behind, are_ordered}
use Rattle.mk_plan.specs.declared.plan.PlanNode.{PlanNode}

-- the items from one on are that one and those behind it
pub drop-at : {A : Type 0} (items : List A) (i : ℕ) (item : A) → slice_get items i ≡ Some item
    → drop i items ≡ item ∷ drop (i + 1) items
drop-at [] i item is = cc
drop-at (first ∷ items) zero item is = grind (arith, common_steps)
drop-at (first ∷ items) (suc i) item is =
    let next : suc i + 1 ≡ suc (i + 1) = omega arith in rw next (drop-at items i item is)

and-left : (a b : Bool) → (a && b) ≡ true → a ≡ true
and-left true b is = refl
and-left false b is = absurd cc

and-right : (a b : Bool) → (a && b) ≡ true → b ≡ true
and-right true b is = is
and-right false b is = absurd cc

-- places below a place
is_behind-below : (place : ℕ) (before : List ℕ) → AreBelow place before
    → is_behind place before ≡ true
is_behind-below place [] below = refl
is_behind-below place (one ∷ before) below =
    let less : nat_lt one place ≡ true = lt-ltb one place below.0 in
    rw less (is_behind-below place before below.1)

-- the places before a place are below it
numbers-below : (bound start count : ℕ) → start + count ≤ bound
    → AreBelow bound (numbers_from start count)
numbers-below bound start zero less = tt
numbers-below bound start (suc count) less =
    (omega arith, numbers-below bound (start + 1) count (omega arith))

-- a node that stands behind these has no later place
place-le : (first : ℕ) (l : List ℕ) (q : ℕ) (more : List ℕ)
    → place_from first (l ++ q ∷ more) q ≤ first + length l
place-le first [] q more = rw (eq-eqb q q refl) (omega arith)
place-le first (one ∷ l) q more = at (nat_eq q one) (place-le (first + 1) l q more)
  where
    at : (b : Bool) → place_from (first + 1) (l ++ q ∷ more) q ≤ first + 1 + length l
        → cond b first (place_from (first + 1) (l ++ q ∷ more) q) ≤ first + suc (length l)
    at true less = omega arith
    at false less = omega (arith, less)

turned : (one : ℕ) (before more : List ℕ)
    → reverse (one ∷ before) ++ more ≡ reverse before ++ one ∷ more
turned one before more =
    ap (λ l. l ++ more) (reverse-append (one ∷ []) before) ∙ append_assoc (reverse before) (one ∷ []) more

-- a node among those before has a place there
place-behind : (first : ℕ) (before : List ℕ) (q : ℕ) (more : List ℕ) → is_among before q ≡ true
    → place_from first (reverse before ++ more) q < first + length before
place-behind first [] q more among = absurd (false≢true among)
place-behind first (one ∷ before) q more among =
    subst (λ l. place_from first l q < first + suc (length before)) (sym (turned one before more))
    (elim (or_cases (nat_eq q one) (is_among before q) among) [
      | inl same ↦
          let is = eqb-true q one same in
          let less = place-le first (reverse before) q more in
          let long = length-reverse before in
          subst (λ m. place_from first (reverse before ++ m ∷ more) q < first + suc (length before))
          is (omega (arith, less, long))
      | inr later ↦
          let less = place-behind first before q (one ∷ more) later in omega (arith, less)
    ])

places-behind : (first : ℕ) (before more nodes : List ℕ) → AreAmong before nodes
    → AreBelow (first + length before) (map (place_from first (reverse before ++ more)) nodes)
places-behind first before more [] among = tt
places-behind first before more (n ∷ nodes) among =
    (place-behind first before n more among.0, places-behind first before more nodes among.1)

-- the predecessors of a node, in the list of all
preds-at : (s : State) (start count n : ℕ) → n < count
    → get_or (map (preds_in s) (numbers_from start count)) n [] ≡ preds_in s (start + n)
preds-at s start zero n less = absurd (omega arith)
preds-at s start (suc count) zero less =
    let same : start + 0 ≡ start = omega arith in rw same refl
preds-at s start (suc count) (suc n) less =
    let same : start + suc n ≡ start + 1 + n = omega arith in
    rw same (preds-at s (start + 1) count n (omega arith))

pub preds_of-is : (s : State) (n : ℕ) → n < length s.parts → preds_of (all_preds s) n ≡ preds_in s n
preds_of-is s n less =
    let same : 0 + n ≡ n = omega arith in
    preds-at s 0 (length s.parts) n less ∙ ap (preds_in s) same

both : (a b : Bool) → a ≡ true → b ≡ true → (a && b) ≡ true
both a b first second = rw (first, second) refl

-- nodes in an order stand behind their predecessors
inner-ordered : (s : State) (first : ℕ) (order before more : List ℕ)
    → order ≡ reverse before ++ more → AreBelow (length s.parts) more
    → AreBehind (all_preds s) before more
    → are_ordered (first + length before) (map (plan_node s (place_from first order) first) more)
    ≡ true
inner-ordered s first order before [] is below behind = refl
inner-ordered s first order before (n ∷ more) is below settled =
    let among = subst (AreAmong before) (preds_of-is s n below.0) settled.0 in
    let places = subst (λ o. AreBelow (first + length before) (map (place_from first o) (preds_in s n)))
    (sym is) (places-behind first before (n ∷ more) (preds_in s n) among) in
    let here = is_behind-below (first + length before)
    (map (place_from first order) (preds_in s n) ++ numbers_from 0 first)
    (AreBelow-append (first + length before) (map (place_from first order) (preds_in s n))
    (numbers_from 0 first) places (numbers-below (first + length before) 0 first (omega arith))) in
    let place : first + length before + 1 ≡ first + length (n ∷ before) = omega arith in
    let others = inner-ordered s first order (n ∷ before) more
    (is ∙ sym (turned n before more)) below.1 settled.1 in
    both _ _ here (subst (λ k. are_ordered k (map (plan_node s (place_from first order) first) more)
    ≡ true) (sym place) others)

are_ordered-append : (place : ℕ) (a b : List PlanNode) → are_ordered place a ≡ true
    → are_ordered (place + length a) b ≡ true → are_ordered place (a ++ b) ≡ true
are_ordered-append place [] b first second =
    let same : place + 0 ≡ place = omega arith in
    subst (λ k. are_ordered k b ≡ true) same second
are_ordered-append place (node ∷ a) b first second =
    let same : place + suc (length a) ≡ place + 1 + length a = omega arith in
    both _ _ (left first)
    (are_ordered-append (place + 1) a b (right first)
    (subst (λ k. are_ordered k b ≡ true) same second))
  where
    left : (is_behind place node.before && are_ordered (place + 1) a) ≡ true
        → is_behind place node.before ≡ true
    left is = and-left (is_behind place node.before) (are_ordered (place + 1) a) is

    right : (is_behind place node.before && are_ordered (place + 1) a) ≡ true
        → are_ordered (place + 1) a ≡ true
    right is = and-right (is_behind place node.before) (are_ordered (place + 1) a) is

frame-ordered : (name : List ℕ) (place count : ℕ) (commands : List (List ℕ)) → place ≡ count
    → are_ordered place (frame_node name (numbers_from 0 count) commands) ≡ true
frame-ordered name place count [] is = refl
frame-ordered name place count (command ∷ commands) is =
    both _ _ (is_behind-below place (numbers_from 0 count)
    (numbers-below place 0 count (omega arith))) refl

-- so do all nodes of a plan
pub nodes_of-ordered : (s : State) (query : Bool) (order : List ℕ) → IsOrder (all_preds s) order
    → are_ordered 0 (nodes_of s query order) ≡ true
nodes_of-ordered s query order is =
    let begin = first_nodes s query in
    let first = length begin in
    let below = subst (λ k. AreBelow k order) (all_preds-length s) is.within in
    let inner = inner-ordered s first order [] order refl below is.behind in
    let start : first + 0 ≡ 0 + first = omega arith in
    let front = are_ordered-append 0 begin (inner_nodes s order first)
    (frame-ordered (codes ".BEGIN") 0 0 (frame_commands s.nodes (codes ".BEGIN") query) refl)
    (subst (λ k. are_ordered k (inner_nodes s order first) ≡ true) start inner) in
    let nodes = begin ++ inner_nodes s order first in
    are_ordered-append 0 nodes
    (frame_node (codes ".END") (numbers_from 0 (length nodes))
    (frame_commands s.nodes (codes ".END") query)) front
    (frame-ordered (codes ".END") (0 + length nodes) (length nodes)
    (frame_commands s.nodes (codes ".END") query) (omega arith))

-- the places of two lists
pub map-append : (place : ℕ → ℕ) (a b : List ℕ) → map place (a ++ b) ≡ map place a ++ map place b
map-append place [] b = refl
map-append place (n ∷ a) b = ap (λ l. place n ∷ l) (map-append place a b)

-- the places of the planned ones of two lists
pub placed-append : (s : State) (place : ℕ → ℕ) (found a b : List ℕ)
    → found ++ map place (planned_of s (a ++ b))
    ≡ (found ++ map place (planned_of s a)) ++ map place (planned_of s b)
placed-append s place found a b =
    ap (λ l. found ++ map place l) (planned_of-append s a b)
    ∙ (ap (λ l. found ++ l) (map-append place (planned_of s a) (planned_of s b))
    ∙ sym (append_assoc found (map place (planned_of s a)) (map place (planned_of s b))))

-- nodes are the same by the same places
map-same : (p q : ℕ → ℕ) → ((n : ℕ) → p n ≡ q n) → (nodes : List ℕ) → map p nodes ≡ map q nodes
map-same p q same [] = refl
map-same p q same (n ∷ nodes) = rw (same n, map-same p q same nodes) refl

pub plan_node-same : (s : State) (p q : ℕ → ℕ) (first n : ℕ) → ((m : ℕ) → p m ≡ q m)
    → plan_node s p first n ≡ plan_node s q first n
plan_node-same s p q first n same =
    rw (map-same p q same (sourced_of s (sources_in s n)), map-same p q same (preds_in s n)) refl

pub plan_nodes-same : (s : State) (p q : ℕ → ℕ) (first : ℕ) → ((m : ℕ) → p m ≡ q m)
    → (nodes : List ℕ) → map (plan_node s p first) nodes ≡ map (plan_node s q first) nodes
plan_nodes-same s p q first same [] = refl
plan_nodes-same s p q first same (n ∷ nodes) =
    rw (plan_node-same s p q first n same, plan_nodes-same s p q first same nodes) refl

-- one of several numbers below a bound
pub AreBelow-get : (bound : ℕ) (numbers : List ℕ) (i : ℕ) → AreBelow bound numbers
    → i < length numbers → get_or numbers i 0 < bound
AreBelow-get bound [] i below less = absurd (omega arith)
AreBelow-get bound (n ∷ numbers) zero below less = below.0
AreBelow-get bound (n ∷ numbers) (suc i) below less =
    AreBelow-get bound numbers i below.1 (omega arith)

-- a place that is written
place-written : (places : List ℕ) (m n v w : ℕ) → m < length places → get_or places n 0 ≡ w
    → get_or (set places m v) n 0 ≡ cond (nat_eq n m) v w
place-written places m n v w there is =
    cond_both (nat_eq n m) v w (λ r. get_or (set places m v) n 0 ≡ r)
    (λ same. ap (λ k. get_or (set places m v) k 0) (eqb-true n m same)
    ∙ get_or-set_same places m v 0 there)
    (λ other. get_or-set_other places m n v 0
    (λ same. false≢true (sym other ∙ eq-eqb n m same)) ∙ is)

-- the last nodes of an order, with one more
pub places-next : (first left next : ℕ) (order places : List ℕ) → next ≡ left + 1
    → left < length order → get_or order left 0 < length places
    → ((n : ℕ) → get_or places n 0 ≡ place_from (first + next) (drop next order) n)
    → (n : ℕ) → get_or (set places (get_or order left 0) (first + left)) n 0
    ≡ place_from (first + left) (drop left order) n
places-next first left next order places one within there are n =
    let m = get_or order left 0 in
    let cons : drop left order ≡ m ∷ drop (suc left) order = drop-cons order left 0 within in
    let more : next ≡ suc left = omega arith in
    let place : first + next ≡ first + left + 1 = omega arith in
    let was : get_or places n 0 ≡ place_from (first + left + 1) (drop (suc left) order) n =
    are n ∙ (ap (λ k. place_from k (drop next order) n) place
    ∙ ap (λ k. place_from (first + left + 1) (drop k order) n) more) in
    rw cons (place-written places m n (first + left)
    (place_from (first + left + 1) (drop (suc left) order) n) there was)
