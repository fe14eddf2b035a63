-- Plans: what nodes depend on, what is reached, and names.
use Rattle.std.proofs.Common.{◌≡◌, ◌≢◌, ◌∙◌, ◌⊎◌, ℕ, zero, suc, ◌+◌, ◌<◌, ◌≤◌, Bool, true, false, ◌&&◌, nat_eq, nat_lt, cond, List, [], ◌∷◌, ◌++◌, length, map, get_or, codes, Result, Ok, Err, inl, inr, refl, sym, ap, subst, arith, eq-eqb, eqb-true, ltb-true, ltb-false, append_assoc, not, if◌then◌else◌, ◌-◌}
use Rattle.std.proofs.lemmas.Bool.{or_cases, or_left, or_right, false≢true}
use Rattle.std.proofs.lemmas.List.Quantifiers.{all_pairs_push}
use Rattle.std.proofs.lemmas.Bool.{cases_lt}
use Rattle.std.proofs.lemmas.List.{append-nil, length-map, get_or_default, get_or_past, get_or_append_left, get_or-append_right, get_or-map}
use Rattle.std.proofs.lemmas.List.Folds.{list_any-append}
use Rattle.std.specs.List.{list_all}
use Rattle.mk_bytes.specs.Agrees.{◌>>=◌}
use Rattle.mk_closure.proofs.MemberLemmas.{planned_of-below, all_preds-below, all_preds-length}
use Rattle.mk_closure.proofs.NamedLemmas.{closures_named}
use Rattle.mk_closure.specs.ClosureLaws.{IsNamed, all_names}
use Rattle.mk_closure.specs.Members.{sources_in, planned_of, sourced_of, stands_for, preds_in, all_preds, roots, numbers_from, numbers_in, is_planned}
use Rattle.mk_closure.specs.Names.{name_in, is_frame}
use Rattle.mk_closure.specs.Parts.{State, part_at, is_left_out_way}
use Rattle.mk_closure.specs.Walks.{closed}
use Rattle.mk_closure.specs.declared.fault.CloseFault.{CloseFault}
use Rattle.mk_graph.proofs.WholeLemmas.{orders_whole}
use Rattle.mk_graph.specs.Closed.{Reaches, given, behind}
use Rattle.mk_graph.specs.Nodes.{Node, names_of, node_at, new_node}
use Rattle.mk_graph.specs.Numbers.{AreBelow, EachBelow}
use Rattle.mk_graph.specs.Orders.{AreOnce, IsWhole}
use Rattle.mk_graph.specs.Walks.{is_among, preds_of, depth_first}
use Rattle.mk_graph.specs.declared.Made.{Made}
use Rattle.mk_graph.specs.declared.walk.Ordered.{Ordered}
use Rattle.mk_graph.specs.declared.walk.Ordered.TheVariants as walk
use Rattle.mk_plan.proofs.PlanLemmas.{map-append, preds_of-is}
use Rattle.mk_plan.specs.PlanLaws.{plan_names, all_sources, DependenceGoesBack, PlansAreSourced, IsReached, PlansAreReached, PlannedNamesDiffer}
use Rattle.mk_plan.specs.Plans.{wanted, seeking_of, as_plan, order_by, order_of, place_from, plan_node, inner_nodes, frame_node, frame_commands, first_nodes, nodes_of, plan_of, named_plan, is_behind, are_ordered, has_its_sources, are_sourced}
use Rattle.mk_plan.specs.declared.fault.PlanFault.{PlanFault}
use Rattle.mk_plan.specs.declared.plan.PlanNode.{PlanNode}
use Rattle.mk_pool.specs.Pool.{AreDistinct}
use Rattle.mk_world.specs.Deeds.{Store}

-- two conditions

first-true : (a b : Bool) → (a && b) ≡ true → a ≡ true
first-true true b is = refl
first-true false b is = absurd (false≢true is)

second-true : (a b : Bool) → (a && b) ≡ true → b ≡ true
second-true true b is = is
second-true false b is = absurd (false≢true is)

both : (a b : Bool) → a ≡ true → b ≡ true → (a && b) ≡ true
both true b first second = second
both false b first second = absurd (false≢true first)

-- what stands behind its predecessors stands behind its sources

list_all-at : (test : ℕ → Bool) (places : List ℕ) (one : ℕ) → list_all test places ≡ true
    → is_among places one ≡ true → test one ≡ true
list_all-at test [] one all among = absurd (false≢true among)
list_all-at test (first ∷ places) one all among =
    elim (or_cases (nat_eq one first) (is_among places one) among) [
      | inl same ↦
          subst (λ k. test k ≡ true) (sym (eqb-true one first same))
          (first-true (test first) (list_all test places) all)
      | inr later ↦ list_all-at test places one (second-true (test first) _ all) later
    ]

source-before : (nodes : List PlanNode) (place n one : ℕ) → are_ordered place nodes ≡ true
    → are_sourced nodes ≡ true → is_among (preds_of (all_sources nodes) n) one ≡ true
    → one < place + n
source-before [] place n one ordered sourced among = absurd (false≢true among)
source-before (node ∷ nodes) place zero one ordered sourced among =
    let mine = first-true (has_its_sources node) (list_all has_its_sources nodes) sourced in
    let there = list_all-at (is_among node.before) node.sources one mine among in
    let less = list_all-at (λ k. nat_lt k place) node.before one
    (first-true (is_behind place node.before) (are_ordered (place + 1) nodes) ordered) there in
    let lower = ltb-true one place less in
    omega (arith, lower)
source-before (node ∷ nodes) place (suc n) one ordered sourced among =
    let rest = source-before nodes (place + 1) n one
    (second-true (is_behind place node.before) (are_ordered (place + 1) nodes) ordered)
    (second-true (has_its_sources node) (list_all has_its_sources nodes) sourced) among in
    omega (arith, rest)

pub dependence_back : DependenceGoesBack
dependence_back nodes ordered sourced node other (given among) =
    let less = source-before nodes 0 node other ordered sourced among in omega (arith, less)
dependence_back nodes ordered sourced node other (behind {n = last} reached among) =
    let first = dependence_back nodes ordered sourced node last reached in
    let less = source-before nodes 0 last other ordered sourced among in
    omega (arith, first, less)

-- nodes wait for their sources

among-append : (first second : List ℕ) (one : ℕ) → is_among first one ≡ true
    → is_among (first ++ second) one ≡ true
among-append [] second one among = absurd (false≢true among)
among-append (n ∷ first) second one among =
    elim (or_cases (nat_eq one n) (is_among first one) among) [
      | inl same ↦ or_left (nat_eq one n) (is_among (first ++ second) one) same
      | inr later ↦ or_right (nat_eq one n) (is_among (first ++ second) one)
          (among-append first second one later)
    ]

all-among : (first second places : List ℕ)
    → ((one : ℕ) → is_among places one ≡ true → is_among first one ≡ true)
    → list_all (is_among (first ++ second)) places ≡ true
all-among first second [] each = refl
all-among first second (one ∷ places) each =
    both _ _ (among-append first second one
    (each one (or_left (nat_eq one one) (is_among places one) (eq-eqb one one refl))))
    (all-among first second places
    (λ other among. each other (or_right (nat_eq other one) (is_among places other) among)))

node-sourced : (s : State) (place : ℕ → ℕ) (first n : ℕ)
    → has_its_sources (plan_node s place first n) ≡ true
node-sourced s place first n =
    let own = map place (sourced_of s (sources_in s n)) in
    let other = map place (planned_of s (node_at s.nodes n).ordered) in
    let is : map place (preds_in s n) ++ numbers_from 0 first ≡ own ++ (other ++ numbers_from 0 first) =
    ap (λ l. l ++ numbers_from 0 first)
    (map-append place (sourced_of s (sources_in s n)) (planned_of s (node_at s.nodes n).ordered))
    ∙ append_assoc own other (numbers_from 0 first) in
    subst (λ before. list_all (is_among before) own ≡ true) (sym is)
    (all-among own (other ++ numbers_from 0 first) own (λ one among. among))

inner-sourced : (s : State) (place : ℕ → ℕ) (first : ℕ) (order : List ℕ)
    → are_sourced (map (plan_node s place first) order) ≡ true
inner-sourced s place first [] = refl
inner-sourced s place first (n ∷ order) =
    both _ _ (node-sourced s place first n) (inner-sourced s place first order)

frame-sourced : (name : List ℕ) (before : List ℕ) (commands : List (List ℕ))
    → are_sourced (frame_node name before commands) ≡ true
frame-sourced name before [] = refl
frame-sourced name before (command ∷ commands) = refl

sourced-append : (a b : List PlanNode) → are_sourced a ≡ true → are_sourced b ≡ true
    → are_sourced (a ++ b) ≡ true
sourced-append [] b first second = second
sourced-append (node ∷ a) b first second =
    both _ _ (first-true (has_its_sources node) (list_all has_its_sources a) first)
    (sourced-append a b (second-true (has_its_sources node) (list_all has_its_sources a) first) second)

pub nodes_of-sourced : (s : State) (query : Bool) (order : List ℕ) → are_sourced (nodes_of s query order) ≡ true
nodes_of-sourced s query order =
    let begin = first_nodes s query in
    let inner = inner_nodes s order (length begin) in
    sourced-append (begin ++ inner)
    (frame_node (codes ".END") (numbers_from 0 (length (begin ++ inner)))
    (frame_commands s.nodes (codes ".END") query))
    (sourced-append begin inner
    (frame-sourced (codes ".BEGIN") [] (frame_commands s.nodes (codes ".BEGIN") query))
    (inner-sourced s (place_from (length begin) order) (length begin) order))
    (frame-sourced (codes ".END") (numbers_from 0 (length (begin ++ inner)))
    (frame_commands s.nodes (codes ".END") query))

-- what a plan is made of

ok-then : {A B : Type 0} (first : Result A PlanFault) (next : A → Result B PlanFault) (later : B)
    → (first >>= next) ≡ Ok later → (one : A) × (first ≡ Ok one) × (next one ≡ Ok later)
ok-then (Ok one) next later is = (one, refl, is)
ok-then (Err fault) next later is = absurd cc

as_plan-ok : {A : Type 0} (r : Result A CloseFault) (got : A) → as_plan r ≡ Ok got → r ≡ Ok got
as_plan-ok (Ok one) got is = let same : one ≡ got = cc in ap (λ x. Ok x) same
as_plan-ok (Err fault) got is = cc

order-ok : (s : State) (ordered : Ordered) (order : List ℕ) → order_by s ordered ≡ Ok order
    → ordered ≡ walk.Order order
order-ok s (walk.Order one) order is = let same : one ≡ order = cc in ap (λ x. walk.Order x) same
order-ok s (walk.Cycle nodes) order is = cc

plan-reached : (s : State) (query : Bool) (names : List (List ℕ)) (nodes : List PlanNode)
    → plan_of query names s ≡ Ok nodes → IsReached s names query nodes
plan-reached s query names nodes is =
    let step = ok-then (order_of s names) (λ order. Ok (nodes_of s query order)) nodes is in
    let walked = order-ok s (depth_first (all_preds s) (roots s names)) step.0 step.1 in
    let long = all_preds-length s in
    let same : nodes_of s query step.0 ≡ nodes = let e = step.2 in cc in
    record {
      order = step.0;
      whole = orders_whole (all_preds s) (roots s names) step.0
          (subst (λ k. EachBelow k (all_preds s)) (sym long)
          (all_preds-below s (numbers_from 0 (length s.parts))))
          (subst (λ k. AreBelow k (roots s names)) (sym long) (planned_of-below s (map (stands_for s) (numbers_in s names))))
          walked;
      nodes_are = sym same;
    }

reached-by : (files : Store) (made : Made) (query : Bool) (names : List (List ℕ))
    (nodes : List PlanNode) → named_plan files made query names ≡ Ok nodes
    → (s : State) × (closed files made.graph (seeking_of made) names ≡ Ok s) × IsReached s names query nodes
reached-by files made query [] nodes is = cc
reached-by files made query (name ∷ more) nodes is =
    let step = ok-then (as_plan (closed files made.graph (seeking_of made) (name ∷ more)))
    (λ s. plan_of query (name ∷ more) s) nodes is in (
      step.0,
      as_plan-ok (closed files made.graph (seeking_of made) (name ∷ more)) step.0 step.1,
      plan-reached step.0 query (name ∷ more) nodes step.2,
    )

pub plans_reached : PlansAreReached
plans_reached files made requested query nodes is =
    reached-by files made query (wanted requested made.main) nodes is

pub plans_sourced : PlansAreSourced
plans_sourced files made requested query nodes is =
    let reached = (plans_reached files made requested query nodes is).2 in
    let s = (plans_reached files made requested query nodes is).0 in
    subst (λ l. are_sourced l ≡ true) (sym reached.nodes_are) (nodes_of-sourced s query reached.order)

-- the names of a plan

append-names : (a b : List PlanNode) → plan_names (a ++ b) ≡ plan_names a ++ plan_names b
append-names [] b = refl
append-names (node ∷ a) b = ap (λ l. node.name ∷ l) (append-names a b)

inner-names : (s : State) (place : ℕ → ℕ) (first : ℕ) (order : List ℕ)
    → plan_names (map (plan_node s place first) order) ≡ map (name_in s) order
inner-names s place first [] = refl
inner-names s place first (n ∷ order) = ap (λ l. name_in s n ∷ l) (inner-names s place first order)

-- the name of a number is the one at its place
name-place : (s : State) (n : ℕ) → n < length (all_names s) → name_in s n ≡ get_or (all_names s) n []
name-place s n less = at (nat_lt n (length s.nodes)) refl
  where
    long : length (names_of s.nodes) ≡ length s.nodes
    long = length-map s.nodes (λ (node : Node). node.name)

    at : (b : Bool) → nat_lt n (length s.nodes) ≡ b
        → (if b then (node_at s.nodes n).name else get_or s.added (n - length s.nodes) [])
        ≡ get_or (all_names s) n []
    at true is =
        let within = ltb-true n (length s.nodes) is in
        sym (get_or_append_left (names_of s.nodes) s.added [] n (omega (arith, within, long))
        ∙ get_or-map (λ (node : Node). node.name) s.nodes n (new_node []) [] within)
    at false is =
        let past = ltb-false n (length s.nodes) is in
        sym (get_or-append_right (names_of s.nodes) s.added (length s.nodes) n [] long past)

-- two numbers of one name are one
name-once : (s : State) (n m : ℕ) → AreDistinct (all_names s) → n < length (all_names s)
    → m < length (all_names s) → n ≢ m → name_in s n ≢ name_in s m
name-once s n m distinct within other apart same = elim (cases_lt n m) [
  | inl less ↦
      distinct n m [] less other
      (sym (name-place s n within) ∙ (same ∙ name-place s m other))
  | inr past ↦
      let less : m < n = lt-from n m apart past in
      distinct m n [] less within
      (sym (name-place s m other) ∙ (sym same ∙ name-place s n within))
]
  where
    lt-from : (n m : ℕ) → n ≢ m → m ≤ n → m < n
    lt-from n m apart le = elim (cases_lt m n) [
      | inl less ↦ less
      | inr more ↦ absurd (apart (omega (arith, le, more)))
    ]

-- one text before others
distinct-cons : (text : List ℕ) (texts : List (List ℕ))
    → ((j : ℕ) → j < length texts → text ≢ get_or texts j []) → AreDistinct texts
    → AreDistinct (text ∷ texts)
distinct-cons text texts fresh distinct zero zero d less within same = absurd (omega (arith, less))
distinct-cons text texts fresh distinct zero (suc j) d less within same =
    let inside : j < length texts = omega (arith, within) in
    fresh j inside (same ∙ get_or_default texts j d [] inside)
distinct-cons text texts fresh distinct (suc i) zero d less within same = absurd (omega (arith, less))
distinct-cons text texts fresh distinct (suc i) (suc j) d less within same =
    distinct i j d (omega (arith, less)) (omega (arith, within)) same

among-at : (places : List ℕ) (j : ℕ) → j < length places → is_among places (get_or places j 0) ≡ true
among-at [] j less = absurd (omega (arith, less))
among-at (one ∷ places) zero less = or_left (nat_eq one one) (is_among places one) (eq-eqb one one refl)
among-at (one ∷ places) (suc j) less =
    or_right (nat_eq (get_or places j 0) one) (is_among places (get_or places j 0))
    (among-at places j (omega (arith, less)))

below-at : (bound : ℕ) (places : List ℕ) (j : ℕ) → AreBelow bound places → j < length places
    → get_or places j 0 < bound
below-at bound [] j below less = absurd (omega (arith, less))
below-at bound (one ∷ places) zero below less = below.0
below-at bound (one ∷ places) (suc j) below less = below-at bound places j below.1 (omega (arith, less))

inner-distinct : (s : State) (order : List ℕ) → AreDistinct (all_names s)
    → AreBelow (length (all_names s)) order → AreOnce order → AreDistinct (map (name_in s) order)
inner-distinct s [] distinct below once = λ i j d less within. absurd (omega (arith, within))
inner-distinct s (n ∷ order) distinct below once =
    distinct-cons (name_in s n) (map (name_in s) order)
    (λ j less same.
    let inside : j < length order = let long = length-map order (name_in s) in omega (arith, less, long) in
    let there = get_or-map (name_in s) order j 0 [] inside in
    name-once s n (get_or order j 0) distinct below.0
    (below-at (length (all_names s)) order j below.1 inside)
    (λ is. false≢true (sym (subst (λ k. is_among order k ≡ false) is once.0) ∙ among-at order j inside))
    (same ∙ there))
    (inner-distinct s order distinct below.1 once.1)

-- what is reached was met, and so it does not stand around the build

planned-among : (s : State) (nodes : List ℕ) (n : ℕ) → is_among (planned_of s nodes) n ≡ true
    → is_planned s n ≡ true
planned-among s [] n among = absurd (false≢true among)
planned-among s (one ∷ nodes) n among =
    at (is_planned s one) refl (planned-among s nodes n) among
  where
    at : (b : Bool) → is_planned s one ≡ b
        → (is_among (planned_of s nodes) n ≡ true → is_planned s n ≡ true)
        → is_among (cond b (one ∷ planned_of s nodes) (planned_of s nodes)) n ≡ true
        → is_planned s n ≡ true
    at true is rest among = elim (or_cases (nat_eq n one) (is_among (planned_of s nodes) n) among) [
      | inl same ↦ subst (λ k. is_planned s k ≡ true) (sym (eqb-true n one same)) is
      | inr later ↦ rest later
    ]
    at false is rest among = rest among

append-among : (a b : List ℕ) (n : ℕ) → is_among (a ++ b) n ≡ true
    → (is_among a n ≡ true) ⊎ (is_among b n ≡ true)
append-among a b n among =
    or_cases (is_among a n) (is_among b n) (sym (list_any-append (nat_eq n) a b) ∙ among)

reached-planned : (s : State) (names : List (List ℕ)) (n : ℕ)
    → Reaches (all_preds s) (roots s names) n → is_planned s n ≡ true
reached-planned s names n (given among) = planned-among s (map (stands_for s) (numbers_in s names)) n among
reached-planned s names n (behind {n = last} reached among) = elim (cases_lt last (length s.parts)) [
  | inl less ↦
      let here : is_among (preds_in s last) n ≡ true =
      subst (λ l. is_among l n ≡ true) (preds_of-is s last less) among in
      elim (append-among (sourced_of s (sources_in s last)) (planned_of s (node_at s.nodes last).ordered) n
      here) [
        | inl source ↦ planned-among s (map (stands_for s) (sources_in s last)) n source
        | inr ordered ↦ planned-among s (node_at s.nodes last).ordered n ordered
      ]
  | inr past ↦
      let long = all_preds-length s in
      let none : preds_of (all_preds s) last ≡ [] =
      get_or_past (all_preds s) last [] (omega (arith, long, past)) in
      absurd (false≢true (subst (λ l. is_among l n ≡ true) none among))
]

frame-none : (s : State) (nodes : List Node) (names : List (List ℕ)) (order : List ℕ) (j : ℕ)
    → IsNamed nodes s → IsWhole (all_preds s) (roots s names) order → j < length order
    → is_frame (name_in s (get_or order j 0)) ≡ false
frame-none s nodes names order j named whole less =
    let n = get_or order j 0 in
    let planned_is = reached-planned s names n ((whole.reached n).0 (among-at order j less)) in
    named.inner n (first-true (part_at s n).met (not (is_left_out_way (part_at s n).way)) planned_is)

no-frame : (frame name : List ℕ) → is_frame frame ≡ true → is_frame name ≡ false → frame ≢ name
no-frame frame name is other same =
    false≢true (sym (subst (λ one. is_frame one ≡ false) (sym same) other) ∙ is)

-- the names around the build, before and behind the others

begun-distinct : (names : List (List ℕ)) (commands : List (List ℕ))
    → ((j : ℕ) → j < length names → is_frame (get_or names j []) ≡ false) → AreDistinct names
    → AreDistinct (plan_names (frame_node (codes ".BEGIN") [] commands) ++ names)
begun-distinct names [] none distinct = distinct
begun-distinct names (command ∷ commands) none distinct =
    distinct-cons (codes ".BEGIN") names
    (λ j less. no-frame (codes ".BEGIN") (get_or names j []) refl (none j less)) distinct

ended-distinct : (names : List (List ℕ)) (before : List ℕ) (commands : List (List ℕ))
    → ((k : ℕ) (d : List ℕ) → k < length names → get_or names k d ≢ codes ".END") → AreDistinct names
    → AreDistinct (names ++ plan_names (frame_node (codes ".END") before commands))
ended-distinct names before [] fresh distinct = subst AreDistinct (sym (append-nil names)) distinct
ended-distinct names before (command ∷ commands) fresh distinct =
    all_pairs_push (λ text later. text ≢ later) names (codes ".END") distinct fresh

begun-fresh : (names : List (List ℕ)) (commands : List (List ℕ))
    → ((j : ℕ) → j < length names → is_frame (get_or names j []) ≡ false) → (k : ℕ) (d : List ℕ)
    → k < length (plan_names (frame_node (codes ".BEGIN") [] commands) ++ names)
    → get_or (plan_names (frame_node (codes ".BEGIN") [] commands) ++ names) k d ≢ codes ".END"
begun-fresh names [] none k d less same =
    no-frame (codes ".END") (get_or names k []) refl (none k less)
    (sym (sym (get_or_default names k d [] less) ∙ same))
begun-fresh names (command ∷ commands) none zero d less same = cc
begun-fresh names (command ∷ commands) none (suc k) d less same =
    let inside : k < length names = omega (arith, less) in
    no-frame (codes ".END") (get_or names k []) refl (none k inside)
    (sym (sym (get_or_default names k d [] inside) ∙ same))

all-distinct : (s : State) (nodes : List Node) (names : List (List ℕ)) (query : Bool) (order : List ℕ)
    → IsNamed nodes s → IsWhole (all_preds s) (roots s names) order
    → AreDistinct (plan_names (nodes_of s query order))
all-distinct s nodes names query order named whole =
    let begin = first_nodes s query in
    let inner = inner_nodes s order (length begin) in
    let begin_commands = frame_commands s.nodes (codes ".BEGIN") query in
    let end_commands = frame_commands s.nodes (codes ".END") query in
    let before = numbers_from 0 (length (begin ++ inner)) in
    let own = map (name_in s) order in
    let long : length (all_preds s) ≡ length (all_names s) = all_preds-length s ∙ named.as_many in
    let below = subst (λ k. AreBelow k order) long whole.order_is.within in
    let none : (j : ℕ) → j < length own → is_frame (get_or own j []) ≡ false = λ j less.
    let inside : j < length order = let l = length-map order (name_in s) in omega (arith, less, l) in
    subst (λ name. is_frame name ≡ false) (sym (get_or-map (name_in s) order j 0 [] inside))
    (frame-none s nodes names order j named whole inside) in
    let front = begun-distinct own begin_commands none (inner-distinct s order named.distinct below whole.once) in
    let all = ended-distinct (plan_names begin ++ own) before end_commands
    (begun-fresh own begin_commands none) front in
    let is : plan_names ((begin ++ inner) ++ frame_node (codes ".END") before end_commands)
    ≡ (plan_names begin ++ own) ++ plan_names (frame_node (codes ".END") before end_commands) =
    append-names (begin ++ inner) (frame_node (codes ".END") before end_commands)
    ∙ ap (λ l. l ++ plan_names (frame_node (codes ".END") before end_commands))
    (append-names begin inner
    ∙ ap (λ l. plan_names begin ++ l) (inner-names s (place_from (length begin) order) (length begin) order))
    in
    subst AreDistinct (sym is) all

pub names_differ : PlannedNamesDiffer
names_differ files made requested query nodes distinct is =
    let got = plans_reached files made requested query nodes is in
    let named = closures_named files made.graph (seeking_of made) (wanted requested made.main) got.0 distinct
    got.1 in
    subst (λ l. AreDistinct (plan_names l)) (sym got.2.nodes_are)
    (all-distinct got.0 made.graph (wanted requested made.main) query got.2.order named got.2.whole)
