-- Counts of predecessors, and the first ready node by them.
use Rattle.std.proofs.Common.{◌≡◌, ◌∙◌, ℕ, zero, suc, ◌+◌, ◌-◌, ◌*◌, ◌<◌, ◌≤◌, List, [], ◌∷◌, ◌++◌, Some, None, Bool, true, false, ◌&&◌, ◌==◌, if◌then◌else◌, length, get_or, set, drop}
use Rattle.std.proofs.Common.{inl, inr, refl, sym, ap, subst, arith, eq-eqb, drop-cons}
use Rattle.std.proofs.lemmas.Bool.{cases_eq, cases_lt}
use Rattle.std.proofs.lemmas.Bool.Decides.{nat_tests}
use Rattle.std.proofs.lemmas.Grind.{common_steps}
use Rattle.std.proofs.lemmas.List.{get_or-set_same, get_or-set_other, get_or_past}
use Rattle.mk_plan.specs.Deciding.{is_settled, is_undecided, all_settled, first_ready}
use Rattle.mk_plan.specs.declared.plan.NodeState.{NodeState}
use Rattle.mk_plan.specs.declared.plan.NodeState.TheVariants.{Undecided, Settled, Failed}
use Rattle.mk_sched.specs.Counts.{times, unsettled, is_ready, AreCounts, AreFollowers}
use Rattle.mk_sched.specs.Least.{AreEntered, entered, entry}
use Rattle.mk_sched.proofs.LeastLemmas.{attained, least_of_all}

-- none is unsettled exactly where all are settled
all_by_count : (nodes : List NodeState) (before : List ℕ)
    → (unsettled nodes before == 0) ≡ all_settled nodes before
all_by_count nodes [] = refl
all_by_count nodes (one ∷ more) = let rest = all_by_count nodes more in grind (arith, nat_tests, common_steps, rest)

pub ready_by_count : (nodes : List NodeState) (counts : List ℕ) (before : List (List ℕ)) (node : ℕ)
    → AreCounts before nodes counts → node < length before → is_ready nodes counts node
    ≡ (is_undecided (get_or nodes node Failed) && all_settled nodes (get_or before node []))
ready_by_count nodes counts before node c lt =
    ap (λ b. is_undecided (get_or nodes node Failed) && b)
    (ap (λ k. k == 0) (c.each node lt) ∙ all_by_count nodes (get_or before node []))

first_ready_step : (nodes : List NodeState) (before : List (List ℕ)) (i : ℕ) → i < length before
    → first_ready nodes i (drop i before)
    ≡ (if is_undecided (get_or nodes i Failed) && all_settled nodes (get_or before i []) then Some i
    else first_ready nodes (i + 1) (drop (i + 1) before))
first_ready_step nodes before i lt =
    let next : suc i ≡ i + 1 = omega arith in
    let parts : drop i before ≡ get_or before i [] ∷ drop (i + 1) before =
    subst (λ k. drop i before ≡ get_or before i [] ∷ drop k before) next (drop-cons before i [] lt) in
    ap (first_ready nodes i) parts

-- going past a node that is not ready
past : (nodes : List NodeState) (counts : List ℕ) (before : List (List ℕ)) (i : ℕ)
    → AreCounts before nodes counts → i < length before → is_ready nodes counts i ≡ false
    → first_ready nodes i (drop i before) ≡ first_ready nodes (i + 1) (drop (i + 1) before)
past nodes counts before i c lt not_one =
    first_ready_step nodes before i lt
    ∙ rw (sym (ready_by_count nodes counts before i c lt) ∙ not_one) refl

from_low : (nodes : List NodeState) (counts : List ℕ) (before : List (List ℕ)) (low : ℕ)
    → AreCounts before nodes counts → low ≤ length before
    → ((i : ℕ) → i < low → is_ready nodes counts i ≡ false)
    → first_ready nodes 0 before ≡ first_ready nodes low (drop low before)
from_low nodes counts before zero c le none = refl
from_low nodes counts before (suc low) c le none =
    let lower : low ≤ length before = omega (arith, le) in
    let lt : low < length before = omega (arith, le) in
    let here : low < suc low = omega arith in
    let next : low + 1 ≡ suc low = omega arith in
    from_low nodes counts before low c lower (λ i l. let k : i < suc low = omega (arith, l) in none i k)
    ∙ subst (λ k. first_ready nodes low (drop low before) ≡ first_ready nodes k (drop k before)) next
    (past nodes counts before low c lt (none low here))

-- a node is the first that is ready
pub first_is : (nodes : List NodeState) (counts : List ℕ) (before : List (List ℕ)) (node : ℕ)
    → AreCounts before nodes counts → node < length before
    → ((i : ℕ) → i < node → is_ready nodes counts i ≡ false) → is_ready nodes counts node ≡ true
    → first_ready nodes 0 before ≡ Some node
first_is nodes counts before node c lt none ready =
    let le : node ≤ length before = omega (arith, lt) in
    from_low nodes counts before node c le none ∙ (first_ready_step nodes before node lt
    ∙ rw (sym (ready_by_count nodes counts before node c lt) ∙ ready) refl)

drop_all : {A : Type 0} (items : List A) → drop (length items) items ≡ []
drop_all [] = refl
drop_all (item ∷ more) = drop_all more

-- no node is ready
pub first_none : (nodes : List NodeState) (counts : List ℕ) (before : List (List ℕ))
    → AreCounts before nodes counts → ((i : ℕ) → i < length before → is_ready nodes counts i ≡ false)
    → first_ready nodes 0 before ≡ None
first_none nodes counts before c none =
    let le : length before ≤ length before = omega arith in
    from_low nodes counts before (length before) c le none
    ∙ ap (first_ready nodes (length before)) (drop_all before)

-- a node that is ready has an entry of its own number
not_ready : (nodes : List NodeState) (counts entries : List ℕ) (node low : ℕ)
    → entry entries (length nodes + node) ≡ entered nodes counts node
    → low ≤ entry entries (length nodes + node) → node < low → is_ready nodes counts node ≡ false
not_ready nodes counts entries node low is le lt =
    let at : low ≤ entered nodes counts node = subst (λ k. low ≤ k) is le in
    elim (is_ready nodes counts node)
    as (λ b. low ≤ (if b then node else length nodes) → b ≡ false) [
      | true ↦ λ h. absurd (omega (arith, h, lt))
      | false ↦ λ h. refl
    ] at

is_that : (count node value : ℕ) (ready : Bool) → value ≡ (if ready then node else count) → value < count
    → (value ≡ node) × (ready ≡ true)
is_that count node value true e lt = (e, refl)
is_that count node value false e lt = absurd (omega (arith, e, lt))

-- the least entry is the first ready node
pub least_is : (nodes : List NodeState) (counts entries : List ℕ) (before : List (List ℕ))
    → AreEntered nodes counts entries → AreCounts before nodes counts → length nodes ≡ length before
    → entry entries 1 < length nodes → first_ready nodes 0 before ≡ Some (entry entries 1)
least_is nodes counts entries before e c as_many lt =
    let some : 0 < length nodes = omega (arith, lt) in
    let of = attained (length nodes) entries e.tournament some in
    let is : entry entries 1 ≡ entered nodes counts of.node = of.is ∙ e.each of.node of.within in
    let that = is_that (length nodes) of.node (entry entries 1) (is_ready nodes counts of.node) is lt in
    let ready : is_ready nodes counts (entry entries 1) ≡ true = subst (λ n. is_ready nodes counts n ≡ true) (sym that.0) that.1 in
    let within : entry entries 1 < length before = omega (arith, lt, as_many) in
    first_is nodes counts before (entry entries 1) c within
    (λ i less.
    let inside : i < length nodes = omega (arith, less, lt) in
    let place_some : 0 < length nodes + i = omega (arith, some) in
    let place_within : length nodes + i < 2 * length nodes = omega (arith, inside) in
    not_ready nodes counts entries i (entry entries 1) (e.each i inside)
    (least_of_all (length nodes) entries e.tournament (length nodes + i) place_some place_within) less)
    ready

-- where the least entry is of no node, none is ready
pub least_none : (nodes : List NodeState) (counts entries : List ℕ) (before : List (List ℕ))
    → AreEntered nodes counts entries → AreCounts before nodes counts → length nodes ≡ length before
    → length nodes ≤ entry entries 1 → first_ready nodes 0 before ≡ None
least_none nodes counts entries before e c as_many le =
    first_none nodes counts before c (λ i lt.
    let inside : i < length nodes = omega (arith, lt, as_many) in
    let place_some : 0 < length nodes + i = omega (arith, inside) in
    let place_within : length nodes + i < 2 * length nodes = omega (arith, inside) in
    let least = least_of_all (length nodes) entries e.tournament (length nodes + i) place_some place_within in
    let high : length nodes ≤ entry entries (length nodes + i) = omega (arith, le, least) in
    not_ready nodes counts entries i (length nodes) (e.each i inside) high inside)

-- the first of what is left
pub times-drop : (items : List ℕ) (i one : ℕ) → i < length items
    → times one (drop i items) ≡ (if get_or items i 0 == one then 1 else 0) + times one (drop (i + 1) items)
times-drop items i one lt =
    let next : suc i ≡ i + 1 = omega arith in
    let parts : drop i items ≡ get_or items i 0 ∷ drop (i + 1) items =
    subst (λ k. drop i items ≡ get_or items i 0 ∷ drop k items) next (drop-cons items i 0 lt) in
    ap (times one) parts

pub times-push : (items : List ℕ) (item one : ℕ)
    → times one (items ++ item ∷ []) ≡ times one items + (if item == one then 1 else 0)
times-push [] item one = omega arith
times-push (other ∷ more) item one = let rest = times-push more item one in omega (arith, rest)

-- one less at a place
pub one_less : (counts : List ℕ) (i k : ℕ) → 0 < get_or counts i 0 → i < length counts
    → get_or (set counts i (get_or counts i 0 - 1)) k 0 + (if i == k then 1 else 0) ≡ get_or counts k 0
one_less counts i k some lt = elim (cases_eq k i) [
  | inl e ↦
      let test : (i == k) ≡ true = eq-eqb i k (sym e) in
      let at = get_or-set_same counts i (get_or counts i 0 - 1) 0 lt in
      rw (test, e, at) (omega (arith, some))
  | inr ne ↦
      let test : (i == k) ≡ false = grind (arith, nat_tests) in
      let at = get_or-set_other counts i k (get_or counts i 0 - 1) 0 ne in
      rw (test, at) (omega arith)
]

-- what has a count is counted
pub counted : (counts : List ℕ) (i : ℕ) → 0 < get_or counts i 0 → i < length counts
counted [] i some = absurd (omega (arith, some))
counted (count ∷ more) zero some = omega arith
counted (count ∷ more) (suc i) some = let rest = counted more i some in omega (arith, rest)

-- a node is settled
pub unsettled-set : (nodes : List NodeState) (node : ℕ) (before : List ℕ) → node < length nodes
    → is_settled (get_or nodes node Undecided) ≡ false
    → unsettled (set nodes node Settled) before + times node before ≡ unsettled nodes before
unsettled-set nodes node [] lt was = refl
unsettled-set nodes node (one ∷ more) lt was =
    let rest = unsettled-set nodes node more lt was in
    elim (cases_eq one node) [
      | inl e ↦
          let test : (one == node) ≡ true = eq-eqb one node e in
          let at = get_or-set_same nodes node Settled Undecided lt in
          rw (test, e, at, was) (omega (arith, rest))
      | inr ne ↦
          let test : (one == node) ≡ false = grind (arith, nat_tests) in
          let at = get_or-set_other nodes node one Settled Undecided ne in
          rw (test, at) (omega (arith, rest))
    ]

-- a node that was not settled still is not
pub unsettled-same : (nodes : List NodeState) (node : ℕ) (state : NodeState) (before : List ℕ)
    → node < length nodes → is_settled (get_or nodes node Undecided) ≡ false → is_settled state ≡ false
    → unsettled (set nodes node state) before ≡ unsettled nodes before
unsettled-same nodes node state [] lt was is = refl
unsettled-same nodes node state (one ∷ more) lt was is =
    let rest = unsettled-same nodes node state more lt was is in
    elim (cases_eq one node) [
      | inl e ↦
          let at = get_or-set_same nodes node state Undecided lt in
          rw (e, at, was, is) (omega (arith, rest))
      | inr ne ↦
          let at = get_or-set_other nodes node one state Undecided ne in
          rw at (omega (arith, rest))
    ]

-- each follower of a node waits for it
pub enough : (before followers : List (List ℕ)) (nodes : List NodeState) (counts : List ℕ) (node : ℕ)
    → AreFollowers before followers → AreCounts before nodes counts → length nodes ≡ length before
    → node < length nodes → is_settled (get_or nodes node Undecided) ≡ false
    → (other : ℕ) → times other (get_or followers node []) ≤ get_or counts other 0
enough before followers nodes counts node f c as_many lt was other =
    let within : node < length before = omega (arith, lt, as_many) in
    let is = f.each node other within in
    elim (cases_lt other (length before)) [
      | inl inside ↦
          let count = c.each other inside in
          let parts = unsettled-set nodes node (get_or before other []) lt was in
          omega (arith, is, count, parts)
      | inr outside ↦
          let none = ap (times node) (get_or_past before other [] outside) in
          omega (arith, is, none)
    ]

-- the counts after a node was settled, and each follower waits for one less
pub counts_settled : (before followers : List (List ℕ)) (nodes : List NodeState) (counts now : List ℕ) (node : ℕ)
    → AreFollowers before followers → AreCounts before nodes counts → length nodes ≡ length before
    → node < length nodes → is_settled (get_or nodes node Undecided) ≡ false
    → length now ≡ length counts
    → ((other : ℕ) → get_or now other 0 + times other (get_or followers node []) ≡ get_or counts other 0)
    → AreCounts before (set nodes node Settled) now
counts_settled before followers nodes counts now node f c as_many lt was long less = record {
  long = long ∙ c.long;
  each = λ other inside.
      let within : node < length before = omega (arith, lt, as_many) in
      let is = f.each node other within in
      let count = c.each other inside in
      let parts = unsettled-set nodes node (get_or before other []) lt was in
      let here = less other in
      omega (arith, is, count, parts, here);
}

-- the counts where no node is settled more
pub counts_same : (before : List (List ℕ)) (nodes : List NodeState) (counts : List ℕ) (node : ℕ) (state : NodeState)
    → AreCounts before nodes counts → node < length nodes
    → is_settled (get_or nodes node Undecided) ≡ false → is_settled state ≡ false
    → AreCounts before (set nodes node state) counts
counts_same before nodes counts node state c lt was is = record {
  long = c.long;
  each = λ other inside. c.each other inside
      ∙ sym (unsettled-same nodes node state (get_or before other []) lt was is);
}
