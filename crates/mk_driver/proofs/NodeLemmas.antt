-- How nodes stand, and which may be decided.
use Rattle.std.proofs.Common.{◌≡◌, ◌≢◌, ◌∙◌, ℕ, zero, suc, ◌+◌, ◌<◌, ◌&&◌, ◌||◌, not, List, [], ◌∷◌, length, get_or, set, slice_get, Option, Some, None, Bool, true, false, if◌then◌else◌}
use Rattle.std.proofs.Common.{inl, inr, refl, sym, ap, subst, arith}
use Rattle.std.specs.List.{list_any}
use Rattle.std.proofs.lemmas.Bool.{cases_eq}
use Rattle.std.proofs.lemmas.List.{get_or-set_same, get_or-set_other}
use Rattle.std.proofs.lemmas.List.Sums.{sum_by-set}
use Rattle.mk_plan.specs.Deciding.{Rules, is_failed, is_undecided, is_stopped, all_settled, first_ready, may_decide, open_jobs}
use Rattle.mk_plan.specs.Plans.{node_at}
use Rattle.mk_plan.specs.declared.plan.NodeState.{NodeState}
use Rattle.mk_plan.specs.declared.plan.NodeState.TheVariants.{Undecided, Open, Failed}
use Rattle.mk_plan.specs.declared.plan.PlanNode.{PlanNode}
use Rattle.mk_sched.specs.Next.{next_by, next_of}
use Rattle.mk_sched.specs.Schedule.{Schedule, predecessors}
use Rattle.mk_sched.specs.declared.sched.Next.TheVariants.{Decide, Wait, Over}
use Rattle.mk_driver.specs.Progress.{AreFreshBut, AreUnknown, undecided}
use Rattle.mk_trace.specs.Builds.{Own}
use Rattle.mk_trace.specs.Growth.{Known}
use Rattle.mk_world.specs.Looks.{Seen}

pub get-open : (nodes : List NodeState) (node : ℕ) → get_or nodes node Undecided ≡ Open
    → slice_get nodes node ≡ Some Open
get-open [] node is = cc
get-open (state ∷ nodes) zero is = ap (λ s. Some s) is
get-open (state ∷ nodes) (suc node) is = get-open nodes node is

pub get-undecided : (nodes : List NodeState) (node : ℕ) → get_or nodes node Failed ≡ Undecided
    → slice_get nodes node ≡ Some Undecided
get-undecided [] node is = cc
get-undecided (state ∷ nodes) zero is = ap (λ s. Some s) is
get-undecided (state ∷ nodes) (suc node) is = get-undecided nodes node is

pub within-undecided : (nodes : List NodeState) (node : ℕ) → get_or nodes node Failed ≡ Undecided
    → node < length nodes
within-undecided [] node is = cc
within-undecided (state ∷ nodes) zero is = omega arith
within-undecided (state ∷ nodes) (suc node) is =
    let more = within-undecided nodes node is in omega (arith, more)

-- a node that was undecided is not so any more, and all others are as before
other-undecided : (nodes : List NodeState) (n node : ℕ) (stands : NodeState) → n < length nodes
    → (stands ≡ Undecided → ⊥) → get_or (set nodes n stands) node Failed ≡ Undecided
    → (node ≢ n) × (get_or nodes node Failed ≡ Undecided)
other-undecided nodes n node stands within decided is = elim (cases_eq node n) [
  | inl same ↦
      let stood : get_or (set nodes n stands) node Failed ≡ stands =
      ap (λ k. get_or (set nodes n stands) k Failed) same ∙ get_or-set_same nodes n stands Failed within
      in
      absurd (decided (sym stood ∙ is))
  | inr other ↦ (other, sym (get_or-set_other nodes n node stands Failed other) ∙ is)
]

pub fresh-set : (nodes : List NodeState) (seen : ℕ → List Seen) (own : ℕ → Own) (n : ℕ)
    (stands : NodeState) → n < length nodes → (stands ≡ Undecided → ⊥)
    → AreFreshBut (Some n) nodes seen own → AreFreshBut None (set nodes n stands) seen own
fresh-set nodes seen own n stands within decided fresh node none is =
    let parts = other-undecided nodes n node stands within decided is in
    fresh node (λ same. parts.0 (sym (same-node n node same))) parts.1
  where
    same-node : (a b : ℕ) → Some a ≡ Some b → a ≡ b
    same-node a b is = cc

pub fresh-but : (nodes : List NodeState) (seen : ℕ → List Seen) (own : ℕ → Own) (n : ℕ)
    → AreFreshBut None nodes seen own → AreFreshBut (Some n) nodes seen own
fresh-but nodes seen own n fresh node other is = fresh node (λ none. cc) is

-- what other nodes have does not change
pub fresh-own : (but : Option ℕ) (nodes : List NodeState) (seen : ℕ → List Seen) (own now : ℕ → Own)
    → ((node : ℕ) → but ≢ Some node → get_or nodes node Failed ≡ Undecided
    → (now node).collected ≡ (own node).collected)
    → AreFreshBut but nodes seen own → AreFreshBut but nodes seen now
fresh-own but nodes seen own now same fresh node other is =
    let was = fresh node other is in (was.0, same node other is ∙ was.1)

-- a node that is open is not undecided
pub open-other : (nodes : List NodeState) (n node : ℕ) → get_or nodes n Undecided ≡ Open
    → get_or nodes node Failed ≡ Undecided → node ≢ n
open-other nodes n node is_open undecided same =
    let here : Some Undecided ≡ Some Open =
    sym (get-undecided nodes node undecided) ∙ (ap (slice_get nodes) same ∙ get-open nodes n is_open) in cc

pub unknown-set : (known : Known) (nodes : List NodeState) (n : ℕ) (stands : NodeState)
    → n < length nodes → (stands ≡ Undecided → ⊥) → AreUnknown known nodes
    → AreUnknown known (set nodes n stands)
unknown-set known nodes n stands within decided unknown node is =
    unknown node (other-undecided nodes n node stands within decided is).1

pub unknown-begun : (known more : Known) (nodes : List NodeState) (n : ℕ) (stands : NodeState)
    → n < length nodes → (stands ≡ Undecided → ⊥)
    → ((one : ℕ) → one ≢ n → more one ≡ known one) → AreUnknown known nodes
    → AreUnknown more (set nodes n stands)
unknown-begun known more nodes n stands within decided same unknown node is =
    let parts = other-undecided nodes n node stands within decided is in
    same node parts.0 ∙ unknown node parts.1

-- what comes next, by the nodes

pub next-decides : (may : Option ℕ) (jobs node : ℕ) → next_by may jobs ≡ Decide node → may ≡ Some node
next-decides None zero node h = cc
next-decides None (suc more) node h = cc
next-decides (Some other) jobs node h = cc

pub next-waits : (may : Option ℕ) (jobs : ℕ) → next_by may jobs ≡ Wait
    → (may ≡ None) × (0 < jobs)
next-waits None zero h = cc
next-waits None (suc more) h = (refl, omega arith)
next-waits (Some other) jobs h = cc

pub next-over : (may : Option ℕ) (jobs : ℕ) → next_by may jobs ≡ Over
    → (may ≡ None) × (jobs ≡ 0)
next-over None zero h = (refl, refl)
next-over None (suc more) h = cc
next-over (Some other) jobs h = cc

pub may_decide-of : (rules : Rules) (schedule : Schedule) (node : ℕ) → schedule.rules ≡ rules
    → next_of schedule ≡ Decide node → may_decide rules schedule.nodes ≡ Some node
may_decide-of rules schedule node is next =
    subst (λ (r : Rules). may_decide r schedule.nodes ≡ Some node) is
    (next-decides (may_decide schedule.rules schedule.nodes) (open_jobs schedule.nodes) node next)

both : (a b : Bool) → (a && b) ≡ true → (a ≡ true) × (b ≡ true)
both true b is = (refl, is)
both false b is = cc

-- the first ready node has its predecessors settled
pub record IsReadyAt (nodes : List NodeState) (place node : ℕ) (before : List (List ℕ)) : Type 0 where
  pub behind : ℕ
  pub is : node ≡ place + behind
  pub settled : all_settled nodes (get_or before behind []) ≡ true

some-is : (a b : ℕ) → Some a ≡ Some b → a ≡ b
some-is a b is = cc

ready-by : (nodes : List NodeState) (place node : ℕ) (one : List ℕ) (more : List (List ℕ))
    (ready : Bool) → (is_undecided (get_or nodes place Failed) && all_settled nodes one) ≡ ready
    → (first_ready nodes (place + 1) more ≡ Some node → IsReadyAt nodes (place + 1) node more)
    → (if ready then Some place else first_ready nodes (place + 1) more) ≡ Some node
    → IsReadyAt nodes place node (one ∷ more)
ready-by nodes place node one more true is behind h =
    let same = some-is place node h in
    record { behind = 0; is = omega (arith, same); settled = (both _ _ is).1 }
ready-by nodes place node one more false is behind h =
    let rest = behind h in
    let place_is = rest.is in
    record { behind = suc rest.behind; is = omega (arith, place_is); settled = rest.settled }

ready-at : (nodes : List NodeState) (place node : ℕ) (before : List (List ℕ))
    → first_ready nodes place before ≡ Some node → IsReadyAt nodes place node before
ready-at nodes place node [] h = cc
ready-at nodes place node (one ∷ more) h =
    ready-by nodes place node one more
    (is_undecided (get_or nodes place Failed) && all_settled nodes one) refl
    (ready-at nodes (place + 1) node more) h

before-at : (plan : List PlanNode) (n : ℕ) → get_or (predecessors plan) n [] ≡ (node_at plan n).before
before-at [] n = refl
before-at (node ∷ plan) zero = refl
before-at (node ∷ plan) (suc n) = before-at plan n

decide-first : (rules : Rules) (nodes : List NodeState) (node : ℕ) (b : Bool)
    → (if b then first_ready nodes 0 rules.before else None) ≡ Some node
    → first_ready nodes 0 rules.before ≡ Some node
decide-first rules nodes node true h = h
decide-first rules nodes node false h = cc

-- a node that may be decided has all that it needs settled
pub settled-before : (rules : Rules) (plan : List PlanNode) (nodes : List NodeState) (n : ℕ)
    → rules.before ≡ predecessors plan → may_decide rules nodes ≡ Some n
    → all_settled nodes (node_at plan n).before ≡ true
settled-before rules plan nodes n are may =
    let ready = ready-at nodes 0 n rules.before (decide-first rules nodes n _ may) in
    let same : n ≡ ready.behind = let i = ready.is in omega (arith, i) in
    let row : get_or rules.before ready.behind [] ≡ (node_at plan n).before =
    ap (λ l. get_or l ready.behind []) are ∙ (ap (λ k. get_or (predecessors plan) k []) (sym same)
    ∙ before-at plan n) in
    subst (λ l. all_settled nodes l ≡ true) row ready.settled

-- how many nodes are undecided

undecided-set : (nodes : List NodeState) (node : ℕ) (state other : NodeState) → node < length nodes
    → undecided (set nodes node state) + (if is_undecided (get_or nodes node other) then 1 else 0)
    ≡ undecided nodes + (if is_undecided state then 1 else 0)
undecided-set nodes node state other within =
    sum_by-set (λ one. if is_undecided one then 1 else 0) nodes node state other within

-- a node is decided
pub undecided-less : (nodes : List NodeState) (node : ℕ) (state : NodeState) → node < length nodes
    → get_or nodes node Failed ≡ Undecided → is_undecided state ≡ false
    → undecided (set nodes node state) < undecided nodes
undecided-less nodes node state within was is =
    let before : is_undecided (get_or nodes node Failed) ≡ true = ap is_undecided was in
    let counts : undecided (set nodes node state) + 1 ≡ undecided nodes + 0 =
    rw (before, is) at (undecided-set nodes node state Failed within) in
    omega (arith, counts)

-- an open node ends
pub undecided-same : (nodes : List NodeState) (node : ℕ) (state : NodeState) → node < length nodes
    → get_or nodes node Undecided ≡ Open → is_undecided state ≡ false
    → undecided (set nodes node state) ≡ undecided nodes
undecided-same nodes node state within was is =
    let before : is_undecided (get_or nodes node Undecided) ≡ false = ap is_undecided was in
    let counts : undecided (set nodes node state) + 0 ≡ undecided nodes + 0 =
    rw (before, is) at (undecided-set nodes node state Undecided within) in
    omega (arith, counts)

-- as many nodes stand in a run as in its plan
pub length-predecessors : (plan : List PlanNode) → length (predecessors plan) ≡ length plan
length-predecessors [] = refl
length-predecessors (node ∷ plan) = ap suc (length-predecessors plan)

failed-set : (nodes : List NodeState) (node : ℕ) → node < length nodes
    → get_or nodes node Failed ≡ Undecided
    → list_any is_failed (set nodes node Open) ≡ list_any is_failed nodes
failed-set [] node within was = cc
failed-set (state ∷ nodes) zero within was = rw was refl
failed-set (state ∷ nodes) (suc node) within was =
    ap (λ b. is_failed state || b) (failed-set nodes node (omega (arith, within)) was)

-- a node that gets a token is no failure
pub unstopped-begun : (rules : Rules) (schedule : Schedule) (node : ℕ) → schedule.rules ≡ rules
    → node < length schedule.nodes → get_or schedule.nodes node Failed ≡ Undecided
    → is_stopped schedule.rules schedule.nodes ≡ false
    → is_stopped rules (set schedule.nodes node Open) ≡ false
unstopped-begun rules schedule node are within undecided going =
    let same : is_stopped rules (set schedule.nodes node Open) ≡ is_stopped rules schedule.nodes =
    ap (λ b. not rules.keep_going && b) (failed-set schedule.nodes node within undecided) in
    same ∙ subst (λ (r : Rules). is_stopped r schedule.nodes ≡ false) are going
