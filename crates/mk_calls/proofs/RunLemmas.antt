-- Plans that are made node by node, and runs of them.
use Rattle.std.proofs.Common.{◌≡◌, ◌≢◌, ◌∙◌, ℕ, suc, ◌+◌, ◌<◌, ◌≤◌, List, [], ◌∷◌, ◌++◌, true, length, get_or, set, inl, inr, refl, sym, subst, arith}
use Rattle.std.proofs.lemmas.List.{get_or-set_same, get_or-set_other}
use Rattle.std.proofs.lemmas.Bool.{cases_eq}
use Rattle.std.proofs.lemmas.Grind.{common_steps}
use Rattle.mk_plan.specs.Plans.{are_ordered, are_sourced, has_its_sources, is_behind}
use Rattle.mk_plan.specs.declared.plan.NodeState.{NodeState}
use Rattle.mk_plan.specs.declared.plan.NodeState.TheVariants.{Undecided, Open}
use Rattle.mk_plan.specs.declared.plan.PlanNode.{PlanNode}
use Rattle.mk_sched.specs.Next.{next_of}
use Rattle.mk_sched.specs.Schedule.{Schedule}
use Rattle.mk_sched.specs.declared.sched.Next.TheVariants.{Decide}
use Rattle.mk_sched.proofs.DecideLemmas.{decided}

pub ordered_push : (nodes : List PlanNode) (place : ℕ) (node : PlanNode) → are_ordered place nodes ≡ true
    → is_behind (place + length nodes) node.before ≡ true → are_ordered place (nodes ++ node ∷ []) ≡ true
ordered_push [] place node ordered behind =
    let same : place + 0 ≡ place = omega arith in
    let here : is_behind place node.before ≡ true = subst (λ k. is_behind k node.before ≡ true) same behind in
    grind (arith, common_steps)
ordered_push (first ∷ more) place node ordered behind =
    let rest : are_ordered (place + 1) more ≡ true = grind (arith, common_steps) in
    let head : is_behind place first.before ≡ true = grind (arith, common_steps) in
    let same : place + suc (length more) ≡ (place + 1) + length more = omega arith in
    let tail = ordered_push more (place + 1) node rest (subst (λ k. is_behind k node.before ≡ true) same behind) in
    grind (arith, common_steps)

-- a node without sources has them all
pub sourced_push : (nodes : List PlanNode) (node : PlanNode) → are_sourced nodes ≡ true
    → node.sources ≡ [] → are_sourced (nodes ++ node ∷ []) ≡ true
sourced_push [] node sourced none = rw none refl
sourced_push (first ∷ more) node sourced none =
    let rest : are_sourced more ≡ true = grind (arith, common_steps) in
    let head : has_its_sources first ≡ true = grind (arith, common_steps) in
    let tail = sourced_push more node rest none in
    grind (arith, common_steps)

-- a node was started behind those that are open
pub all_open_started : (schedule : Schedule) (node ended : ℕ) → next_of schedule ≡ Decide node
    → ((one : ℕ) → ended ≤ one → one < node → get_or schedule.nodes one Undecided ≡ Open)
    → (one : ℕ) → ended ≤ one → one < node + 1 → get_or (set schedule.nodes node Open) one Undecided ≡ Open
all_open_started schedule node ended next open_ones one from to = elim (cases_eq one node) [
  | inl e ↦
      let d = decided schedule node next in
      subst (λ k. get_or (set schedule.nodes node Open) k Undecided ≡ Open) (sym e)
      (get_or-set_same schedule.nodes node Open Undecided d.within)
  | inr ne ↦
      let less : one < node = omega (arith, to, ne) in
      get_or-set_other schedule.nodes node one Open Undecided ne ∙ open_ones one from less
]

-- the first of those that are open has ended
pub all_open_ended : (nodes : List NodeState) (ended started : ℕ) (state : NodeState)
    → ((one : ℕ) → ended ≤ one → one < started → get_or nodes one Undecided ≡ Open)
    → (one : ℕ) → ended + 1 ≤ one → one < started → get_or (set nodes ended state) one Undecided ≡ Open
all_open_ended nodes ended started state open_ones one from to =
    let other : one ≢ ended = λ e. absurd (omega (arith, e, from)) in
    let le : ended ≤ one = omega (arith, from) in
    get_or-set_other nodes ended one state Undecided other ∙ open_ones one le to
