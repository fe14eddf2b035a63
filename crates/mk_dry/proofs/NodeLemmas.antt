-- Which node may be decided while the nodes are gone through in order.
use Rattle.std.proofs.Common.{◌≡◌, ◌≢◌, ◌∙◌, ℕ, zero, suc, ◌+◌, ◌<◌, ◌≤◌, ◌&&◌, ◌||◌, not, nat_lt, nat_eq, ◌⊎◌, List, [], ◌∷◌, length, length-set, get_or, set, slice_get, IsTrue, Option, Some, None, Bool, true, false, if◌then◌else◌}
use Rattle.std.proofs.Common.{inl, inr, refl, sym, ap, subst, arith, eqb-true, eq-eqb}
use Rattle.std.specs.List.{list_any, list_all}
use Rattle.std.proofs.lemmas.Bool.{cases_eq, or_cases, false≢true, ltb-true}
use Rattle.std.proofs.lemmas.Bool.Decides.{nat_tests}
use Rattle.std.proofs.lemmas.Grind.{common_steps}
use Rattle.std.proofs.lemmas.List.{get_or-set_same, get_or-set_other, set-set}
use Rattle.std.proofs.lemmas.List.Sums.{sum_by-set}
use Rattle.std.proofs.lemmas.Option.{slice_get-get_or}
use Rattle.mk_graph.specs.Walks.{is_among, preds_of}
use Rattle.mk_plan.specs.Deciding.{Rules, all_settled, first_ready, is_failed, is_open, is_stopped, is_undecided, may_decide, open_jobs}
use Rattle.mk_plan.specs.Plans.{are_ordered, is_behind}
use Rattle.mk_plan.specs.declared.plan.NodeState.{NodeState}
use Rattle.mk_plan.specs.declared.plan.NodeState.TheVariants.{Undecided, Open, Settled, Failed}
use Rattle.mk_plan.specs.declared.plan.PlanNode.{PlanNode}
use Rattle.mk_sched.specs.Schedule.{none_decided, predecessors}
use Rattle.mk_trace.specs.RunLaws.{StandBehind}
use Rattle.mk_trace.specs.declared.result.Failure.{Failure}
use Rattle.mk_dry.specs.Progress.{HasCome, IsGoneThrough, is_ready, is_there}

-- two conditions

first-true : (a b : Bool) → (a && b) ≡ true → a ≡ true
first-true true b is = refl
first-true false b is = absurd (false≢true is)

second-true : (a b : Bool) → (a && b) ≡ true → b ≡ true
second-true true b is = is
second-true false b is = absurd (false≢true is)

-- the first node that is ready

abbrev ready_by : List NodeState → ℕ → List ℕ → Bool
ready_by nodes node before = is_undecided (get_or nodes node Failed) && all_settled nodes before

shift : (place i : ℕ) → place + 1 + i ≡ place + suc i
shift place i = omega arith

first-found : (nodes : List NodeState) (place i : ℕ) (before : List (List ℕ)) → i < length before
    → ready_by nodes (place + i) (get_or before i []) ≡ true
    → ((j : ℕ) → j < i → ready_by nodes (place + j) (get_or before j []) ≡ false)
    → first_ready nodes place before ≡ Some (place + i)
first-found nodes place i [] within ready none = absurd (omega (arith, within))
first-found nodes place zero (one ∷ more) within ready none =
    let here : place + 0 ≡ place = omega arith in
    rw (subst (λ k. ready_by nodes k one ≡ true) here ready, here) refl
first-found nodes place (suc i) (one ∷ more) within ready none =
    let here : place + 0 ≡ place = omega arith in
    let past : ready_by nodes place one ≡ false =
    subst (λ k. ready_by nodes k one ≡ false) here (none 0 (omega arith)) in
    let rest : first_ready nodes (place + 1) more ≡ Some (place + 1 + i) =
    first-found nodes (place + 1) i more (omega (arith, within))
    (subst (λ k. ready_by nodes k (get_or more i []) ≡ true) (sym (shift place i)) ready)
    (λ j less.
    subst (λ k. ready_by nodes k (get_or more j []) ≡ false) (sym (shift place j))
    (none (suc j) (omega (arith, less)))) in
    rw past (rest ∙ ap (λ k. Some k) (shift place i))

none-found : (nodes : List NodeState) (place : ℕ) (before : List (List ℕ))
    → ((j : ℕ) → j < length before → ready_by nodes (place + j) (get_or before j []) ≡ false)
    → first_ready nodes place before ≡ None
none-found nodes place [] none = refl
none-found nodes place (one ∷ more) none =
    let here : place + 0 ≡ place = omega arith in
    let past : ready_by nodes place one ≡ false =
    subst (λ k. ready_by nodes k one ≡ false) here (none 0 (omega arith)) in
    rw past (none-found nodes (place + 1) more (λ j less.
    subst (λ k. ready_by nodes k (get_or more j []) ≡ false) (sym (shift place j))
    (none (suc j) (omega (arith, less)))))

-- a node that is ready and has none before it may be decided
pub may-decide : (rules : Rules) (nodes : List NodeState) (failure : Option Failure) (node : ℕ)
    → IsGoneThrough rules nodes failure node → node < length nodes
    → is_ready rules nodes node ≡ true → is_stopped rules nodes ≡ false
    → may_decide rules nodes ≡ Some node
may-decide rules nodes failure node gone within ready going =
    let found : first_ready nodes 0 rules.before ≡ Some (0 + node) =
    first-found nodes 0 node rules.before (rw (← gone.long) within)
    (subst (λ k. ready_by nodes k (preds_of rules.before node) ≡ true) (sym (from-zero node)) ready)
    (λ j less. subst (λ k. ready_by nodes k (preds_of rules.before j) ≡ false) (sym (from-zero j))
    (gone.behind j less)) in
    rw (going, gone.none_open, gone.one_job) (found ∙ ap (λ k. Some k) (from-zero node))
  where
    from-zero : (n : ℕ) → 0 + n ≡ n
    from-zero n = omega arith

-- where all nodes were gone through, or a failure has stopped the run, none may be decided
pub none-may-decide : (rules : Rules) (nodes : List NodeState) (failure : Option Failure) (place : ℕ)
    → IsGoneThrough rules nodes failure place
    → (length nodes ≤ place) ⊎ (is_stopped rules nodes ≡ true) → may_decide rules nodes ≡ None
none-may-decide rules nodes failure place gone (inl all) =
    let none : first_ready nodes 0 rules.before ≡ None =
    none-found nodes 0 rules.before (λ j less.
    let long = gone.long in
    subst (λ k. ready_by nodes k (preds_of rules.before j) ≡ false) (sym (from-zero j))
    (gone.behind j (omega (arith, less, all, long)))) in
    either (not (is_stopped rules nodes) && nat_lt (open_jobs nodes) rules.jobs)
    (first_ready nodes 0 rules.before) none
  where
    from-zero : (n : ℕ) → 0 + n ≡ n
    from-zero n = omega arith

    either : (b : Bool) (found : Option ℕ) → found ≡ None → (if b then found else None) ≡ None
    either true found is = is
    either false found is = refl
none-may-decide rules nodes failure place gone (inr stopped) = rw stopped refl

-- how a change of one node's state counts

open_jobs-set : (nodes : List NodeState) (node : ℕ) (state other : NodeState) → node < length nodes
    → open_jobs (set nodes node state) + (if is_open (get_or nodes node other) then 1 else 0)
    ≡ open_jobs nodes + (if is_open state then 1 else 0)
open_jobs-set nodes node state other lt =
    sum_by-set (λ one. if is_open one then 1 else 0) nodes node state other lt

open_jobs-undecided : (nodes : List NodeState) (node : ℕ) (state : NodeState) → node < length nodes
    → get_or nodes node Failed ≡ Undecided → open_jobs nodes ≡ 0
    → open_jobs (set nodes node state) ≡ (if is_open state then 1 else 0)
open_jobs-undecided nodes node state lt was none =
    let not_open : is_open (get_or nodes node Failed) ≡ false = ap is_open was in
    let counts : open_jobs (set nodes node state) + (if false then 1 else 0)
    ≡ open_jobs nodes + (if is_open state then 1 else 0) =
    subst (λ b. open_jobs (set nodes node state) + (if b then 1 else 0)
    ≡ open_jobs nodes + (if is_open state then 1 else 0)) not_open
    (open_jobs-set nodes node state Failed lt) in
    omega (arith, counts, none)

any_failed-set : (nodes : List NodeState) (node : ℕ) (state other : NodeState) → node < length nodes
    → is_failed (get_or nodes node other) ≡ false → is_failed state ≡ false
    → list_any is_failed (set nodes node state) ≡ list_any is_failed nodes
any_failed-set [] node state other lt was is = cc
any_failed-set (one ∷ more) zero state other lt was is = cc
any_failed-set (one ∷ more) (suc node) state other lt was is =
    let lower : node < length more = omega (arith, lt) in
    ap (λ b. is_failed one || b) (any_failed-set more node state other lower was is)

any_failed-set_failed : (nodes : List NodeState) (node : ℕ) → node < length nodes
    → list_any is_failed (set nodes node Failed) ≡ true
any_failed-set_failed [] node lt = absurd (omega (arith, lt))
any_failed-set_failed (one ∷ more) zero lt = refl
any_failed-set_failed (one ∷ more) (suc node) lt =
    let lower : node < length more = omega (arith, lt) in
    let e = any_failed-set_failed more node lower in grind (arith, common_steps)

-- nodes before which nothing has changed

all_settled-same : (nodes : List NodeState) (n : ℕ) (state : NodeState) (before : List ℕ)
    → ((one : ℕ) → is_among before one ≡ true → one ≢ n)
    → all_settled (set nodes n state) before ≡ all_settled nodes before
all_settled-same nodes n state [] apart = refl
all_settled-same nodes n state (first ∷ before) apart =
    let here : get_or (set nodes n state) first Undecided ≡ get_or nodes first Undecided =
    get_or-set_other nodes n first state Undecided (apart first (among-first first before)) in
    rw (
      here,
      all_settled-same nodes n state before (λ one among.
          apart one (among-later first before one among)),
    ) refl
  where
    among-first : (one : ℕ) (more : List ℕ) → is_among (one ∷ more) one ≡ true
    among-first one more = rw (eq-eqb one one refl) refl

    or-right : (a b : Bool) → b ≡ true → (a || b) ≡ true
    or-right true b is = refl
    or-right false b is = is

    among-later : (first : ℕ) (more : List ℕ) (one : ℕ) → is_among more one ≡ true
        → is_among (first ∷ more) one ≡ true
    among-later first more one among = or-right (nat_eq one first) (is_among more one) among

below : (a n : ℕ) → a < n → a ≢ n
below a n less same = omega (arith, less, same)

ready-before : (rules : Rules) (nodes : List NodeState) (n node : ℕ) (state : NodeState)
    → StandBehind rules.before → node < n
    → is_ready rules (set nodes n state) node ≡ is_ready rules nodes node
ready-before rules nodes n node state behind less =
    rw (
      get_or-set_other nodes n node state Failed (below node n less),
      all_settled-same nodes n state (preds_of rules.before node) (λ one among.
          let lower = behind node one among in below one n (omega (arith, lower, less))),
    ) refl

abbrev Decided : NodeState → Type 0
Decided Undecided = ⊥
Decided Open = ⊥
Decided Settled = Unit {0}
Decided Failed = Unit {0}

decided-not : (state : NodeState) → Decided state → is_undecided state ≡ false
decided-not Undecided is = absurd is
decided-not Open is = refl
decided-not Settled is = refl
decided-not Failed is = refl

decided-closed : (state : NodeState) → Decided state → is_open state ≡ false
decided-closed Undecided is = refl
decided-closed Open is = absurd is
decided-closed Settled is = refl
decided-closed Failed is = refl

come-decided : (state : NodeState) (old new : Option Failure) → HasCome state old new → Decided state
come-decided Undecided old new is = is
come-decided Open old new is = is
come-decided Settled old new is = tt
come-decided Failed old new is = tt

failed-now : (nodes : List NodeState) (node : ℕ) (state : NodeState) (old new : Option Failure)
    → node < length nodes → get_or nodes node Failed ≡ Undecided
    → list_any is_failed nodes ≡ is_there old → HasCome state old new
    → list_any is_failed (set nodes node state) ≡ is_there new
failed-now nodes node Undecided old new lt was failed come = absurd come
failed-now nodes node Open old new lt was failed come = absurd come
failed-now nodes node Settled old new lt was failed come =
    any_failed-set nodes node Settled Failed lt (ap is_failed was) refl ∙ (failed ∙ ap is_there (sym come))
failed-now nodes node Failed old new lt was failed come =
    any_failed-set_failed nodes node lt ∙ sym come

-- the node at the place was decided
pub gone-decided : (rules : Rules) (nodes : List NodeState) (old new : Option Failure) (node : ℕ)
    (state : NodeState) → IsGoneThrough rules nodes old node → node < length nodes
    → HasCome state old new → IsGoneThrough rules (set nodes node state) new (node + 1)
gone-decided rules nodes old new node state gone lt come =
    let was = gone.fresh node (omega arith) lt in
    let decided = come-decided state old new come in
    record {
      long = length-set nodes node state ∙ gone.long;
      one_job = gone.one_job;
      ordered = gone.ordered;
      none_open = open_jobs-undecided nodes node state lt was gone.none_open
          ∙ rw (decided-closed state decided) refl;
      fresh = λ one from within.
          get_or-set_other nodes node one state Failed (above one node from)
          ∙ gone.fresh one (omega (arith, from)) (rw (length-set nodes node state) at within);
      behind = λ one less. at one less decided (cases_eq one node);
      failed = failed-now nodes node state old new lt was gone.failed come;
    }
  where
    above : (a n : ℕ) → n + 1 ≤ a → a ≢ n
    above a n from same = omega (arith, from, same)

    between : (a n : ℕ) → a < n + 1 → a ≢ n → a < n
    between a n less other = grind (arith, nat_tests, common_steps)

    at : (one : ℕ) → one < node + 1 → Decided state → (one ≡ node) ⊎ (one ≢ node)
        → is_ready rules (set nodes node state) one ≡ false
    at one less decided (inl same) =
        let here : get_or (set nodes node state) one Failed ≡ state =
        ap (λ k. get_or (set nodes node state) k Failed) same ∙ get_or-set_same nodes node state Failed lt
        in
        rw (here, decided-not state decided) refl
    at one less decided (inr other) =
        let lower = between one node less other in
        ready-before rules nodes node one state gone.ordered lower ∙ gone.behind one lower

-- what holds while a node is open
pub record IsOpened (rules : Rules) (nodes : List NodeState) (node : ℕ) : Type 0 where
  pub open_now : slice_get (set nodes node Open) node ≡ Some Open
  pub again : set (set nodes node Open) node Open ≡ set nodes node Open
  pub one_open : open_jobs (set nodes node Open) ≡ 1
  pub unstopped : is_stopped rules (set nodes node Open) ≡ false

pub opened : (rules : Rules) (nodes : List NodeState) (failure : Option Failure) (node : ℕ)
    → IsGoneThrough rules nodes failure node → node < length nodes
    → is_stopped rules nodes ≡ false → IsOpened rules nodes node
opened rules nodes failure node gone lt going =
    let was = gone.fresh node (omega arith) lt in
    let within : node < length (set nodes node Open) = rw (length-set nodes node Open) lt in
    record {
      open_now = slice_get-get_or (set nodes node Open) node Failed within
          ∙ ap (λ s. Some s) (get_or-set_same nodes node Open Failed lt);
      again = set-set nodes node Open Open;
      one_open = open_jobs-undecided nodes node Open lt was gone.none_open;
      unstopped = ap (λ b. not rules.keep_going && b)
          (any_failed-set nodes node Open Failed lt (ap is_failed was) refl) ∙ going;
    }

-- the beginning

none-open : (plan : List PlanNode) → open_jobs (none_decided plan) ≡ 0
none-open [] = refl
none-open (node ∷ plan) = none-open plan

none-failed : (plan : List PlanNode) → list_any is_failed (none_decided plan) ≡ false
none-failed [] = refl
none-failed (node ∷ plan) = none-failed plan

as-many : (plan : List PlanNode) → length (none_decided plan) ≡ length (predecessors plan)
as-many [] = refl
as-many (node ∷ plan) = ap suc (as-many plan)

all-undecided : (plan : List PlanNode) (node : ℕ) → node < length (none_decided plan)
    → get_or (none_decided plan) node Failed ≡ Undecided
all-undecided [] node within = absurd (omega (arith, within))
all-undecided (first ∷ plan) zero within = refl
all-undecided (first ∷ plan) (suc node) within = all-undecided plan node (omega (arith, within))

pub gone-first : (plan : List PlanNode) (keep_going : Bool) → StandBehind (predecessors plan)
    → IsGoneThrough (record { before = predecessors plan; jobs = 1; keep_going = keep_going })
    (none_decided plan) None 0
gone-first plan keep_going behind = record {
  long = as-many plan;
  one_job = refl;
  ordered = behind;
  none_open = none-open plan;
  fresh = λ node from within. all-undecided plan node within;
  behind = λ node less. absurd (omega (arith, less));
  failed = none-failed plan;
}

-- the nodes of a plan stand behind their predecessors

among-at : (test : ℕ → Bool) (places : List ℕ) (one : ℕ) → list_all test places ≡ true
    → is_among places one ≡ true → test one ≡ true
among-at test [] one all among = absurd (false≢true among)
among-at test (first ∷ places) one all among =
    elim (or_cases (nat_eq one first) (is_among places one) among) [
      | inl same ↦
          subst (λ k. test k ≡ true) (sym (eqb-true one first same))
          (first-true (test first) (list_all test places) all)
      | inr later ↦ among-at test places one (second-true (test first) _ all) later
    ]

before-less : (nodes : List PlanNode) (place n one : ℕ) → are_ordered place nodes ≡ true
    → is_among (preds_of (predecessors nodes) n) one ≡ true → one < place + n
before-less [] place n one ordered among = absurd (false≢true among)
before-less (node ∷ nodes) place zero one ordered among =
    let lower = ltb-true one place (among-at (λ k. nat_lt k place) node.before one
    (first-true (is_behind place node.before) (are_ordered (place + 1) nodes) ordered) among) in
    omega (arith, lower)
before-less (node ∷ nodes) place (suc n) one ordered among =
    let rest = before-less nodes (place + 1) n one
    (second-true (is_behind place node.before) (are_ordered (place + 1) nodes) ordered) among in
    omega (arith, rest)

pub stand-behind : (plan : List PlanNode) → IsTrue (are_ordered 0 plan)
    → StandBehind (predecessors plan)
stand-behind plan ordered node one among =
    let less = before-less plan 0 node one ordered among in omega (arith, less)
