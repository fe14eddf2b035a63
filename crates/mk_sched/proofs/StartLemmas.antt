-- What a scheduler keeps at the start of a run.
use Rattle.std.proofs.Common.{◌≡◌, ◌∙◌, ℕ, zero, suc, ◌+◌, ◌^◌, ◌<◌, ◌≤◌, List, [], ◌∷◌, ◌++◌, true, false, ◌&&◌, ◌==◌, nat_lt, if◌then◌else◌, length, get_or, set}
use Rattle.std.proofs.Common.{inl, inr, refl, sym, ap, subst, arith, eq-eqb}
use Rattle.std.specs.List.{list_any}
use Rattle.std.proofs.Math.ListN.{get_or-map}
use Rattle.std.proofs.lemmas.List.{get_or-set_same, get_or-set_other, get_or_default, length-map}
use Rattle.std.proofs.lemmas.Bool.{cases_eq}
use Rattle.std.proofs.lemmas.Bool.Decides.{nat_tests}
use Rattle.std.proofs.lemmas.Grind.{common_steps}
use Rattle.mk_plan.specs.Deciding.{is_undecided, is_failed, open_jobs}
use Rattle.mk_plan.specs.Plans.{is_behind, are_ordered, no_node, node_at}
use Rattle.mk_plan.specs.declared.plan.NodeState.TheVariants.{Undecided, Failed}
use Rattle.mk_plan.specs.declared.plan.PlanNode.{PlanNode}
use Rattle.mk_sched.specs.Counts.{times, unsettled, is_ready, AreFollowers}
use Rattle.mk_sched.specs.Kept.{IsKept}
use Rattle.mk_sched.specs.Least.{IsTournament, entry}
use Rattle.mk_sched.specs.Schedule.{none_decided, predecessors}
use Rattle.mk_sched.proofs.CountLemmas.{times-push}

-- a node was put among the followers of one
pub followed : (followers : List (List ℕ)) (one n : ℕ) (row now : List ℕ) → one < length followers
    → row ≡ get_or followers one row → now ≡ row ++ n ∷ []
    → (other node : ℕ) → other < length followers
    → times node (get_or (set followers one now) other [])
    ≡ times node (get_or followers other []) + (if n == node then (if one == other then 1 else 0) else 0)
followed followers one n row now lt is now_is other node within = elim (cases_eq other one) [
  | inl e ↦
      let test : (one == other) ≡ true = eq-eqb one other (sym e) in
      let at = get_or-set_same followers one now [] lt in
      let was : get_or followers one [] ≡ row = get_or_default followers one [] row lt ∙ sym is in
      let more : times node now ≡ times node row + (if n == node then 1 else 0) = ap (times node) now_is ∙ times-push row n node in
      rw (test, e, at, was) more
  | inr ne ↦
      let test : (one == other) ≡ false = grind (arith, nat_tests) in
      let at = get_or-set_other followers one other now [] ne in
      rw (test, at) (grind (arith, nat_tests, common_steps))
]

is_behind_more : (low high : ℕ) (before : List ℕ) → low ≤ high → is_behind low before ≡ true → is_behind high before ≡ true
is_behind_more low high [] le h = refl
is_behind_more low high (one ∷ more) le h =
    let first : nat_lt one low ≡ true = grind (arith, nat_tests, common_steps) in
    let rest : is_behind low more ≡ true = grind (arith, nat_tests, common_steps) in
    let more_is = is_behind_more low high more le rest in
    grind (arith, nat_tests, common_steps)

ordered_at : (plan : List PlanNode) (place i : ℕ) → are_ordered place plan ≡ true → i < length plan
    → is_behind (place + i) (node_at plan i).before ≡ true
ordered_at [] place i h lt = absurd (omega (arith, lt))
ordered_at (node ∷ more) place zero h lt =
    let same : place ≡ place + 0 = omega arith in
    subst (λ k. is_behind k node.before ≡ true) same (grind (arith, common_steps))
ordered_at (node ∷ more) place (suc i) h lt =
    let rest : are_ordered (place + 1) more ≡ true = grind (arith, common_steps) in
    let lower : i < length more = omega (arith, lt) in
    let same : (place + 1) + i ≡ place + suc i = omega arith in
    subst (λ k. is_behind k (node_at more i).before ≡ true) same (ordered_at more (place + 1) i rest lower)

-- the predecessors of a node are nodes
pub before_within : (plan : List PlanNode) (node bound : ℕ) (before : List ℕ) → are_ordered 0 plan ≡ true
    → node < length plan → bound ≡ length plan → before ≡ (node_at plan node).before
    → is_behind bound before ≡ true
before_within plan node bound before ordered lt is are =
    let le : 0 + node ≤ bound = omega (arith, lt, is) in
    rw are (is_behind_more (0 + node) bound (node_at plan node).before le (ordered_at plan 0 node ordered lt))

pub predecessors-at : (plan : List PlanNode) (node : ℕ)
    → get_or (predecessors plan) node [] ≡ (node_at plan node).before
predecessors-at plan node = get_or-map (λ (one : PlanNode). one.before) plan node no_node

none_open : (plan : List PlanNode) → open_jobs (none_decided plan) ≡ 0
none_open [] = refl
none_open (node ∷ more) = none_open more

none_failed : (plan : List PlanNode) → list_any is_failed (none_decided plan) ≡ false
none_failed [] = refl
none_failed (node ∷ more) = none_failed more

none_decided-at : (plan : List PlanNode) (node : ℕ) → get_or (none_decided plan) node Undecided ≡ Undecided
none_decided-at [] node = refl
none_decided-at (first ∷ more) zero = refl
none_decided-at (first ∷ more) (suc node) = none_decided-at more node

all_unsettled : (plan : List PlanNode) (before : List ℕ) → unsettled (none_decided plan) before ≡ length before
all_unsettled plan [] = refl
all_unsettled plan (one ∷ more) =
    let rest = all_unsettled plan more in
    rw (none_decided-at plan one) (omega (arith, rest))

ready_at_start : (plan : List PlanNode) (counts : List ℕ) (node : ℕ) → node < length plan
    → is_ready (none_decided plan) counts node ≡ (get_or counts node 0 == 0)
ready_at_start plan counts node lt =
    let many = length-map plan (λ (_ : PlanNode). Undecided) in
    let within : node < length (none_decided plan) = omega (arith, many, lt) in
    ap (λ state. is_undecided state && (get_or counts node 0 == 0))
    (get_or_default (none_decided plan) node Failed Undecided within ∙ none_decided-at plan node)

-- what is kept where no node was decided
pub kept_at_start : (plan : List PlanNode) (followers : List (List ℕ)) (counts entries : List ℕ)
    → length plan < 2 ^ 32 → AreFollowers (predecessors plan) followers → length counts ≡ length plan
    → ((node : ℕ) → node < length plan → get_or counts node 0 ≡ length (node_at plan node).before)
    → IsTournament (length counts) entries
    → ((node : ℕ) → node < length counts → entry entries (length counts + node)
    ≡ (if get_or counts node 0 == 0 then node else length counts))
    → IsKept (predecessors plan) followers (none_decided plan) counts entries 0 false
kept_at_start plan followers counts entries short f long each tournament entered =
    let many = length-map plan (λ (_ : PlanNode). Undecided) in
    let rows = length-map plan (λ (node : PlanNode). node.before) in
    let all : length (none_decided plan) ≡ length counts = many ∙ sym long in
    record {
      told = record {
        as_many = many ∙ sym rows;
        short = omega (arith, rows, short);
        tokens_are = sym (none_open plan);
        failed_is = sym (none_failed plan);
      };
      followers_are = f;
      counts_are = record {
        long = long ∙ sym rows;
        each = λ node lt.
            let within : node < length plan = omega (arith, rows, lt) in
            each node within ∙ (sym (ap length (predecessors-at plan node))
            ∙ sym (all_unsettled plan (get_or (predecessors plan) node [])));
      };
      entered_are = record {
        as_many = sym all;
        tournament = subst (λ n. IsTournament n entries) (sym all) tournament;
        each = λ node lt.
            let within : node < length plan = omega (arith, many, lt) in
            let inside : node < length counts = omega (arith, all, lt) in
            subst (λ n. entry entries (n + node) ≡ (if is_ready (none_decided plan) counts node then node else n)) (sym all)
            (entered node inside ∙ ap (λ b. if b then node else length counts) (sym (ready_at_start plan counts node within)));
      };
    }
