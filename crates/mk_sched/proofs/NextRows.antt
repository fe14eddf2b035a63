-- Worked rows: what comes next in small runs.
use Rattle.std.proofs.Common.{◌≡◌, ℕ, List, [], ◌∷◌, Bool, true, false, refl}
use Rattle.mk_plan.specs.declared.plan.NodeState.{NodeState}
use Rattle.mk_plan.specs.declared.plan.NodeState.TheVariants.{Undecided, Open, Settled, Failed}
use Rattle.mk_sched.specs.Next.{next_of}
use Rattle.mk_sched.specs.Schedule.{Schedule}
use Rattle.mk_sched.specs.declared.sched.Next.TheVariants.{Decide, Wait, Over}

-- nodes 0 and 1 need nothing, and node 2 needs both
abbrev both : ℕ → Bool → List NodeState → Schedule
both jobs keep_going nodes = record {
  rules = record {
    before = [] ∷ [] ∷ (0 ∷ 1 ∷ []) ∷ [];
    jobs = jobs;
    keep_going = keep_going;
  };
  nodes = nodes;
}

first_node_first : next_of (both 2 false (Undecided ∷ Undecided ∷ Undecided ∷ [])) ≡ Decide 0
first_node_first = refl

second_job : next_of (both 2 false (Open ∷ Undecided ∷ Undecided ∷ [])) ≡ Decide 1
second_job = refl

-- also a node without commands needs a token
no_token_left : next_of (both 1 false (Open ∷ Undecided ∷ Undecided ∷ [])) ≡ Wait
no_token_left = refl

not_all_settled : next_of (both 2 false (Settled ∷ Open ∷ Undecided ∷ [])) ≡ Wait
not_all_settled = refl

all_are_settled : next_of (both 2 false (Settled ∷ Settled ∷ Undecided ∷ [])) ≡ Decide 2
all_are_settled = refl

all_is_made : next_of (both 2 false (Settled ∷ Settled ∷ Settled ∷ [])) ≡ Over
all_is_made = refl

stopped_by_a_failure : next_of (both 2 false (Failed ∷ Undecided ∷ Undecided ∷ [])) ≡ Over
stopped_by_a_failure = refl

open_job_ends_behind_a_failure : next_of (both 2 false (Failed ∷ Open ∷ Undecided ∷ [])) ≡ Wait
open_job_ends_behind_a_failure = refl

goes_on_behind_a_failure : next_of (both 2 true (Failed ∷ Undecided ∷ Undecided ∷ [])) ≡ Decide 1
goes_on_behind_a_failure = refl

-- what needs a failed node is never made
needs_a_failed_node : next_of (both 2 true (Failed ∷ Settled ∷ Undecided ∷ [])) ≡ Over
needs_a_failed_node = refl

no_plan : next_of (record { rules = record { before = []; jobs = 1; keep_going = false }; nodes = [] }) ≡ Over
no_plan = refl

-- a predecessor may stand twice
abbrev twice : NodeState → Schedule
twice first = record {
  rules = record { before = [] ∷ (0 ∷ 0 ∷ []) ∷ []; jobs = 2; keep_going = false };
  nodes = first ∷ Undecided ∷ [];
}

twice_and_open : next_of (twice Open) ≡ Wait
twice_and_open = refl

twice_and_settled : next_of (twice Settled) ≡ Decide 1
twice_and_settled = refl
