-- What a change of one node's state leaves.
use Rattle.std.proofs.Common.{◌≡◌, ◌∙◌, ℕ, zero, suc, ◌+◌, ◌-◌, ◌<◌, ◌≤◌, List, [], ◌∷◌, Option, Some, None, Bool, true, false, ◌||◌, if◌then◌else◌, length, length-set, get_or, set}
use Rattle.std.proofs.Common.{refl, sym, ap, subst, arith}
use Rattle.std.specs.List.{list_any}
use Rattle.std.proofs.lemmas.List.{get_or_default}
use Rattle.std.proofs.lemmas.List.Sums.{sum_by-set}
use Rattle.std.proofs.lemmas.Bool.Decides.{nat_tests}
use Rattle.std.proofs.lemmas.Grind.{common_steps}
use Rattle.mk_plan.specs.Deciding.{Rules, is_undecided, is_open, is_settled, is_failed, is_stopped, open_jobs, first_ready, may_decide}
use Rattle.mk_plan.specs.declared.plan.NodeState.{NodeState}
use Rattle.mk_plan.specs.declared.plan.NodeState.TheVariants.{Undecided, Open, Settled, Failed}
use Rattle.mk_sched.specs.Schedule.{Schedule}
use Rattle.mk_sched.specs.Next.{next_by, next_of}
use Rattle.mk_sched.specs.declared.sched.Next.TheVariants.{Decide}
use Rattle.mk_sched.specs.Kept.{AreTold}

-- what is known of a node that may be decided
pub record IsDecidable (rules : Rules) (nodes : List NodeState) (node : ℕ) : Type 0 where
  pub within : node < length nodes
  pub undecided : get_or nodes node Failed ≡ Undecided
  pub going : is_stopped rules nodes ≡ false
  pub tokens : open_jobs nodes < rules.jobs

is_undecided_is : (state : NodeState) → is_undecided state ≡ true → state ≡ Undecided
is_undecided_is Undecided h = refl
is_undecided_is Open h = cc
is_undecided_is Settled h = cc
is_undecided_is Failed h = cc

undecided_within : (nodes : List NodeState) (node : ℕ) → get_or nodes node Failed ≡ Undecided → node < length nodes
undecided_within [] node h = cc
undecided_within (state ∷ more) zero h = omega arith
undecided_within (state ∷ more) (suc node) h = let e = undecided_within more node h in omega (arith, e)

pub open_within : (nodes : List NodeState) (node : ℕ) → get_or nodes node Undecided ≡ Open → node < length nodes
open_within [] node h = cc
open_within (state ∷ more) zero h = omega arith
open_within (state ∷ more) (suc node) h = let e = open_within more node h in omega (arith, e)

first_undecided : (nodes : List NodeState) (place : ℕ) (before : List (List ℕ)) (node : ℕ)
    → first_ready nodes place before ≡ Some node → is_undecided (get_or nodes node Failed) ≡ true
first_undecided nodes place [] node h = cc
first_undecided nodes place (one ∷ more) node h = grind (arith, nat_tests, common_steps, first_undecided nodes (place + 1) more node)

decidable : (rules : Rules) (nodes : List NodeState) (node : ℕ) → may_decide rules nodes ≡ Some node
    → IsDecidable rules nodes node
decidable rules nodes node h =
    let going : is_stopped rules nodes ≡ false = grind (arith, nat_tests, common_steps) in
    let tokens : open_jobs nodes < rules.jobs = grind (arith, nat_tests, common_steps) in
    let first : first_ready nodes 0 rules.before ≡ Some node = grind (arith, nat_tests, common_steps) in
    let is : get_or nodes node Failed ≡ Undecided = is_undecided_is _ (first_undecided nodes 0 rules.before node first) in
    record { within = undecided_within nodes node is; undecided = is; going = going; tokens = tokens }

next_decides : (may : Option ℕ) (open_ones node : ℕ) → next_by may open_ones ≡ Decide node → may ≡ Some node
next_decides None zero node h = cc
next_decides None (suc more) node h = cc
next_decides (Some other) open_ones node h = cc

pub decided : (schedule : Schedule) (node : ℕ) → next_of schedule ≡ Decide node
    → IsDecidable schedule.rules schedule.nodes node
decided schedule node h = decidable schedule.rules schedule.nodes node (next_decides _ _ node h)

open_jobs-set : (nodes : List NodeState) (node : ℕ) (state other : NodeState) → node < length nodes
    → open_jobs (set nodes node state) + (if is_open (get_or nodes node other) then 1 else 0)
    ≡ open_jobs nodes + (if is_open state then 1 else 0)
open_jobs-set nodes node state other lt = sum_by-set (λ one. if is_open one then 1 else 0) nodes node state other lt

any_failed-set : (nodes : List NodeState) (node : ℕ) (state other : NodeState) → node < length nodes
    → is_failed (get_or nodes node other) ≡ false → is_failed state ≡ false
    → list_any is_failed (set nodes node state) ≡ list_any is_failed nodes
any_failed-set [] node state other lt was is = cc
any_failed-set (one ∷ more) zero state other lt was is = cc
any_failed-set (one ∷ more) (suc node) state other lt was is =
    let lower : node < length more = omega (arith, lt) in
    ap (λ b. is_failed one || b) (any_failed-set more node state other lower was is)

any_failed-set_failed : (nodes : List NodeState) (node : ℕ) → node < length nodes
    → list_any is_failed (set nodes node Failed) ≡ true
any_failed-set_failed [] node lt = absurd (omega (arith, lt))
any_failed-set_failed (one ∷ more) zero lt = refl
any_failed-set_failed (one ∷ more) (suc node) lt =
    let lower : node < length more = omega (arith, lt) in
    let e = any_failed-set_failed more node lower in grind (arith, common_steps)

-- an undecided node gets a state that is not failed
pub told_undecided : (before : List (List ℕ)) (nodes : List NodeState) (tokens : ℕ) (failed : Bool) (node : ℕ) (state : NodeState)
    → AreTold before nodes tokens failed → node < length nodes → get_or nodes node Failed ≡ Undecided
    → is_failed state ≡ false → (now : ℕ) → now ≡ tokens + (if is_open state then 1 else 0)
    → AreTold before (set nodes node state) now failed
told_undecided before nodes tokens failed node state told lt was is now now_is =
    let not_open : is_open (get_or nodes node Failed) ≡ false = ap is_open was in
    let not_failed : is_failed (get_or nodes node Failed) ≡ false = ap is_failed was in
    let counts = open_jobs-set nodes node state Failed lt in
    let counts_now : open_jobs (set nodes node state) + (if false then 1 else 0) ≡ open_jobs nodes + (if is_open state then 1 else 0) =
    subst (λ b. open_jobs (set nodes node state) + (if b then 1 else 0) ≡ open_jobs nodes + (if is_open state then 1 else 0)) not_open counts in
    record {
      as_many = length-set nodes node state ∙ told.as_many;
      short = told.short;
      tokens_are = omega (arith, counts_now, told.tokens_are, now_is);
      failed_is = told.failed_is ∙ sym (any_failed-set nodes node state Failed lt not_failed is);
    }

-- an undecided node is refused
pub told_refused : (before : List (List ℕ)) (nodes : List NodeState) (tokens : ℕ) (failed : Bool) (node : ℕ)
    → AreTold before nodes tokens failed → node < length nodes → get_or nodes node Failed ≡ Undecided
    → AreTold before (set nodes node Failed) tokens true
told_refused before nodes tokens failed node told lt was =
    let not_open : is_open (get_or nodes node Failed) ≡ false = ap is_open was in
    let counts_now : open_jobs (set nodes node Failed) + (if false then 1 else 0) ≡ open_jobs nodes + 0 =
    subst (λ b. open_jobs (set nodes node Failed) + (if b then 1 else 0) ≡ open_jobs nodes + 0) not_open (open_jobs-set nodes node Failed Failed lt) in
    record {
      as_many = length-set nodes node Failed ∙ told.as_many;
      short = told.short;
      tokens_are = omega (arith, counts_now, told.tokens_are);
      failed_is = sym (any_failed-set_failed nodes node lt);
    }

-- an open node has a token, which it gives back
pub held : (nodes : List NodeState) (node : ℕ) (state : NodeState) → get_or nodes node Undecided ≡ Open
    → is_open state ≡ false → open_jobs (set nodes node state) + 1 ≡ open_jobs nodes
held nodes node state was is =
    let lt = open_within nodes node was in
    let one : is_open (get_or nodes node Undecided) ≡ true = ap is_open was in
    let counts = open_jobs-set nodes node state Undecided lt in
    rw (one, is) at counts ∙ omega arith

pub told_settled : (before : List (List ℕ)) (nodes : List NodeState) (tokens : ℕ) (failed : Bool) (node : ℕ)
    → AreTold before nodes tokens failed → get_or nodes node Undecided ≡ Open
    → AreTold before (set nodes node Settled) (tokens - 1) failed
told_settled before nodes tokens failed node told was =
    let lt = open_within nodes node was in
    let not_failed : is_failed (get_or nodes node Undecided) ≡ false = ap is_failed was in
    let token = held nodes node Settled was refl in
    record {
      as_many = length-set nodes node Settled ∙ told.as_many;
      short = told.short;
      tokens_are = omega (arith, token, told.tokens_are);
      failed_is = told.failed_is ∙ sym (any_failed-set nodes node Settled Undecided lt not_failed refl);
    }

pub told_failed : (before : List (List ℕ)) (nodes : List NodeState) (tokens : ℕ) (failed : Bool) (node : ℕ)
    → AreTold before nodes tokens failed → get_or nodes node Undecided ≡ Open
    → AreTold before (set nodes node Failed) (tokens - 1) true
told_failed before nodes tokens failed node told was =
    let lt = open_within nodes node was in
    let token = held nodes node Failed was refl in
    record {
      as_many = length-set nodes node Failed ∙ told.as_many;
      short = told.short;
      tokens_are = omega (arith, token, told.tokens_are);
      failed_is = sym (any_failed-set_failed nodes node lt);
    }

-- and so where the schedule is seen from outside
pub decided_in : (schedule seen : Schedule) (node : ℕ) → schedule ≡ seen → next_of seen ≡ Decide node
    → IsDecidable schedule.rules schedule.nodes node
decided_in schedule seen node is h =
    decided schedule node (subst (λ (one : Schedule). next_of one ≡ Decide node) (sym is) h)

pub open_in : (schedule seen : Schedule) (node : ℕ) → schedule ≡ seen
    → get_or seen.nodes node Undecided ≡ Open → get_or schedule.nodes node Undecided ≡ Open
open_in schedule seen node is h =
    subst (λ (one : Schedule). get_or one.nodes node Undecided ≡ Open) (sym is) h

-- a node that is decided was not settled
pub not_settled : (nodes : List NodeState) (node : ℕ) → node < length nodes
    → get_or nodes node Failed ≡ Undecided → is_settled (get_or nodes node Undecided) ≡ false
not_settled nodes node lt was =
    ap is_settled (get_or_default nodes node Undecided Failed lt ∙ was)

-- the list at a place of lists
pub row_is : (rows : List (List ℕ)) (i : ℕ) (slice row : List ℕ) → slice ≡ row → row ≡ get_or rows i row
    → i < length rows → slice ≡ get_or rows i []
row_is rows i slice row same is lt = same ∙ (is ∙ get_or_default rows i row [] lt)

-- a start takes one token, and never more are out than jobs may be open
pub open_jobs-started : (schedule : Schedule) (node : ℕ) → next_of schedule ≡ Decide node
    → open_jobs (set schedule.nodes node Open) ≡ open_jobs schedule.nodes + 1
open_jobs-started schedule node h =
    let d = decided schedule node h in
    let not_open : is_open (get_or schedule.nodes node Failed) ≡ false = ap is_open d.undecided in
    let counts = open_jobs-set schedule.nodes node Open Failed d.within in
    let now : open_jobs (set schedule.nodes node Open) + (if false then 1 else 0) ≡ open_jobs schedule.nodes + 1 =
    subst (λ b. open_jobs (set schedule.nodes node Open) + (if b then 1 else 0) ≡ open_jobs schedule.nodes + 1) not_open counts in
    omega (arith, now)

pub tokens_suffice : (schedule : Schedule) (node : ℕ) → next_of schedule ≡ Decide node
    → open_jobs (set schedule.nodes node Open) ≤ schedule.rules.jobs
tokens_suffice schedule node h =
    let d = decided schedule node h in
    omega (arith, open_jobs-started schedule node h, d.tokens)
