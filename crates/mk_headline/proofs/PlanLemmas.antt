-- What the plan of a build is for the clean build.
use Rattle.std.proofs.Common.{◌≡◌, ◌≢◌, ◌∙◌, ◌⊎◌, ℕ, zero, suc, ◌+◌, ◌<◌, ◌≤◌, ◌&&◌, ◌||◌, nat_lt, nat_eq, List, [], ◌∷◌, length, get_or, Bool, true, false}
use Rattle.std.proofs.Common.{inl, inr, refl, sym, ap, subst, arith, eqb-true}
use Rattle.std.proofs.lemmas.Bool.{cases_eq, cond_both, false≢true, or_cases, ltb-true}
use Rattle.std.proofs.lemmas.Bool.Decides.{nat_tests}
use Rattle.std.proofs.lemmas.Grind.{common_steps}
use Rattle.std.proofs.lemmas.List.{get_or-map}
use Rattle.std.specs.List.{list_any, list_all}
use Rattle.mk_clean.proofs.CleanLemmas.{node_of_job}
use Rattle.mk_clean.specs.Clean.{CleanJob, DependsOn, source, through, IsAmong, StandsBefore, clean_jobs, after_job, clean_build, cleared, lines_in}
use Rattle.mk_clean.specs.Clean as clean
use Rattle.mk_clean.specs.Declared.{AreWellMade}
use Rattle.mk_decision.specs.Decisions.{Work}
use Rattle.mk_filemon.proofs.PathLemmas.{bytes_eq-same}
use Rattle.mk_graph.specs.Closed.{Reaches, given, behind}
use Rattle.mk_graph.specs.Walks.{is_among, preds_of}
use Rattle.mk_headline.specs.Plans.{has_job, is_called, is_meta_path, jobs_from, clean_plan, makes_file}
use Rattle.mk_headline.specs.Premises.{IsWellMade}
use Rattle.mk_meta.specs.TrueHistory.{meta_path}
use Rattle.mk_plan.specs.PlanLaws.{plan_names}
use Rattle.mk_plan.specs.Plans.{is_behind, are_ordered, are_sourced, has_its_sources, no_node, node_at}
use Rattle.mk_plan.specs.declared.plan.PlanNode.{PlanNode}
use Rattle.mk_sched.proofs.StartLemmas.{predecessors-at}
use Rattle.mk_sched.specs.Schedule.{predecessors}
use Rattle.mk_trace.specs.Runs.{Tasks}
use Rattle.mk_world.specs.Deeds.{Store}
use Rattle.mk_world.specs.Talks.{Meaning}

first-true : (a b : Bool) → (a && b) ≡ true → a ≡ true
first-true true b is = refl
first-true false b is = absurd (false≢true is)

second-true : (a b : Bool) → (a && b) ≡ true → b ≡ true
second-true true b is = is
second-true false b is = absurd (false≢true is)

-- meta paths

or_right : (a b : Bool) → b ≡ true → (a || b) ≡ true
or_right true b is = refl
or_right false b is = is

pub meta_path-is : (target : List ℕ) → is_meta_path (meta_path target) ≡ true
meta_path-is [] = refl
meta_path-is (byte ∷ target) = or_right _ _ (meta_path-is target)

-- the nodes that have jobs

not-nil-past : (n : ℕ) → has_job (node_at [] n) ≡ true → ⊥
not-nil-past n has = absurd (false≢true has)

job-from : (place : ℕ) (nodes : List PlanNode) (n : ℕ) → has_job (node_at nodes n) ≡ true
    → IsAmong (place + n) (jobs_from place nodes)
job-from place [] n has = absurd (not-nil-past n has)
job-from place (node ∷ nodes) zero has =
    let same : place + 0 ≡ place = omega arith in rw has (inl same)
job-from place (node ∷ nodes) (suc n) has =
    let rest = job-from (place + 1) nodes n has in
    let same : place + 1 + n ≡ place + suc n = omega arith in
    let here = subst (λ k. IsAmong k (jobs_from (place + 1) nodes)) same rest in
    cond_both (has_job node) (place ∷ jobs_from (place + 1) nodes) (jobs_from (place + 1) nodes)
    (λ l. IsAmong (place + suc n) l) (λ has_one. inr here) (λ has_none. here)

pub job-among : (work : Work) (n : ℕ) → has_job (node_at work.plan n) ≡ true
    → IsAmong n (jobs_from 0 work.plan)
job-among work n has =
    let same : 0 + n ≡ n = omega arith in
    subst (λ k. IsAmong k (jobs_from 0 work.plan)) same (job-from 0 work.plan n has)

-- what is among them
record IsJobAt (place : ℕ) (nodes : List PlanNode) (one : ℕ) : Type 0 where
  n : ℕ
  is : one ≡ place + n
  within : n < length nodes
  has : has_job (node_at nodes n) ≡ true

jobs-at : (place : ℕ) (nodes : List PlanNode) (one : ℕ) → IsAmong one (jobs_from place nodes)
    → IsJobAt place nodes one
jobs-at place [] one among = absurd among
jobs-at place (node ∷ nodes) one among =
    cond_both (has_job node) (place ∷ jobs_from (place + 1) nodes) (jobs_from (place + 1) nodes)
    (λ l. IsAmong one l → IsJobAt place (node ∷ nodes) one)
    (λ has given_one. first (jobs-at (place + 1) nodes one) has given_one)
    (λ none given_one. later (jobs-at (place + 1) nodes one given_one)) among
  where
    later : IsJobAt (place + 1) nodes one → IsJobAt place (node ∷ nodes) one
    later at = record {
      n = suc at.n;
      is = let is = at.is in omega (arith, is);
      within = let less = at.within in omega (arith, less);
      has = at.has;
    }

    first : (IsAmong one (jobs_from (place + 1) nodes) → IsJobAt (place + 1) nodes one)
        → has_job node ≡ true → (one ≡ place) ⊎ IsAmong one (jobs_from (place + 1) nodes)
        → IsJobAt place (node ∷ nodes) one
    first more has (inl same) =
        record { n = 0; is = omega (arith, same); within = omega arith; has = has }
    first more has (inr among_later) = later (more among_later)

pub job-has : (work : Work) (one : ℕ) → IsAmong one (jobs_from 0 work.plan)
    → (one < length work.plan) × (has_job (node_at work.plan one) ≡ true)
job-has work one among =
    let at = jobs-at 0 work.plan one among in
    let same : one ≡ at.n = let is = at.is in omega (arith, is) in
    let less = at.within in
    (omega (arith, less, same), subst (λ k. has_job (node_at work.plan k) ≡ true) (sym same) at.has)

-- no two jobs of the clean build are of one node

pub clean-node : (meaning : Meaning) (plan : clean.Plan) (nodes : List ℕ) (store : Store) (one : CleanJob)
    → IsAmong one (clean_jobs meaning plan nodes store) → IsAmong one.node nodes
clean-node meaning plan = node_of_job meaning plan.command (lines_in plan)

-- the places rise
abbrev AreLater : ℕ → List ℕ → Type 0
AreLater place nodes = (one : ℕ) → IsAmong one nodes → place ≤ one

AreRising : List ℕ → Type 0
AreRising [] = Unit {0}
AreRising (node ∷ nodes) = ((one : ℕ) → IsAmong one nodes → node < one) × AreRising nodes

jobs-later : (place : ℕ) (nodes : List PlanNode) → AreLater place (jobs_from place nodes)
jobs-later place nodes one among =
    let at = jobs-at place nodes one among in let is = at.is in omega (arith, is)

jobs-rise : (place : ℕ) (nodes : List PlanNode) → AreRising (jobs_from place nodes)
unfolding AreRising
jobs-rise place [] = tt
jobs-rise place (node ∷ nodes) =
    let rest = jobs-rise (place + 1) nodes in
    cond_both (has_job node) (place ∷ jobs_from (place + 1) nodes) (jobs_from (place + 1) nodes) AreRising
    (λ has.
    ((λ one among. let le = jobs-later (place + 1) nodes one among in omega (arith, le)), rest))
    (λ none. rest)

rising-once : (meaning : Meaning) (plan : clean.Plan) (nodes : List ℕ) (store : Store) → AreRising nodes
    → (one other : CleanJob) → StandsBefore one other (clean_jobs meaning plan nodes store)
    → one.node ≢ other.node
unfolding AreRising
rising-once meaning plan [] store rises one other before = absurd before
rising-once meaning plan (node ∷ nodes) store rises one other (inl here) = λ same.
    let first : one.node ≡ node = ap (λ (job : CleanJob). job.node) here.0 in
    let less = rises.0 other.node
    (clean-node meaning plan nodes (after_job meaning plan node store) other here.1) in
    omega (arith, less, first, same)
rising-once meaning plan (node ∷ nodes) store rises one other (inr later) =
    rising-once meaning plan nodes (after_job meaning plan node store) rises.1 one other later

rising-before : (meaning : Meaning) (plan : clean.Plan) (nodes : List ℕ) (store : Store) → AreRising nodes
    → (one other : CleanJob) → IsAmong one (clean_jobs meaning plan nodes store)
    → IsAmong other (clean_jobs meaning plan nodes store) → other.node < one.node
    → StandsBefore other one (clean_jobs meaning plan nodes store)
unfolding AreRising
rising-before meaning plan [] store rises one other among also less = absurd among
rising-before meaning plan (node ∷ nodes) store rises one other (inl here) (inl there) less =
    let first : one.node ≡ node = ap (λ (job : CleanJob). job.node) here in
    let second : other.node ≡ node = ap (λ (job : CleanJob). job.node) there in
    absurd (omega (arith, less, first, second))
rising-before meaning plan (node ∷ nodes) store rises one other (inl here) (inr later) less =
    let first : one.node ≡ node = ap (λ (job : CleanJob). job.node) here in
    let more = rises.0 other.node
    (clean-node meaning plan nodes (after_job meaning plan node store) other later) in
    absurd (omega (arith, less, first, more))
rising-before meaning plan (node ∷ nodes) store rises one other (inr later) (inl there) less = inl (there, later)
rising-before meaning plan (node ∷ nodes) store rises one other (inr later) (inr also) less =
    inr (rising-before meaning plan nodes (after_job meaning plan node store) rises.1 one other later also less)

-- names differ

length-names : (nodes : List PlanNode) → length (plan_names nodes) ≡ length nodes
length-names [] = refl
length-names (one ∷ nodes) = ap suc (length-names nodes)

name-at : (nodes : List PlanNode) (n : ℕ) → n < length nodes
    → get_or (plan_names nodes) n [] ≡ (node_at nodes n).name
name-at nodes n within = get_or-map (λ (one : PlanNode). one.name) nodes n no_node [] within

differ-below : (work : Work) → IsWellMade work → (n other : ℕ) → n < other → other < length work.plan
    → (node_at work.plan n).name ≡ (node_at work.plan other).name → ⊥
differ-below work well n other less within same =
    let all = length-names work.plan in
    well.distinct n other [] less (omega (arith, within, all))
    (name-at work.plan n (omega (arith, less, within))
    ∙ (same ∙ sym (name-at work.plan other within)))

pub names-differ : (work : Work) → IsWellMade work → (n other : ℕ) → n < length work.plan
    → other < length work.plan → (node_at work.plan n).name ≡ (node_at work.plan other).name
    → n ≡ other
names-differ work well n other within also same = elim (cases_eq n other) [
  | inl is ↦ is
  | inr differs ↦ by (nat_lt n other) refl
]
  where
    by : (b : Bool) → nat_lt n other ≡ b → n ≡ other
    by true is = absurd (differ-below work well n other (ltb-true n other is) also same)
    by false is = elim (cases_eq n other) [
      | inl here ↦ here
      | inr differs ↦
          absurd (differ-below work well other n (below is differs) within (sym same))
    ]
      where
        below : nat_lt n other ≡ false → n ≢ other → other < n
        below not_less differs = grind (arith, nat_tests, common_steps)

-- the path of a node is one

called-at : (nodes : List PlanNode) (n : ℕ) → n < length nodes
    → list_any (is_called (node_at nodes n).name) nodes ≡ true
called-at [] n within = absurd (omega (arith, within))
called-at (node ∷ nodes) zero within = rw (bytes_eq-same node.name) refl
called-at (node ∷ nodes) (suc n) within =
    or_right _ _ (called-at nodes n (omega (arith, within)))

pub node-is : (work : Work) (tasks : Tasks) (n : ℕ) → n < length work.plan
    → (clean_plan work tasks).is_node (node_at work.plan n).name ≡ true
node-is work tasks n within = called-at work.plan n within

made-at : (nodes : List PlanNode) (n : ℕ) → n < length nodes → makes_file (node_at nodes n) ≡ true
    → list_any (λ node. makes_file node && is_called (node_at nodes n).name node) nodes ≡ true
made-at [] n within makes = absurd (omega (arith, within))
made-at (node ∷ nodes) zero within makes = rw (makes, bytes_eq-same node.name) refl
made-at (node ∷ nodes) (suc n) within makes =
    or_right _ _ (made-at nodes n (omega (arith, within)) makes)

-- dependence through sources is dependence through predecessors

list_all-at : (test : ℕ → Bool) (places : List ℕ) (one : ℕ) → list_all test places ≡ true
    → IsAmong one places → test one ≡ true
list_all-at test [] one all among = absurd among
list_all-at test (first ∷ places) one all (inl same) =
    subst (λ k. test k ≡ true) (sym same) (first-true (test first) (list_all test places) all)
list_all-at test (first ∷ places) one all (inr among) =
    list_all-at test places one (second-true (test first) _ all) among

source-before : (nodes : List PlanNode) (n one : ℕ) → are_sourced nodes ≡ true
    → IsAmong one (node_at nodes n).sources → is_among (node_at nodes n).before one ≡ true
source-before [] n one sourced among = absurd among
source-before (node ∷ nodes) zero one sourced among =
    list_all-at (is_among node.before) node.sources one
    (first-true (has_its_sources node) (list_all has_its_sources nodes) sourced) among
source-before (node ∷ nodes) (suc n) one sourced among =
    source-before nodes n one (second-true (has_its_sources node) _ sourced) among

source-pred : (work : Work) → IsWellMade work → (n one : ℕ) → IsAmong one (node_at work.plan n).sources
    → is_among (preds_of (predecessors work.plan) n) one ≡ true
source-pred work well n one among =
    subst (λ l. is_among l one ≡ true) (sym (predecessors-at work.plan n))
    (source-before work.plan n one well.sourced among)

pub depends-reaches : (work : Work) (tasks : Tasks) → IsWellMade work → (n other : ℕ)
    → DependsOn (clean_plan work tasks) n other
    → Reaches (predecessors work.plan) (preds_of (predecessors work.plan) n) other
depends-reaches work tasks well n other (source one among) = given (source-pred work well n one among)
depends-reaches work tasks well n other (through between one depends among) =
    behind (depends-reaches work tasks well n between depends) (source-pred work well between one among)

-- and goes back

among-at : (test : ℕ → Bool) (places : List ℕ) (one : ℕ) → list_all test places ≡ true
    → is_among places one ≡ true → test one ≡ true
among-at test [] one all among = absurd (false≢true among)
among-at test (first ∷ places) one all among =
    elim (or_cases (nat_eq one first) (is_among places one) among) [
      | inl same ↦
          subst (λ k. test k ≡ true) (sym (eqb-true one first same))
          (first-true (test first) (list_all test places) all)
      | inr later ↦ among-at test places one (second-true (test first) _ all) later
    ]

pub before-less : (nodes : List PlanNode) (place n one : ℕ) → are_ordered place nodes ≡ true
    → is_among (node_at nodes n).before one ≡ true → one < place + n
before-less [] place n one ordered among = absurd (false≢true among)
before-less (node ∷ nodes) place zero one ordered among =
    let lower = ltb-true one place (among-at (λ k. nat_lt k place) node.before one
    (first-true (is_behind place node.before) (are_ordered (place + 1) nodes) ordered) among) in
    omega (arith, lower)
before-less (node ∷ nodes) place (suc n) one ordered among =
    let rest = before-less nodes (place + 1) n one
    (second-true (is_behind place node.before) (are_ordered (place + 1) nodes) ordered) among in
    omega (arith, rest)

pub depends-less : (work : Work) (tasks : Tasks) → IsWellMade work → (n other : ℕ)
    → DependsOn (clean_plan work tasks) n other → other < n
depends-less work tasks well n other (source one among) =
    let less = before-less work.plan 0 n one well.ordered (source-before work.plan n one well.sourced among) in
    omega (arith, less)
depends-less work tasks well n other (through between one depends among) =
    let first = depends-less work tasks well n between depends in
    let less = before-less work.plan 0 between one well.ordered
    (source-before work.plan between one well.sourced among) in
    omega (arith, first, less)

-- the jobs of the clean build

pub are-well-made : (meaning : Meaning) (work : Work) (tasks : Tasks) (store : Store) → IsWellMade work
    → AreWellMade (clean_plan work tasks) (clean_build meaning (clean_plan work tasks) store)
are-well-made meaning work tasks store well = record {
  is_node = λ one among. node-is work tasks one.node (job-has work one.node (at one among)).0;
  is_made = λ one among made. made-at work.plan one.node (job-has work one.node (at one among)).0 made;
  names = λ one other among also same.
      let first = job-has work one.node (at one among) in
      let second = job-has work other.node (at other also) in
      names-differ work well one.node other.node first.0 second.0 same;
  once = λ one other before.
      rising-once meaning plan plan.order (cleared plan store) (jobs-rise 0 work.plan) one other before;
  ordered = λ one other among also depends.
      rising-before meaning plan plan.order (cleared plan store) (jobs-rise 0 work.plan) one other among also
      (depends-less work tasks well one.node other.node depends);
}
  where
    plan : clean.Plan
    plan = clean_plan work tasks

    at : (one : CleanJob) → IsAmong one (clean_build meaning plan store) → IsAmong one.node (jobs_from 0 work.plan)
    at one among = clean-node meaning plan plan.order (cleared plan store) one among

pub length-before : (nodes : List PlanNode) → length (predecessors nodes) ≡ length nodes
length-before [] = refl
length-before (node ∷ nodes) = ap suc (length-before nodes)
