-- Builds whose tasks agree: an item goes by the lines of one node, or of none.
use Rattle.std.proofs.Common.{◌≡◌, ◌≢◌, ◌⊎◌, ◌∙◌, ℕ, ◌+◌, ◌^◌, ◌<◌, nat_le, Bool, true, false, ◌||◌, List, length, set, slice_get, Option, Some, None, if◌then◌else◌}
use Rattle.std.proofs.Common.{inl, inr, refl, sym, ap, subst}
use Rattle.std.proofs.lemmas.Bool.{cases_eq}
use Rattle.mk_decision.specs.Decisions.{IsBegun, IsKept, Work}
use Rattle.mk_meta.specs.Texts.{meta_text}
use Rattle.mk_plan.specs.Deciding.{is_stopped}
use Rattle.mk_plan.specs.declared.plan.NodeState.{NodeState}
use Rattle.mk_plan.specs.declared.plan.NodeState.TheVariants.{Open, Settled, Failed}
use Rattle.mk_trace.proofs.TrueRuns.{slice-other}
use Rattle.mk_trace.specs.Builds.{Build, IsHead, IsWhole, MayChange, MayMake, build_after, rules_of}
use Rattle.mk_trace.specs.Collected.{meta_of}
use Rattle.mk_trace.specs.Items.{Change, gone, head, whole, cut_head, cut_whole, Item, looks, keeps, refuses, starts, passes, waits, steps, ends, changes, leaves, reported}
use Rattle.mk_trace.specs.Runs as run
use Rattle.mk_world.specs.declared.command.TaskLine.{TaskLine}

-- the node of a change that goes by its lines
abbrev pub changed_for : ℕ → Change → Option ℕ
changed_for node (gone path time) = None
changed_for node (head path bytes time) = Some node
changed_for node (whole path bytes time) = Some node
changed_for node (cut_head path part time) = Some node
changed_for node (cut_whole path part time) = Some node

-- the node by whose lines an item goes
abbrev pub goes_by : Item → Option ℕ
goes_by (looks node seen) = None
goes_by (keeps node) = None
goes_by (refuses node number what) = None
goes_by (starts node number ticket owner cmd) = Some node
goes_by (passes node number) = Some node
goes_by waits = None
goes_by (steps ticket owner deed time) = None
goes_by (ends node number owner ended) = Some node
goes_by (changes node change) = changed_for node change
goes_by (leaves ticket owner) = None

-- the node that an item decides, starts or ends
abbrev pub node_of : Item → Option ℕ
node_of (looks node seen) = None
node_of (keeps node) = Some node
node_of (refuses node number what) = Some node
node_of (starts node number ticket owner cmd) = Some node
node_of (passes node number) = Some node
node_of waits = None
node_of (steps ticket owner deed time) = None
node_of (ends node number owner ended) = Some node
node_of (changes node change) = changed_for node change
node_of (leaves ticket owner) = None

-- each task is these lines
abbrev one_task : List TaskLine → run.Tasks
one_task lines = λ node. lines

-- the lines of an item's node are the same
abbrev pub Agree : run.Tasks → run.Tasks → Item → Type 0
Agree tasks other item = (node : ℕ) → goes_by item ≡ Some node → tasks node ≡ other node

-- a build goes on in one way
pub build-agrees : (work : Work) (tasks other : run.Tasks) (build : Build) (item : Item) → Agree tasks other item
    → build_after work other build item ≡ build_after work tasks build item
build-agrees work tasks other build (looks node seen) same = refl
build-agrees work tasks other build (keeps node) same = refl
build-agrees work tasks other build (refuses node number what) same = refl
build-agrees work tasks other build (starts node number ticket owner cmd) same =
    ap (λ lines. build_after work (one_task lines) build (starts node number ticket owner cmd)) (sym (same node refl))
build-agrees work tasks other build (passes node number) same =
    ap (λ lines. build_after work (one_task lines) build (passes node number)) (sym (same node refl))
build-agrees work tasks other build waits same = refl
build-agrees work tasks other build (steps ticket owner deed time) same = refl
build-agrees work tasks other build (ends node number owner ended) same =
    ap (λ lines. build_after work (one_task lines) build (ends node number owner ended)) (sym (same node refl))
build-agrees work tasks other build (changes node change) same = refl
build-agrees work tasks other build (leaves ticket owner) same = refl

-- an item may be made by the rules of runs
pub run-agrees : (work : Work) (tasks other : run.Tasks) (build : Build) (item : Item) → Agree tasks other item
    → run.MayAll (rules_of work) tasks build.run (reported item)
    → run.MayAll (rules_of work) other build.run (reported item)
run-agrees work tasks other build (looks node seen) same may = may
run-agrees work tasks other build (keeps node) same may = may
run-agrees work tasks other build (refuses node number what) same may = may
run-agrees work tasks other build (starts node number ticket owner cmd) same may =
    subst (λ lines. run.MayAll (rules_of work) (one_task lines) build.run
    (reported (starts node number ticket owner cmd))) (same node refl) may
run-agrees work tasks other build (passes node number) same may =
    subst (λ lines. run.MayAll (rules_of work) (one_task lines) build.run (reported (passes node number)))
    (same node refl) may
run-agrees work tasks other build waits same may = may
run-agrees work tasks other build (steps ticket owner deed time) same may = may
run-agrees work tasks other build (ends node number owner ended) same may = may
run-agrees work tasks other build (changes node change) same may = may
run-agrees work tasks other build (leaves ticket owner) same may = may

-- a reason to begin a node
begun-agrees : (work : Work) (tasks other : run.Tasks) (build : Build) (node : ℕ) → tasks node ≡ other node
    → IsBegun work node (build.seen node) (tasks node) → IsBegun work node (build.seen node) (other node)
begun-agrees work tasks other build node same begun = (begun.0, begun.1, begun.2, sym same ∙ begun.3)

head-agrees : (work : Work) (tasks other : run.Tasks) (build : Build) (node : ℕ) (path bytes : List ℕ)
    → tasks node ≡ other node → IsHead work tasks build node path bytes → IsHead work other build node path bytes
head-agrees work tasks other build node path bytes same is = record {
  may = is.may;
  reason = begun-agrees work tasks other build node same is.reason;
  some = subst (λ lines. 0 < length lines) same is.some;
  in_meta = is.in_meta;
  path_is = is.path_is;
  bytes_are = is.bytes_are;
}

whole-agrees : (work : Work) (tasks other : run.Tasks) (build : Build) (node : ℕ) (path bytes : List ℕ)
    → tasks node ≡ other node → IsWhole work tasks build node path bytes → IsWhole work other build node path bytes
whole-agrees work tasks other build node path bytes same is = record {
  path_is = is.path_is;
  bytes_are = subst (λ lines. bytes ≡ meta_text (meta_of work node lines (build.own node).collected)) same
      is.bytes_are;
  countable = is.countable;
  few = subst (λ lines. length lines < 2 ^ 32) same is.few;
  exports = is.exports;
}

change-agrees : (work : Work) (tasks other : run.Tasks) (build : Build) (node : ℕ) (change : Change)
    → ((one : ℕ) → changed_for node change ≡ Some one → tasks one ≡ other one)
    → MayChange work tasks build node change → MayChange work other build node change
unfolding head-agrees begun-agrees
change-agrees work tasks other build node (gone path time) same may = may
change-agrees work tasks other build node (head path bytes time) same may =
    (head-agrees work tasks other build node path bytes (same node refl) may.0, may.1)
change-agrees work tasks other build node (whole path bytes time) same may =
    (whole-agrees work tasks other build node path bytes (same node refl) may.0, may.1)
change-agrees work tasks other build node (cut_head path part time) same may =
    (may.0, head-agrees work tasks other build node path may.0 (same node refl) may.1, may.2)
change-agrees work tasks other build node (cut_whole path part time) same may =
    (may.0, whole-agrees work tasks other build node path may.0 (same node refl) may.1, may.2)

-- an item may be made for its reason, where that is said of a node that is kept
pub make-agrees : (work : Work) (tasks other : run.Tasks) (build : Build) (item : Item) → Agree tasks other item
    → ((node : ℕ) → item ≡ keeps node → IsKept work node (build.seen node) (other node))
    → MayMake work tasks build item → MayMake work other build item
make-agrees work tasks other build (looks node seen) same kept may = may
make-agrees work tasks other build (keeps node) same kept may =
    kept node refl
make-agrees work tasks other build (refuses node number what) same kept may = may
make-agrees work tasks other build (starts node number ticket owner cmd) same kept may =
    subst (λ lines. MayMake work (one_task lines) build (starts node number ticket owner cmd)) (same node refl) may
make-agrees work tasks other build (passes node number) same kept may =
    subst (λ lines. MayMake work (one_task lines) build (passes node number)) (same node refl) may
make-agrees work tasks other build waits same kept may = may
make-agrees work tasks other build (steps ticket owner deed time) same kept may = may
make-agrees work tasks other build (ends node number owner ended) same kept may = may
make-agrees work tasks other build (changes node change) same kept may =
    change-agrees work tasks other build node change same may
make-agrees work tasks other build (leaves ticket owner) same kept may = may

-- the states of other nodes stay

abbrev ended_nodes : List NodeState → ℕ → Bool → Bool → Bool → List NodeState
ended_nodes nodes node failed last stops =
    if failed then set nodes node Failed else (if last || stops then set nodes node Settled else nodes)

ended-other : (nodes : List NodeState) (node other : ℕ) (failed last stops : Bool) → other ≢ node
    → slice_get (ended_nodes nodes node failed last stops) other ≡ slice_get nodes other
ended-other nodes node other true last stops apart = slice-other nodes node other Failed apart
ended-other nodes node other false true stops apart = slice-other nodes node other Settled apart
ended-other nodes node other false false true apart = slice-other nodes node other Settled apart
ended-other nodes node other false false false apart = refl

ended-nodes : (state : run.State) (node number : ℕ) (failed last stops : Bool)
    → (if failed then run.settle state node Failed
    else (if last || stops then run.settle state node Settled
    else record { nodes = state.nodes; started = state.started; due = run.line node (number + 1) })).nodes
    ≡ ended_nodes state.nodes node failed last stops
ended-nodes state node number true last stops = refl
ended-nodes state node number false true stops = refl
ended-nodes state node number false false true = refl
ended-nodes state node number false false false = refl

line-ended : (work : Work) (tasks : run.Tasks) (state : run.State) (node number status other : ℕ) → other ≢ node
    → slice_get (run.end_line (rules_of work) tasks state node number status).nodes other
    ≡ slice_get state.nodes other
line-ended work tasks state node number status other apart =
    let fails = run.fails (run.line_of (tasks node) number) status in
    let last = nat_le (length (tasks node)) number in
    let stops = is_stopped (rules_of work) state.nodes in
    ap (λ nodes. slice_get nodes other) (ended-nodes state node number fails last stops)
    ∙ ended-other state.nodes node other fails last stops apart

pub nodes-other : (work : Work) (tasks : run.Tasks) (build : Build) (item : Item) (other : ℕ)
    → (node_of item ≡ Some other → ⊥)
    → slice_get (build_after work tasks build item).run.nodes other ≡ slice_get build.run.nodes other
nodes-other work tasks build (looks node seen) other away = refl
nodes-other work tasks build (keeps node) other away =
    slice-other build.run.nodes node other Settled (λ same. away (ap Some (sym same)))
nodes-other work tasks build (refuses node number what) other away =
    slice-other build.run.nodes node other Failed (λ same. away (ap Some (sym same)))
nodes-other work tasks build (starts node number ticket owner cmd) other away =
    slice-other build.run.nodes node other Open (λ same. away (ap Some (sym same)))
nodes-other work tasks build (passes node number) other away =
    line-ended work tasks (run.start_line tasks build.run node number) node number 0 other
    (λ same. away (ap Some (sym same)))
    ∙ slice-other build.run.nodes node other Open (λ same. away (ap Some (sym same)))
nodes-other work tasks build waits other away = refl
nodes-other work tasks build (steps ticket owner deed time) other away = refl
nodes-other work tasks build (ends node number owner ended) other away =
    line-ended work tasks build.run node number ended.status other (λ same. away (ap Some (sym same)))
nodes-other work tasks build (changes node change) other away = refl
nodes-other work tasks build (leaves ticket owner) other away = refl

-- an item is of a node, or is not

option-of : (of : Option ℕ) (node : ℕ) → (of ≡ Some node) ⊎ (of ≡ Some node → ⊥)
option-of None node = inr (λ is. cc)
option-of (Some one) node = elim (cases_eq one node) [
  | inl same ↦ inl (ap Some same)
  | inr apart ↦ inr (λ is. apart cc)
]

pub item-of : (item : Item) (node : ℕ) → (node_of item ≡ Some node) ⊎ (node_of item ≡ Some node → ⊥)
item-of item node = option-of (node_of item) node
