-- The tasks of a build are those by which its nodes were decided.
use Rattle.std.proofs.Common.{◌≡◌, ℕ, zero, suc, ◌+◌, ◌<◌, nat_le, ◌||◌, List, [], ◌∷◌, length, map, set, slice_get, Bool, true, false, Option, Some, None, if◌then◌else◌}
use Rattle.std.proofs.Common.{inl, inr, refl, sym, ap, subst}
use Rattle.mk_decision.specs.Decisions.{Work}
use Rattle.mk_decision.specs.Makers.{jobs_of}
use Rattle.mk_headline.proofs.EndLemmas.{all-settled}
use Rattle.mk_headline.specs.Laws.{HasJudgedLines, SettledHaveJudgedLines}
use Rattle.mk_headline.specs.Premises.{IsWellMade}
use Rattle.mk_plan.specs.Deciding.{Rules, is_stopped}
use Rattle.mk_plan.specs.declared.plan.NodeState.TheVariants.{Undecided, Open, Settled, Failed}
use Rattle.mk_plan.specs.declared.plan.NodeState.{NodeState}
use Rattle.mk_trace.specs.Builds.{Build, Makes, build_after, build_after_all, first_build, rules_of}
use Rattle.mk_trace.specs.Ends.{IsOver}
use Rattle.mk_trace.specs.Items.{Item, looks, keeps, refuses, starts, passes, waits, steps, ends, changes, leaves}
use Rattle.mk_trace.specs.Runs as run
use Rattle.mk_trace.specs.Runs.{Due, State, anything, child, line, close}

abbrev KnownAt : Work → run.Tasks → ℕ → Option NodeState → Type 0
KnownAt work tasks node None = Unit {0}
KnownAt work tasks node (Some Undecided) = Unit {0}
KnownAt work tasks node (Some Failed) = Unit {0}
KnownAt work tasks node (Some Open) = HasJudgedLines work tasks node
KnownAt work tasks node (Some Settled) = HasJudgedLines work tasks node

abbrev KnownDue : Work → run.Tasks → Due → Type 0
KnownDue work tasks anything = Unit {0}
KnownDue work tasks child = Unit {0}
KnownDue work tasks (line node number) = HasJudgedLines work tasks node
KnownDue work tasks (close node number) = HasJudgedLines work tasks node

record Known (work : Work) (tasks : run.Tasks) (state : State) : Type 0 where
  nodes : (n : ℕ) → KnownAt work tasks n (slice_get state.nodes n)
  due : KnownDue work tasks state.due

set-at : {A : Type 0} (P : Option A → Type 0) (all : List A) (n m : ℕ) (one : A) → (m ≡ n → P (Some one))
    → P (slice_get all m) → P (slice_get (set all n one) m)
set-at P [] n m one new old = old
set-at P (first ∷ all) zero zero one new old = new refl
set-at P (first ∷ all) zero (suc m) one new old = old
set-at P (first ∷ all) (suc n) zero one new old = old
set-at P (first ∷ all) (suc n) (suc m) one new old = set-at P all n m one (λ same. new (ap suc same)) old

known-set : (work : Work) (tasks : run.Tasks) (nodes : List NodeState) (n : ℕ) (one : NodeState)
    → KnownAt work tasks n (Some one) → ((m : ℕ) → KnownAt work tasks m (slice_get nodes m))
    → (m : ℕ) → KnownAt work tasks m (slice_get (set nodes n one) m)
known-set work tasks nodes n one new old m =
    set-at (KnownAt work tasks m) nodes n m one
    (λ same. subst (λ k. KnownAt work tasks k (Some one)) (sym same) new) (old m)

-- one event

settled : (work : Work) (tasks : run.Tasks) (state : State) (n : ℕ) (one : NodeState)
    → KnownAt work tasks n (Some one) → Known work tasks state → Known work tasks (run.settle state n one)
settled work tasks state n one new known = record {
  nodes = known-set work tasks state.nodes n one new known.nodes;
  due = tt;
}

started : (work : Work) (tasks : run.Tasks) (state : State) (n number : ℕ) → HasJudgedLines work tasks n
    → Known work tasks state → Known work tasks (run.start_line tasks state n number)
started work tasks state n number judged known = record {
  nodes = known-set work tasks state.nodes n Open judged known.nodes;
  due = due_is (run.has_child (run.line_of (tasks n) number));
}
  where
    due_is : (b : Bool) → KnownDue work tasks (if b then anything else close n number)
    due_is true = tt
    due_is false = judged

ended : (work : Work) (tasks : run.Tasks) (rules : Rules) (state : State) (n number status : ℕ)
    → HasJudgedLines work tasks n → Known work tasks state
    → Known work tasks (run.end_line rules tasks state n number status)
ended work tasks rules state n number status judged known =
    by (run.fails (run.line_of (tasks n) number) status)
    (nat_le (length (tasks n)) number || is_stopped rules state.nodes)
  where
    by : (fails over : Bool) → Known work tasks (if fails then run.settle state n Failed
        else (if over then run.settle state n Settled
        else record { nodes = state.nodes; started = state.started; due = line n (number + 1) }))
    by true over = settled work tasks state n Failed tt known
    by false true = settled work tasks state n Settled judged known
    by false false = record { nodes = known.nodes; due = judged }

-- what may be started or ended is judged

start-judged : (work : Work) (tasks : run.Tasks) (state : State) (n number : ℕ) (due : Due) → state.due ≡ due
    → (number ≡ 1 → HasJudgedLines work tasks n) → Known work tasks state
    → run.MayStart (rules_of work) tasks state n number due → HasJudgedLines work tasks n
start-judged work tasks state n number anything is first known may = first may.1
start-judged work tasks state n number child is first known may = absurd may
start-judged work tasks state n number (line one next) is first known may =
    subst (HasJudgedLines work tasks) (sym may.0) (subst (KnownDue work tasks) is known.due)
start-judged work tasks state n number (close one last) is first known may = absurd may

end-judged : (work : Work) (tasks : run.Tasks) (state : State) (n number status : ℕ) (due : Due)
    → state.due ≡ due → Known work tasks state → run.MayEnd state n number status due → HasJudgedLines work tasks n
end-judged work tasks state n number status anything is known may = absurd may
end-judged work tasks state n number status child is known may = subst (KnownAt work tasks n) may.0 (known.nodes n)
end-judged work tasks state n number status (line one next) is known may = absurd may
end-judged work tasks state n number status (close one last) is known may =
    subst (HasJudgedLines work tasks) (sym may.0) (subst (KnownDue work tasks) is known.due)

-- one item

known-after : (work : Work) (tasks : run.Tasks) (build : Build) (item : Item) (items : List Item)
    → Makes work tasks build (item ∷ items) → Known work tasks build.run
    → Known work tasks (build_after work tasks build item).run
known-after work tasks build (looks node seen) items makes known = known
known-after work tasks build (keeps node) items makes known =
    settled work tasks build.run node Settled (build.seen node, inl makes.2) known
known-after work tasks build (refuses node number what) items makes known =
    settled work tasks build.run node Failed tt known
known-after work tasks build (starts node number ticket owner cmd) items makes known =
    started work tasks build.run node number
    (start-judged work tasks build.run node number build.run.due refl
    (λ first. (build.seen node, inr (makes.2.0 first))) known makes.0.0) known
known-after work tasks build (passes node number) items makes known =
    let judged = start-judged work tasks build.run node number build.run.due refl
    (λ first. (build.seen node, inr (makes.2 first))) known makes.0.0 in
    ended work tasks (rules_of work) (run.start_line tasks build.run node number) node number 0 judged
    (started work tasks build.run node number judged known)
known-after work tasks build waits items makes known = record { nodes = known.nodes; due = tt }
known-after work tasks build (steps ticket owner deed time) items makes known = known
known-after work tasks build (ends node number owner ended_by) items makes known =
    ended work tasks (rules_of work) build.run node number ended_by.status
    (end-judged work tasks build.run node number ended_by.status build.run.due refl known makes.0.0) known
known-after work tasks build (changes node change) items makes known = known
known-after work tasks build (leaves ticket owner) items makes known = known

known-all : (work : Work) (tasks : run.Tasks) (build : Build) (items : List Item) → Makes work tasks build items
    → Known work tasks build.run → Known work tasks (build_after_all work tasks build items).run
known-all work tasks build [] makes known = known
known-all work tasks build (item ∷ items) makes known =
    known-all work tasks (build_after work tasks build item) items makes.3
    (known-after work tasks build item items makes known)

none-yet : (work : Work) (tasks : run.Tasks) (before : List (List ℕ)) (n : ℕ)
    → KnownAt work tasks n (slice_get (map (λ one. Undecided) before) n)
none-yet work tasks [] n = tt
none-yet work tasks (first ∷ before) zero = tt
none-yet work tasks (first ∷ before) (suc n) = undecided before n
  where
    undecided : (before : List (List ℕ)) (m : ℕ) → KnownAt work tasks (suc n) (slice_get (map (λ one. Undecided) before) m)
    undecided [] m = tt
    undecided (first ∷ before) zero = tt
    undecided (first ∷ before) (suc m) = undecided before m

-- A node that is settled behind these items was judged.
pub settled-judged : SettledHaveJudgedLines
settled-judged work tasks items makes n is =
    let known = known-all work tasks (first_build work) items makes
    (record { nodes = none-yet work tasks (rules_of work).before; due = tt }) in
    subst (KnownAt work tasks n) is (known.nodes n)

-- And so was each node of a build that is over, and in which nothing failed.
pub over-judged : (work : Work) (tasks : run.Tasks) (items : List Item) → IsWellMade work
    → Makes work tasks (first_build work) items → 0 < jobs_of work
    → IsOver work None (build_after_all work tasks (first_build work) items) → (n : ℕ) → n < length work.plan
    → HasJudgedLines work tasks n
over-judged work tasks items well makes room over n within =
    settled-judged work tasks items makes n (all-settled work tasks items well makes room over n within)
