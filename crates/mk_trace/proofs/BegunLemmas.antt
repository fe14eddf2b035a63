-- Every cut run can come to its end.
use Rattle.std.proofs.Common.{◌≡◌, ◌≢◌, ◌∙◌, ℕ, zero, suc, ◌+◌, ◌<◌, ◌≤◌, ◌==◌, ◌&&◌, ◌||◌, not, nat_le, List, [], ◌∷◌, ◌++◌, length, get_or, set, slice_get, count_by, Option, Some, None, Bool, true, false, if◌then◌else◌}
use Rattle.std.proofs.Common.{inl, inr, refl, sym, ap, subst, arith, eq-eqb, leb-false}
use Rattle.std.proofs.lemmas.Grind.{common_steps}
use Rattle.std.proofs.lemmas.List.{get_or-set_same}
use Rattle.std.proofs.lemmas.List.Sums.{sum_by-set}
use Rattle.std.proofs.lemmas.Option.{slice_get_within, slice_get-get_or, get_or_from_slice_get}
use Rattle.mk_plan.specs.Deciding.{Rules, is_open, is_undecided, is_stopped, open_jobs, first_ready, may_decide}
use Rattle.mk_plan.specs.declared.plan.NodeState.{NodeState}
use Rattle.mk_plan.specs.declared.plan.NodeState.TheVariants.{Undecided, Open, Settled, Failed}
use Rattle.mk_trace.specs.RunLaws.{CutRunsAreBegun}
use Rattle.mk_trace.specs.Runs.{Tasks, Due, anything, child, line, close, State, first_state, line_of, has_child, fails, settle, start_line, end_line, after, May, MayAll, MayStart, MayEnd, after_all, IsOver, IsCutRun, IsLegalRun}
use Rattle.mk_trace.specs.declared.event.Event.{Event}
use Rattle.mk_trace.specs.declared.event.Event.TheVariants.{Kept, Refused, Shown, Start, End, Wait}

-- a run that stands so can come to its end
abbrev Ends : Rules → Tasks → State → Type 0
Ends rules tasks state =
    (more : List Event) × MayAll rules tasks state more × IsOver rules (after_all rules tasks state more)

ends-then : (rules : Rules) (tasks : Tasks) (state : State) (event : Event) → May rules tasks state event
    → Ends rules tasks (after rules tasks state event) → Ends rules tasks state
ends-then rules tasks state event may ends = (event ∷ ends.0, (may, ends.1), ends.2)

-- how many nodes are undecided or open

abbrev is_left : NodeState → Bool
is_left Undecided = true
is_left Open = true
is_left Settled = false
is_left Failed = false

abbrev left : List NodeState → ℕ
left nodes = count_by is_left nodes

left-set : (nodes : List NodeState) (node : ℕ) (state other : NodeState) → node < length nodes
    → left (set nodes node state) + (if is_left (get_or nodes node other) then 1 else 0)
    ≡ left nodes + (if is_left state then 1 else 0)
left-set nodes node state other within =
    sum_by-set (λ one. if is_left one then 1 else 0) nodes node state other within

-- a node that is left is settled
left-less : (nodes : List NodeState) (node : ℕ) (was : NodeState) → slice_get nodes node ≡ Some was
    → is_left was ≡ true → left (set nodes node Settled) < left nodes
left-less nodes node was is one =
    let within = slice_get_within nodes node was is in
    let here : is_left (get_or nodes node Undecided) ≡ true =
    ap is_left (get_or_from_slice_get nodes node was Undecided is) ∙ one in
    let counts : left (set nodes node Settled) + 1 ≡ left nodes + 0 =
    rw here at (left-set nodes node Settled Undecided within) in
    omega (arith, counts)

-- an open node stays open
left-open : (nodes : List NodeState) (node : ℕ) → slice_get nodes node ≡ Some Open
    → left (set nodes node Open) ≡ left nodes
left-open nodes node is =
    let within = slice_get_within nodes node Open is in
    let here : is_left (get_or nodes node Undecided) ≡ true =
    ap is_left (get_or_from_slice_get nodes node Open Undecided is) in
    let counts : left (set nodes node Open) + 1 ≡ left nodes + 1 =
    rw here at (left-set nodes node Open Undecided within) in
    omega (arith, counts)

stays-open : (nodes : List NodeState) (node : ℕ) → node < length nodes
    → slice_get (set nodes node Open) node ≡ Some Open
stays-open [] node within = absurd (omega (arith, within))
stays-open (one ∷ nodes) zero within = refl
stays-open (one ∷ nodes) (suc node) within = stays-open nodes node (omega (arith, within))

-- where jobs are open, one is
one-open : (nodes : List NodeState) → 0 < open_jobs nodes
    → (node : ℕ) × (slice_get nodes node ≡ Some Open)
one-open [] some = absurd (omega (arith, some))
one-open (Open ∷ nodes) some = (0, refl)
one-open (Undecided ∷ nodes) some = let rest = one-open nodes some in (suc rest.0, rest.1)
one-open (Settled ∷ nodes) some = let rest = one-open nodes some in (suc rest.0, rest.1)
one-open (Failed ∷ nodes) some = let rest = one-open nodes some in (suc rest.0, rest.1)

pub open-some : (nodes : List NodeState) (node : ℕ) → slice_get nodes node ≡ Some Open → 0 < open_jobs nodes
open-some nodes node is =
    let within = slice_get_within nodes node Open is in
    let here : is_open (get_or nodes node Undecided) ≡ true =
    ap is_open (get_or_from_slice_get nodes node Open Undecided is) in
    let counts : open_jobs (set nodes node Settled) + 1 ≡ open_jobs nodes + 0 =
    rw here at (sum_by-set (λ one. if is_open one then 1 else 0) nodes node Settled Undecided within) in
    omega (arith, counts)

-- a node that may be decided is undecided

pub is_undecided_is : (state : NodeState) → is_undecided state ≡ true → state ≡ Undecided
is_undecided_is Undecided h = refl
is_undecided_is Open h = cc
is_undecided_is Settled h = cc
is_undecided_is Failed h = cc

pub undecided-at : (nodes : List NodeState) (node : ℕ) → get_or nodes node Failed ≡ Undecided
    → slice_get nodes node ≡ Some Undecided
undecided-at [] node is = cc
undecided-at (one ∷ nodes) zero is = ap (λ s. Some s) is
undecided-at (one ∷ nodes) (suc node) is = undecided-at nodes node is

first-undecided : (nodes : List NodeState) (place : ℕ) (before : List (List ℕ)) (node : ℕ)
    → first_ready nodes place before ≡ Some node → is_undecided (get_or nodes node Failed) ≡ true
first-undecided nodes place [] node h = cc
first-undecided nodes place (one ∷ more) node h =
    grind (arith, common_steps, first-undecided nodes (place + 1) more node)

pub may-first : (rules : Rules) (nodes : List NodeState) (node : ℕ) (b : Bool)
    → (if b then first_ready nodes 0 rules.before else None) ≡ Some node
    → first_ready nodes 0 rules.before ≡ Some node
may-first rules nodes node true h = h
may-first rules nodes node false h = cc

pub may-undecided : (rules : Rules) (nodes : List NodeState) (node : ℕ)
    → may_decide rules nodes ≡ Some node → slice_get nodes node ≡ Some Undecided
may-undecided rules nodes node may =
    undecided-at nodes node (is_undecided_is _
    (first-undecided nodes 0 rules.before node (may-first rules nodes node _ may)))

-- runs with no more than so many nodes that are left

abbrev pub Steady : List NodeState → Due → Type 0
Steady nodes anything = Unit {0}
Steady nodes child = 0 < open_jobs nodes
Steady nodes (line node number) = slice_get nodes node ≡ Some Open
Steady nodes (close node number) = slice_get nodes node ≡ Some Open

abbrev Fewer : Rules → Tasks → ℕ → Type 0
Fewer rules tasks room =
    (state : State) → left state.nodes < room → Steady state.nodes state.due → Ends rules tasks state

-- a node that is left is settled
ends-settled : (rules : Rules) (tasks : Tasks) (room : ℕ) → Fewer rules tasks room → (state : State)
    → left state.nodes ≤ room → (node : ℕ) (was : NodeState)
    → slice_get state.nodes node ≡ Some was → is_left was ≡ true
    → Ends rules tasks (settle state node Settled)
ends-settled rules tasks room fewer state within node was is one =
    let less = left-less state.nodes node was is one in
    fewer (settle state node Settled) (omega (arith, less, within)) tt

-- the next line of an open node is due
abbrev NextEnds : Rules → Tasks → ℕ → ℕ → ℕ → Type 0
NextEnds rules tasks room node number =
    (nodes : List NodeState) (started : ℕ → ℕ) → left nodes ≤ room → slice_get nodes node ≡ Some Open
    → nat_le (length (tasks node)) number ≡ false
    → Ends rules tasks (record { nodes = nodes; started = started; due = line node (number + 1) })

-- a line has ended with status 0
ends-behind : (rules : Rules) (tasks : Tasks) (room : ℕ) → Fewer rules tasks room
    → (node number : ℕ) → NextEnds rules tasks room node number → (state : State)
    → left state.nodes ≤ room → slice_get state.nodes node ≡ Some Open
    → Ends rules tasks (end_line rules tasks state node number 0)
ends-behind rules tasks room fewer node number next state within is =
    by (nat_le (length (tasks node)) number) (is_stopped rules state.nodes) refl
  where
    by : (last stops : Bool) → nat_le (length (tasks node)) number ≡ last
        → Ends rules tasks (if last || stops then settle state node Settled
        else record { nodes = state.nodes; started = state.started; due = line node (number + 1) })
    by true stops are = ends-settled rules tasks room fewer state within node Open is refl
    by false true are = ends-settled rules tasks room fewer state within node Open is refl
    by false false are = next state.nodes state.started within is are

-- a child runs for the line of an open node, and nothing is due
ends-running : (rules : Rules) (tasks : Tasks) (room : ℕ) → Fewer rules tasks room
    → (node number : ℕ) → NextEnds rules tasks room node number → (nodes : List NodeState)
    → (started : ℕ → ℕ) → left nodes ≤ room → slice_get nodes node ≡ Some Open
    → started node ≡ number → (may : Option ℕ) → may_decide rules nodes ≡ may
    → Ends rules tasks (record { nodes = nodes; started = started; due = anything })
ends-running rules tasks room fewer node number next nodes started within is begun (Some one) may =
    let state : State = record { nodes = nodes; started = started; due = anything } in
    ends-then rules tasks state (Kept one) (refl, may)
    (ends-settled rules tasks room fewer state within one Undecided (may-undecided rules nodes one may)
    refl)
ends-running rules tasks room fewer node number next nodes started within is begun None may =
    let state : State = record { nodes = nodes; started = started; due = anything } in
    let waiting : State = record { nodes = nodes; started = started; due = child } in
    ends-then rules tasks state Wait (refl, may, open-some nodes node is)
    (ends-then rules tasks waiting (End node number 0) (is, begun)
    (ends-behind rules tasks room fewer node number next waiting within is))

-- the line of an open node is started
ends-started : (rules : Rules) (tasks : Tasks) (room : ℕ) → Fewer rules tasks room
    → (node number : ℕ) → NextEnds rules tasks room node number → (nodes : List NodeState)
    → (started : ℕ → ℕ) → left nodes ≤ room → slice_get nodes node ≡ Some Open
    → started node ≡ number → (has : Bool)
    → Ends rules tasks (record {
      nodes = nodes;
      started = started;
      due = if has then anything else close node number;
    })
ends-started rules tasks room fewer node number next nodes started within is begun true =
    ends-running rules tasks room fewer node number next nodes started within is begun
    (may_decide rules nodes) refl
ends-started rules tasks room fewer node number next nodes started within is begun false =
    let state : State = record { nodes = nodes; started = started; due = close node number } in
    ends-then rules tasks state (End node number 0) (refl, refl, refl)
    (ends-behind rules tasks room fewer node number next state within is)

-- a line of an open node is due
ends-due : (rules : Rules) (tasks : Tasks) (room : ℕ) → Fewer rules tasks room
    → (node number : ℕ) → NextEnds rules tasks room node number
    → (nodes : List NodeState) (started : ℕ → ℕ) → left nodes ≤ room
    → slice_get nodes node ≡ Some Open
    → Ends rules tasks (record { nodes = nodes; started = started; due = line node number })
ends-due rules tasks room fewer node number next nodes started within is =
    let state : State = record { nodes = nodes; started = started; due = line node number } in
    let same = left-open nodes node is in
    let here = stays-open nodes node (slice_get_within nodes node Open is) in
    ends-then rules tasks state (Start node number) (refl, refl)
    (ends-started rules tasks room fewer node number next (set nodes node Open)
    (λ one. if one == node then number else started one) (omega (arith, same, within)) here
    (rw (eq-eqb node node refl) refl) (has_child (line_of (tasks node) number)))

-- with so many lines behind it at most
ends-line : (rules : Rules) (tasks : Tasks) (room : ℕ) → Fewer rules tasks room
    → (lines : ℕ) (node number : ℕ) → length (tasks node) ≤ number + lines
    → (nodes : List NodeState) (started : ℕ → ℕ) → left nodes ≤ room
    → slice_get nodes node ≡ Some Open
    → Ends rules tasks (record { nodes = nodes; started = started; due = line node number })
ends-line rules tasks room fewer zero node number long nodes started within is =
    ends-due rules tasks room fewer node number
    (λ other begun bound open_now more. let behind = leb-false _ _ more in absurd (omega (arith, behind, long)))
    nodes started within is
ends-line rules tasks room fewer (suc lines) node number long nodes started within is =
    ends-due rules tasks room fewer node number
    (λ other begun bound open_now more.
    ends-line rules tasks room fewer lines node (number + 1) (omega (arith, long)) other begun bound
    open_now)
    nodes started within is

-- the next line of an open node comes to its end
next-ends : (rules : Rules) (tasks : Tasks) (room : ℕ) → Fewer rules tasks room → (node number : ℕ)
    → NextEnds rules tasks room node number
next-ends rules tasks room fewer node number nodes started within is more =
    ends-line rules tasks room fewer (length (tasks node)) node (number + 1) (omega arith) nodes started
    within is

-- a run that stands steadily, with no more than so many nodes left
ends-within : (rules : Rules) (tasks : Tasks) (room : ℕ) → Fewer rules tasks room
    → (nodes : List NodeState) (started : ℕ → ℕ) (due : Due) → left nodes ≤ room → Steady nodes due
    → Ends rules tasks (record { nodes = nodes; started = started; due = due })
ends-within rules tasks room fewer nodes started anything within steady =
    by (may_decide rules nodes) refl (open_jobs nodes) refl
  where
    by : (may : Option ℕ) → may_decide rules nodes ≡ may → (jobs : ℕ) → open_jobs nodes ≡ jobs
        → Ends rules tasks (record { nodes = nodes; started = started; due = anything })
    by (Some one) may jobs are =
        let state : State = record { nodes = nodes; started = started; due = anything } in
        ends-then rules tasks state (Kept one) (refl, may)
        (ends-settled rules tasks room fewer state within one Undecided
        (may-undecided rules nodes one may) refl)
    by None may zero are = ([], tt, record { due = refl; none_open = are; none_ready = may })
    by None may (suc jobs) are =
        let some : 0 < open_jobs nodes = omega (arith, are) in
        let one = one-open nodes some in
        ends-running rules tasks room fewer one.0 (started one.0)
        (next-ends rules tasks room fewer one.0 (started one.0)) nodes started within one.1 refl None may
ends-within rules tasks room fewer nodes started child within steady =
    let one = one-open nodes steady in
    let state : State = record { nodes = nodes; started = started; due = child } in
    ends-then rules tasks state (End one.0 (started one.0) 0) (one.1, refl)
    (ends-behind rules tasks room fewer one.0 (started one.0)
    (next-ends rules tasks room fewer one.0 (started one.0)) state within one.1)
ends-within rules tasks room fewer nodes started (line node number) within steady =
    ends-line rules tasks room fewer (length (tasks node)) node number (omega arith) nodes started
    within steady
ends-within rules tasks room fewer nodes started (close node number) within steady =
    let state : State = record { nodes = nodes; started = started; due = close node number } in
    ends-then rules tasks state (End node number 0) (refl, refl, refl)
    (ends-behind rules tasks room fewer node number (next-ends rules tasks room fewer node number)
    state within steady)

fewer-all : (rules : Rules) (tasks : Tasks) (room : ℕ) → Fewer rules tasks room
fewer-all rules tasks zero state less steady = absurd (omega (arith, less))
fewer-all rules tasks (suc room) state less steady =
    ends-within rules tasks room (fewer-all rules tasks room) state.nodes state.started state.due
    (omega (arith, less)) steady

-- what stands behind a run is steady

due-started : (nodes : List NodeState) (node number : ℕ) (has : Bool) → node < length nodes
    → Steady (set nodes node Open) (if has then anything else close node number)
due-started nodes node number true within = tt
due-started nodes node number false within = stays-open nodes node within

pub start-within : (rules : Rules) (tasks : Tasks) (state : State) (node number : ℕ) (due : Due)
    → Steady state.nodes due → MayStart rules tasks state node number due → node < length state.nodes
start-within rules tasks state node number anything steady may =
    slice_get_within state.nodes node Undecided (may-undecided rules state.nodes node may.0)
start-within rules tasks state node number child steady may = absurd may
start-within rules tasks state node number (line one next) steady may =
    slice_get_within state.nodes node Open
    (subst (λ k. slice_get state.nodes k ≡ Some Open) (sym may.0) steady)
start-within rules tasks state node number (close one last) steady may = absurd may

pub end-open : (state : State) (node number status : ℕ) (due : Due) → Steady state.nodes due
    → MayEnd state node number status due → slice_get state.nodes node ≡ Some Open
end-open state node number status anything steady may = absurd may
end-open state node number status child steady may = may.0
end-open state node number status (line one next) steady may = absurd may
end-open state node number status (close one last) steady may =
    subst (λ k. slice_get state.nodes k ≡ Some Open) (sym may.0) steady

abbrev ended : State → ℕ → ℕ → Bool → Bool → Bool → State
ended state node number failed last stops =
    if failed then settle state node Failed
    else (if last || stops then settle state node Settled
    else record { nodes = state.nodes; started = state.started; due = line node (number + 1) })

ended-steady : (state : State) (node number : ℕ) → slice_get state.nodes node ≡ Some Open
    → (failed last stops : Bool) → Steady (ended state node number failed last stops).nodes
    (ended state node number failed last stops).due
ended-steady state node number is true last stops = tt
ended-steady state node number is false true stops = tt
ended-steady state node number is false false true = tt
ended-steady state node number is false false false = is

steady-ended : (rules : Rules) (tasks : Tasks) (state : State) (node number status : ℕ)
    → slice_get state.nodes node ≡ Some Open
    → Steady (end_line rules tasks state node number status).nodes
    (end_line rules tasks state node number status).due
steady-ended rules tasks state node number status is =
    ended-steady state node number is (fails (line_of (tasks node) number) status)
    (nat_le (length (tasks node)) number) (is_stopped rules state.nodes)

pub steady-after : (rules : Rules) (tasks : Tasks) (state : State) (event : Event)
    → Steady state.nodes state.due → May rules tasks state event
    → Steady (after rules tasks state event).nodes (after rules tasks state event).due
steady-after rules tasks state (Kept node) steady may = tt
steady-after rules tasks state (Refused node number) steady may = tt
steady-after rules tasks state (Shown node number) steady may = absurd may
steady-after rules tasks state (Start node number) steady may =
    due-started state.nodes node number (has_child (line_of (tasks node) number))
    (start-within rules tasks state node number state.due steady may)
steady-after rules tasks state (End node number status) steady may =
    steady-ended rules tasks state node number status
    (end-open state node number status state.due steady may)
steady-after rules tasks state Wait steady may = may.2

pub steady-all : (rules : Rules) (tasks : Tasks) (state : State) (events : List Event)
    → Steady state.nodes state.due → MayAll rules tasks state events
    → Steady (after_all rules tasks state events).nodes (after_all rules tasks state events).due
steady-all rules tasks state [] steady may = steady
steady-all rules tasks state (event ∷ events) steady may =
    steady-all rules tasks (after rules tasks state event) events
    (steady-after rules tasks state event steady may.0) may.1

-- one run behind the other

after_all-append : (rules : Rules) (tasks : Tasks) (state : State) (first second : List Event)
    → after_all rules tasks state (first ++ second)
    ≡ after_all rules tasks (after_all rules tasks state first) second
after_all-append rules tasks state [] second = refl
after_all-append rules tasks state (event ∷ first) second =
    after_all-append rules tasks (after rules tasks state event) first second

MayAll-append : (rules : Rules) (tasks : Tasks) (state : State) (first second : List Event)
    → MayAll rules tasks state first
    → MayAll rules tasks (after_all rules tasks state first) second
    → MayAll rules tasks state (first ++ second)
MayAll-append rules tasks state [] second may more = more
MayAll-append rules tasks state (event ∷ first) second may more =
    (may.0, MayAll-append rules tasks (after rules tasks state event) first second may.1 more)

-- Each cut run is the beginning of a legal run.
pub cut_runs_begun : CutRunsAreBegun
cut_runs_begun rules tasks events cut =
    let start = first_state rules in
    let now = after_all rules tasks start events in
    let ends = fewer-all rules tasks (suc (left now.nodes)) now (omega arith)
    (steady-all rules tasks start events tt cut) in (
      ends.0,
      record {
        each = MayAll-append rules tasks start events ends.0 cut ends.1;
        over = subst (IsOver rules) (sym (after_all-append rules tasks start events ends.0)) ends.2;
      },
    )
