-- Which nodes are settled in a run, and which is the first that is ready.
use Rattle.std.proofs.Common.{◌≡◌, ◌≢◌, ◌∙◌, ℕ, zero, suc, ◌+◌, ◌<◌, ◌≤◌, ◌==◌, ◌&&◌, ◌||◌, not, nat_le, nat_lt, nat_eq, List, [], ◌∷◌, length, length-set, map, get_or, set, ◌⊎◌, slice_get, Option, Some, None, Bool, true, false, IsTrue, if◌then◌else◌}
use Rattle.std.proofs.Common.{inl, inr, refl, sym, ap, subst, arith, eqb-true, eq-eqb}
use Rattle.std.specs.List.{list_any, list_all}
use Rattle.std.proofs.lemmas.Bool.{cases_eq, or_cases, false≢true, lt-ltb, ltb-true}
use Rattle.std.proofs.lemmas.List.{get_or-set_same, get_or-set_other, get_or_default}
use Rattle.std.proofs.lemmas.Option.{slice_get_within, get_or_from_slice_get, slice_get-get_or}
use Rattle.mk_graph.specs.Closed.{Reaches, given, behind}
use Rattle.mk_graph.specs.Walks.{is_among, preds_of}
use Rattle.mk_plan.specs.Deciding.{Rules, is_open, is_undecided, is_settled, is_failed, is_stopped, open_jobs, all_settled, first_ready, may_decide}
use Rattle.mk_plan.specs.declared.plan.NodeState.{NodeState}
use Rattle.mk_plan.specs.declared.plan.NodeState.TheVariants.{Undecided, Open, Settled, Failed}
use Rattle.mk_trace.proofs.BegunLemmas.{is_undecided_is, undecided-at, may-undecided, may-first, open-some, Steady, end-open, steady-after}
use Rattle.mk_trace.specs.RunLaws.{DependsOn, DecidedDependOnSettled, IsClosed, IsReady, IsFirstReady, DecidesFirstReady, StandBehind, OverIsSettled}
use Rattle.mk_trace.specs.Runs.{Tasks, Due, anything, child, line, close, State, first_state, line_of, fails, settle, end_line, after, May, MayAll, MayStart, after_all, or_next, failure_of, first_failure, IsLegalRun}
use Rattle.mk_trace.specs.declared.event.Event.{Event}
use Rattle.mk_trace.specs.declared.event.Event.TheVariants.{Kept, Refused, Shown, Start, End, Wait}

-- two conditions

both-true : (a b : Bool) → a ≡ true → b ≡ true → (a && b) ≡ true
both-true true b first second = second
both-true false b first second = absurd (false≢true first)

first-true : (a b : Bool) → (a && b) ≡ true → a ≡ true
first-true true b is = refl
first-true false b is = absurd (false≢true is)

second-true : (a b : Bool) → (a && b) ≡ true → b ≡ true
second-true true b is = is
second-true false b is = absurd (false≢true is)

both-false : (a b : Bool) → (a || b) ≡ false → (a ≡ false) × (b ≡ false)
both-false true b is = absurd (false≢true (sym is))
both-false false b is = (refl, is)

neither : (a b : Bool) → a ≡ false → b ≡ false → (a || b) ≡ false
neither true b first second = absurd (false≢true (sym first))
neither false b first second = second

-- which are settled

settled-is : (state : NodeState) → is_settled state ≡ true → state ≡ Settled
settled-is Settled is = refl
settled-is Undecided is = cc
settled-is Open is = cc
settled-is Failed is = cc

settled-among : (nodes : List NodeState) (before : List ℕ) (one : ℕ) → all_settled nodes before ≡ true
    → is_among before one ≡ true → get_or nodes one Undecided ≡ Settled
settled-among nodes [] one all among = absurd (false≢true among)
settled-among nodes (first ∷ before) one all among =
    elim (or_cases (nat_eq one first) (is_among before one) among) [
      | inl same ↦
          subst (λ k. get_or nodes k Undecided ≡ Settled) (sym (eqb-true one first same))
          (settled-is _ (first-true _ (all_settled nodes before) all))
      | inr later ↦
          settled-among nodes before one
          (second-true (is_settled (get_or nodes first Undecided)) _ all) later
    ]

settled-all : (nodes : List NodeState) (before : List ℕ)
    → ((one : ℕ) → IsTrue (is_among before one) → get_or nodes one Undecided ≡ Settled)
    → all_settled nodes before ≡ true
settled-all nodes [] each = refl
settled-all nodes (first ∷ before) each =
    both-true _ _ (ap is_settled (each first (among-first first before)))
    (settled-all nodes before (λ one among. each one (among-later first before one among)))
  where
    among-first : (one : ℕ) (more : List ℕ) → is_among (one ∷ more) one ≡ true
    among-first one more = or-left (nat_eq one one) (is_among more one) (same one)
      where
        same : (n : ℕ) → nat_eq n n ≡ true
        same n = eq-eqb n n refl

        or-left : (a b : Bool) → a ≡ true → (a || b) ≡ true
        or-left true b is = refl
        or-left false b is = absurd (false≢true is)

    among-later : (first : ℕ) (more : List ℕ) (one : ℕ) → is_among more one ≡ true
        → is_among (first ∷ more) one ≡ true
    among-later first more one among = or-right (nat_eq one first) (is_among more one) among
      where
        or-right : (a b : Bool) → b ≡ true → (a || b) ≡ true
        or-right true b is = refl
        or-right false b is = is

-- a change of a node that was not settled keeps what was
all_settled-set : (nodes : List NodeState) (n : ℕ) (state : NodeState) (before : List ℕ)
    → get_or nodes n Undecided ≢ Settled → all_settled nodes before ≡ true
    → all_settled (set nodes n state) before ≡ true
all_settled-set nodes n state before not_yet all =
    settled-all (set nodes n state) before (λ one among. at one (settled-among nodes before one all among))
  where
    at : (one : ℕ) → get_or nodes one Undecided ≡ Settled
        → get_or (set nodes n state) one Undecided ≡ Settled
    at one is = elim (cases_eq one n) [
      | inl same ↦ absurd (not_yet (subst (λ k. get_or nodes k Undecided ≡ Settled) same is))
      | inr other ↦ get_or-set_other nodes n one state Undecided other ∙ is
    ]

-- All that a decided node was to wait for is settled.
abbrev Supported : List (List ℕ) → List NodeState → Type 0
Supported before nodes =
    (node : ℕ) → get_or nodes node Undecided ≢ Undecided
    → all_settled nodes (preds_of before node) ≡ true

supported-set : (before : List (List ℕ)) (nodes : List NodeState) (n : ℕ) (state : NodeState)
    → get_or nodes n Undecided ≢ Settled → all_settled nodes (preds_of before n) ≡ true
    → Supported before nodes → Supported before (set nodes n state)
supported-set before nodes n state not_yet ready all node decided =
    all_settled-set nodes n state (preds_of before node) not_yet (at (cases_eq node n))
  where
    at : (node ≡ n) ⊎ (node ≢ n) → all_settled nodes (preds_of before node) ≡ true
    at (inl same) = subst (λ k. all_settled nodes (preds_of before k) ≡ true) (sym same) ready
    at (inr other) =
        all node (λ is. decided (get_or-set_other nodes n node state Undecided other ∙ is))

-- the node that may be decided, among all

abbrev is_ready : List NodeState → ℕ → List ℕ → Bool
is_ready nodes node before = is_undecided (get_or nodes node Failed) && all_settled nodes before

-- a node is the first that is ready, from a place on
record IsFirst (nodes : List NodeState) (place node : ℕ) (before : List (List ℕ)) : Type 0 where
  place_in : ℕ
  is : node ≡ place + place_in
  within : place_in < length before
  ready : is_ready nodes node (get_or before place_in []) ≡ true
  none : (i : ℕ) → i < place_in → is_ready nodes (place + i) (get_or before i []) ≡ false

some-is : (a b : ℕ) → Some a ≡ Some b → a ≡ b
some-is a b is = cc

shift : (place i : ℕ) → place + 1 + i ≡ place + suc i
shift place i = omega arith

first-by : (nodes : List NodeState) (place node : ℕ) (one : List ℕ) (more : List (List ℕ))
    (ready : Bool) → is_ready nodes place one ≡ ready
    → (first_ready nodes (place + 1) more ≡ Some node → IsFirst nodes (place + 1) node more)
    → (if ready then Some place else first_ready nodes (place + 1) more) ≡ Some node
    → IsFirst nodes place node (one ∷ more)
first-by nodes place node one more true is rest h =
    let same = some-is place node h in
    record {
      place_in = 0;
      is = omega (arith, same);
      within = omega arith;
      ready = subst (λ k. is_ready nodes k one ≡ true) same is;
      none = λ i less. absurd (omega (arith, less));
    }
first-by nodes place node one more false is rest h =
    let found = rest h in
    record {
      place_in = suc found.place_in;
      is = found.is ∙ shift place found.place_in;
      within = let less = found.within in omega (arith, less);
      ready = found.ready;
      none = before-it found.place_in found.none;
    }
  where
    before-it : (bound : ℕ)
        → ((i : ℕ) → i < bound → is_ready nodes (place + 1 + i) (get_or more i []) ≡ false)
        → (i : ℕ) → i < suc bound → is_ready nodes (place + i) (get_or (one ∷ more) i []) ≡ false
    before-it bound none zero less =
        let here : place + 0 ≡ place = omega arith in
        subst (λ k. is_ready nodes k one ≡ false) (sym here) is
    before-it bound none (suc i) less =
        subst (λ k. is_ready nodes k (get_or more i []) ≡ false) (shift place i)
        (none i (omega (arith, less)))

first-is : (nodes : List NodeState) (place node : ℕ) (before : List (List ℕ))
    → first_ready nodes place before ≡ Some node → IsFirst nodes place node before
first-is nodes place node [] h = cc
first-is nodes place node (one ∷ more) h =
    first-by nodes place node one more (is_ready nodes place one) refl
    (first-is nodes (place + 1) node more) h

-- the first of all that are ready is found
first-found : (nodes : List NodeState) (place i : ℕ) (before : List (List ℕ)) → i < length before
    → is_ready nodes (place + i) (get_or before i []) ≡ true
    → ((j : ℕ) → j < i → is_ready nodes (place + j) (get_or before j []) ≡ false)
    → first_ready nodes place before ≡ Some (place + i)
first-found nodes place i [] within ready none = absurd (omega (arith, within))
first-found nodes place zero (one ∷ more) within ready none =
    let here : place + 0 ≡ place = omega arith in
    rw (subst (λ k. is_ready nodes k one ≡ true) here ready, here) refl
first-found nodes place (suc i) (one ∷ more) within ready none =
    let here : place + 0 ≡ place = omega arith in
    let past : is_ready nodes place one ≡ false =
    subst (λ k. is_ready nodes k one ≡ false) here (none 0 (omega arith)) in
    let rest : first_ready nodes (place + 1) more ≡ Some (place + 1 + i) =
    first-found nodes (place + 1) i more (omega (arith, within))
    (subst (λ k. is_ready nodes k (get_or more i []) ≡ true) (sym (shift place i)) ready)
    (λ j less.
    subst (λ k. is_ready nodes k (get_or more j []) ≡ false) (sym (shift place j))
    (none (suc j) (omega (arith, less)))) in
    rw past (rest ∙ ap (λ k. Some k) (shift place i))

-- where none is found, none is ready
none-ready : (nodes : List NodeState) (place : ℕ) (before : List (List ℕ))
    → first_ready nodes place before ≡ None → (i : ℕ) → i < length before
    → is_ready nodes (place + i) (get_or before i []) ≡ false
none-ready nodes place [] h i within = absurd (omega (arith, within))
none-ready nodes place (one ∷ more) h i within =
    by (is_ready nodes place one) refl (none-ready nodes (place + 1) more) h i within
  where
    by : (ready : Bool) → is_ready nodes place one ≡ ready
        → (first_ready nodes (place + 1) more ≡ None → (i : ℕ) → i < length more
        → is_ready nodes (place + 1 + i) (get_or more i []) ≡ false)
        → (if ready then Some place else first_ready nodes (place + 1) more) ≡ None
        → (i : ℕ) → i < length (one ∷ more)
        → is_ready nodes (place + i) (get_or (one ∷ more) i []) ≡ false
    by true is rest h i within = cc
    by false is rest h zero within =
        let here : place + 0 ≡ place = omega arith in
        subst (λ k. is_ready nodes k one ≡ false) (sym here) is
    by false is rest h (suc i) within =
        subst (λ k. is_ready nodes k (get_or more i []) ≡ false) (shift place i)
        (rest h i (omega (arith, within)))

-- the predecessors of the node that may be decided
may-settled : (rules : Rules) (nodes : List NodeState) (node : ℕ) → may_decide rules nodes ≡ Some node
    → all_settled nodes (preds_of rules.before node) ≡ true
may-settled rules nodes node may =
    let first = first-is nodes 0 node rules.before (may-first rules nodes node _ may) in
    let same : first.place_in ≡ node = let i = first.is in omega (arith, i) in
    subst (λ k. all_settled nodes (get_or rules.before k []) ≡ true) same
    (second-true (is_undecided (get_or nodes node Failed)) _ first.ready)

-- what an event leaves

was-undecided : (nodes : List NodeState) (n : ℕ) → slice_get nodes n ≡ Some Undecided
    → get_or nodes n Undecided ≢ Settled
was-undecided nodes n is settled =
    let here = get_or_from_slice_get nodes n Undecided Undecided is in cc

was-open : (nodes : List NodeState) (n : ℕ) → slice_get nodes n ≡ Some Open
    → (get_or nodes n Undecided ≢ Settled) × (get_or nodes n Undecided ≢ Undecided)
was-open nodes n is =
    let here = get_or_from_slice_get nodes n Open Undecided is in
    ((λ settled. let same : Open ≡ Settled = sym here ∙ settled in cc), (λ undecided. let same : Open ≡ Undecided = sym here ∙ undecided in cc))

-- a node that may be decided gets a state
supported-decided : (rules : Rules) (nodes : List NodeState) (n : ℕ) (state : NodeState)
    → may_decide rules nodes ≡ Some n → Supported rules.before nodes
    → Supported rules.before (set nodes n state)
supported-decided rules nodes n state may all =
    supported-set rules.before nodes n state (was-undecided nodes n (may-undecided rules nodes n may))
    (may-settled rules nodes n may) all

-- an open node does
supported-open : (rules : Rules) (nodes : List NodeState) (n : ℕ) (state : NodeState)
    → slice_get nodes n ≡ Some Open → Supported rules.before nodes
    → Supported rules.before (set nodes n state)
supported-open rules nodes n state is all =
    let was = was-open nodes n is in supported-set rules.before nodes n state was.0 (all n was.1) all

supported-started : (rules : Rules) (tasks : Tasks) (state : State) (n number : ℕ) (due : Due)
    → Steady state.nodes due → MayStart rules tasks state n number due
    → Supported rules.before state.nodes → Supported rules.before (set state.nodes n Open)
supported-started rules tasks state n number anything steady may all =
    supported-decided rules state.nodes n Open may.0 all
supported-started rules tasks state n number child steady may all = absurd may
supported-started rules tasks state n number (line one next) steady may all =
    supported-open rules state.nodes n Open
    (subst (λ k. slice_get state.nodes k ≡ Some Open) (sym may.0) steady) all
supported-started rules tasks state n number (close one last) steady may all = absurd may

abbrev ended_nodes : List NodeState → ℕ → Bool → Bool → List NodeState
ended_nodes nodes n failed stops =
    if failed then set nodes n Failed else (if stops then set nodes n Settled else nodes)

-- the nodes behind the end of a line
ended-nodes : (rules : Rules) (tasks : Tasks) (state : State) (n number status : ℕ)
    → (end_line rules tasks state n number status).nodes
    ≡ ended_nodes state.nodes n (fails (line_of (tasks n) number) status)
    (nat_le (length (tasks n)) number || is_stopped rules state.nodes)
ended-nodes rules tasks state n number status =
    by (fails (line_of (tasks n) number) status)
    (nat_le (length (tasks n)) number || is_stopped rules state.nodes)
  where
    by : (failed stops : Bool)
        → (if failed then settle state n Failed else (if stops then settle state n Settled
        else record { nodes = state.nodes; started = state.started; due = line n (number + 1) })).nodes
        ≡ ended_nodes state.nodes n failed stops
    by true stops = refl
    by false true = refl
    by false false = refl

supported-ended : (rules : Rules) (nodes : List NodeState) (n : ℕ) (failed stops : Bool)
    → slice_get nodes n ≡ Some Open → Supported rules.before nodes
    → Supported rules.before (ended_nodes nodes n failed stops)
supported-ended rules nodes n true stops is all = supported-open rules nodes n Failed is all
supported-ended rules nodes n false true is all = supported-open rules nodes n Settled is all
supported-ended rules nodes n false false is all = all

supported-after : (rules : Rules) (tasks : Tasks) (state : State) (event : Event)
    → Steady state.nodes state.due → May rules tasks state event → Supported rules.before state.nodes
    → Supported rules.before (after rules tasks state event).nodes
supported-after rules tasks state (Kept node) steady may all =
    supported-decided rules state.nodes node Settled may.1 all
supported-after rules tasks state (Refused node number) steady may all =
    supported-decided rules state.nodes node Failed may.1 all
supported-after rules tasks state (Shown node number) steady may all = absurd may
supported-after rules tasks state (Start node number) steady may all =
    supported-started rules tasks state node number state.due steady may all
supported-after rules tasks state (End node number status) steady may all =
    subst (Supported rules.before) (sym (ended-nodes rules tasks state node number status))
    (supported-ended rules state.nodes node (fails (line_of (tasks node) number) status)
    (nat_le (length (tasks node)) number || is_stopped rules state.nodes)
    (end-open state node number status state.due steady may) all)
supported-after rules tasks state Wait steady may all = all

supported-all : (rules : Rules) (tasks : Tasks) (state : State) (events : List Event)
    → Steady state.nodes state.due → MayAll rules tasks state events
    → Supported rules.before state.nodes
    → Supported rules.before (after_all rules tasks state events).nodes
supported-all rules tasks state [] steady may all = all
supported-all rules tasks state (event ∷ events) steady may all =
    supported-all rules tasks (after rules tasks state event) events
    (steady-after rules tasks state event steady may.0) may.1
    (supported-after rules tasks state event steady may.0 all)

none-decided : (before : List (List ℕ)) (node : ℕ)
    → get_or (map (λ one. Undecided) before) node Undecided ≡ Undecided
none-decided [] node = refl
none-decided (one ∷ before) zero = refl
none-decided (one ∷ before) (suc node) = none-decided before node

pub supported-run : (rules : Rules) (tasks : Tasks) (events : List Event)
    → MayAll rules tasks (first_state rules) events
    → Supported rules.before (after_all rules tasks (first_state rules) events).nodes
supported-run rules tasks events may =
    supported-all rules tasks (first_state rules) events tt may
    (λ node decided. absurd (decided (none-decided rules.before node)))

-- what a node depends on

reached-settled : (before : List (List ℕ)) (nodes : List NodeState) (from : List ℕ) (other : ℕ)
    → Supported before nodes → all_settled nodes from ≡ true → Reaches before from other
    → get_or nodes other Undecided ≡ Settled
reached-settled before nodes from other all settled (given among) =
    settled-among nodes from other settled among
reached-settled before nodes from other all settled (behind {n} reached among) =
    let is = reached-settled before nodes from n all settled reached in
    settled-among nodes (preds_of before n) other
    (all n (λ undecided. let same : Settled ≡ Undecided = sym is ∙ undecided in cc)) among

pub decided_settled : DecidedDependOnSettled
decided_settled rules tasks events cut node other decided depends =
    let nodes = (after_all rules tasks (first_state rules) events).nodes in
    let all = supported-run rules tasks events cut in
    reached-settled rules.before nodes (preds_of rules.before node) other all (all node decided) depends

-- ready nodes

ready-of : (before : List (List ℕ)) (nodes : List NodeState) (node : ℕ) → Supported before nodes
    → is_ready nodes node (preds_of before node) ≡ true → IsReady before nodes node
ready-of before nodes node all is =
    let settled = second-true (is_undecided (get_or nodes node Failed)) _ is in
    record {
      undecided = is_undecided_is _ (first-true _ (all_settled nodes (preds_of before node)) is);
      closed = λ one among.
          subst IsClosed (sym (settled-among nodes (preds_of before node) one settled among)) tt;
      sound = λ other depends failed.
          let here = reached-settled before nodes (preds_of before node) other all settled depends in
          let same : Settled ≡ Failed = sym here ∙ failed in cc;
    }

closed-settled : (state : NodeState) → IsClosed state → state ≢ Failed → state ≡ Settled
closed-settled Undecided closed sound = absurd closed
closed-settled Open closed sound = absurd closed
closed-settled Settled closed sound = refl
closed-settled Failed closed sound = absurd (sound refl)

ready-is : (before : List (List ℕ)) (nodes : List NodeState) (node : ℕ) → IsReady before nodes node
    → is_ready nodes node (preds_of before node) ≡ true
ready-is before nodes node ready =
    both-true _ _ (ap is_undecided ready.undecided)
    (settled-all nodes (preds_of before node)
    (λ one among. closed-settled _ (ready.closed one among) (ready.sound one (given among))))

-- counting from the first node
from-first : (nodes : List NodeState) (before : List (List ℕ)) (node : ℕ)
    → is_ready nodes (0 + node) (get_or before node []) ≡ is_ready nodes node (preds_of before node)
from-first nodes before node =
    let same : 0 + node ≡ node = omega arith in
    ap (λ k. is_ready nodes k (get_or before node [])) same

-- the rules of a decision

may-by : (stopped room : Bool) (first : Option ℕ) (node : ℕ)
    → (if not stopped && room then first else None) ≡ Some node
    → (stopped ≡ false) × (room ≡ true) × (first ≡ Some node)
may-by true room first node h = cc
may-by false true first node h = (refl, refl, h)
may-by false false first node h = cc

first_ready_is : (rules : Rules) (nodes : List NodeState) (node : ℕ) → Supported rules.before nodes
    → may_decide rules nodes ≡ Some node → IsFirstReady rules nodes node
first_ready_is rules nodes node all may =
    let parts = may-by (is_stopped rules nodes) (nat_lt (open_jobs nodes) rules.jobs)
    (first_ready nodes 0 rules.before) node may in
    let first = first-is nodes 0 node rules.before parts.2 in
    let same : first.place_in ≡ node = let i = first.is in omega (arith, i) in
    record {
      going = parts.0;
      room = ltb-true (open_jobs nodes) rules.jobs parts.1;
      ready = ready-of rules.before nodes node all
          (subst (λ k. is_ready nodes node (get_or rules.before k []) ≡ true) same first.ready);
      first = λ one less ready.
          let not_yet : is_ready nodes one (preds_of rules.before one) ≡ false =
          sym (from-first nodes rules.before one) ∙ first.none one (omega (arith, same, less)) in
          false≢true (sym not_yet ∙ ready-is rules.before nodes one ready);
    }

undecided-within : (nodes : List NodeState) (node : ℕ) → get_or nodes node Failed ≡ Undecided
    → node < length nodes
undecided-within nodes node is = slice_get_within nodes node Undecided (undecided-at nodes node is)

first_is_found : (rules : Rules) (nodes : List NodeState) (node : ℕ) → Supported rules.before nodes
    → length nodes ≡ length rules.before → IsFirstReady rules nodes node
    → may_decide rules nodes ≡ Some node
first_is_found rules nodes node all long first =
    let within = undecided-within nodes node first.ready.undecided in
    let place : 0 + node ≡ node = omega arith in
    let found : first_ready nodes 0 rules.before ≡ Some (0 + node) =
    first-found nodes 0 node rules.before (omega (arith, within, long))
    (from-first nodes rules.before node ∙ ready-is rules.before nodes node first.ready)
    (λ one less.
    from-first nodes rules.before one
    ∙ not-ready one less (is_ready nodes one (preds_of rules.before one)) refl) in
    rw (first.going, lt-ltb (open_jobs nodes) rules.jobs first.room) (found ∙ ap (λ k. Some k) place)
  where
    not-ready : (one : ℕ) → one < node → (b : Bool)
        → is_ready nodes one (preds_of rules.before one) ≡ b
        → is_ready nodes one (preds_of rules.before one) ≡ false
    not-ready one less true is = absurd (first.first one less (ready-of rules.before nodes one all is))
    not-ready one less false is = is

-- as many nodes stand in a run as there are

long-ended : (nodes : List NodeState) (n : ℕ) (failed stops : Bool)
    → length (ended_nodes nodes n failed stops) ≡ length nodes
long-ended nodes n true stops = length-set nodes n Failed
long-ended nodes n false true = length-set nodes n Settled
long-ended nodes n false false = refl

long-after : (rules : Rules) (tasks : Tasks) (state : State) (event : Event)
    → length (after rules tasks state event).nodes ≡ length state.nodes
long-after rules tasks state (Kept node) = length-set state.nodes node Settled
long-after rules tasks state (Refused node number) = length-set state.nodes node Failed
long-after rules tasks state (Shown node number) = refl
long-after rules tasks state (Start node number) = length-set state.nodes node Open
long-after rules tasks state (End node number status) =
    ap length (ended-nodes rules tasks state node number status)
    ∙ long-ended state.nodes node (fails (line_of (tasks node) number) status)
    (nat_le (length (tasks node)) number || is_stopped rules state.nodes)
long-after rules tasks state Wait = refl

long-all : (rules : Rules) (tasks : Tasks) (state : State) (events : List Event)
    → length (after_all rules tasks state events).nodes ≡ length state.nodes
long-all rules tasks state [] = refl
long-all rules tasks state (event ∷ events) =
    long-all rules tasks (after rules tasks state event) events ∙ long-after rules tasks state event

long-first : (before : List (List ℕ)) → length (map (λ one. Undecided) before) ≡ length before
long-first [] = refl
long-first (one ∷ before) = ap suc (long-first before)

pub long-run : (rules : Rules) (tasks : Tasks) (events : List Event)
    → length (after_all rules tasks (first_state rules) events).nodes ≡ length rules.before
long-run rules tasks events =
    long-all rules tasks (first_state rules) events ∙ long-first rules.before

pub first_ready_decided : DecidesFirstReady
first_ready_decided rules tasks events cut node =
    let nodes = (after_all rules tasks (first_state rules) events).nodes in
    let all = supported-run rules tasks events cut in (
      first_ready_is rules nodes node all,
      first_is_found rules nodes node all (long-run rules tasks events),
    )

-- runs in which nothing failed

none_failed-set : (nodes : List NodeState) (n : ℕ) (state : NodeState) → is_failed state ≡ false
    → list_any is_failed nodes ≡ false → list_any is_failed (set nodes n state) ≡ false
none_failed-set [] n state is none = refl
none_failed-set (one ∷ nodes) zero state is none =
    neither _ _ is (both-false (is_failed one) (list_any is_failed nodes) none).1
none_failed-set (one ∷ nodes) (suc n) state is none =
    let parts = both-false (is_failed one) (list_any is_failed nodes) none in
    neither _ _ parts.0 (none_failed-set nodes n state is parts.1)

none-first : (before : List (List ℕ)) → list_any is_failed (map (λ one. Undecided) before) ≡ false
none-first [] = refl
none-first (one ∷ before) = none-first before

none_of-both : (one more : Option Event) → or_next one more ≡ None → (one ≡ None) × (more ≡ None)
none_of-both None more is = (refl, is)
none_of-both (Some event) more is = cc

none-ended : (nodes : List NodeState) (n : ℕ) (event : Event) (failed stops : Bool)
    → (if failed then Some event else None) ≡ None → list_any is_failed nodes ≡ false
    → list_any is_failed (ended_nodes nodes n failed stops) ≡ false
none-ended nodes n event true stops is none = cc
none-ended nodes n event false true is none = none_failed-set nodes n Settled refl none
none-ended nodes n event false false is none = none

none-after : (rules : Rules) (tasks : Tasks) (state : State) (event : Event)
    → failure_of tasks event ≡ None → list_any is_failed state.nodes ≡ false
    → list_any is_failed (after rules tasks state event).nodes ≡ false
none-after rules tasks state (Kept node) is none = none_failed-set state.nodes node Settled refl none
none-after rules tasks state (Refused node number) is none = cc
none-after rules tasks state (Shown node number) is none = none
none-after rules tasks state (Start node number) is none =
    none_failed-set state.nodes node Open refl none
none-after rules tasks state (End node number status) is none =
    subst (λ nodes. list_any is_failed nodes ≡ false)
    (sym (ended-nodes rules tasks state node number status))
    (none-ended state.nodes node (End node number status)
    (fails (line_of (tasks node) number) status)
    (nat_le (length (tasks node)) number || is_stopped rules state.nodes) is none)
none-after rules tasks state Wait is none = none

none-all : (rules : Rules) (tasks : Tasks) (state : State) (events : List Event)
    → first_failure tasks events ≡ None → list_any is_failed state.nodes ≡ false
    → list_any is_failed (after_all rules tasks state events).nodes ≡ false
none-all rules tasks state [] is none = none
none-all rules tasks state (event ∷ events) is none =
    let parts = none_of-both (failure_of tasks event) (first_failure tasks events) is in
    none-all rules tasks (after rules tasks state event) events parts.1
    (none-after rules tasks state event parts.0 none)

none_failed-at : (nodes : List NodeState) (node : ℕ) → list_any is_failed nodes ≡ false
    → get_or nodes node Undecided ≢ Failed
none_failed-at [] node none is = cc
none_failed-at (one ∷ nodes) zero none is =
    let here = (both-false (is_failed one) (list_any is_failed nodes) none).0 in
    let there : is_failed one ≡ true = ap is_failed is in false≢true (sym here ∙ there)
none_failed-at (one ∷ nodes) (suc node) none is =
    none_failed-at nodes node (both-false (is_failed one) (list_any is_failed nodes) none).1 is

not-and : (a : Bool) → (not a && false) ≡ false
not-and true = refl
not-and false = refl

-- where none may be decided, though no failure stops the run and a job may be opened, none is ready
none-decides : (rules : Rules) (nodes : List NodeState) → list_any is_failed nodes ≡ false
    → open_jobs nodes ≡ 0 → 0 < rules.jobs → may_decide rules nodes ≡ None
    → first_ready nodes 0 rules.before ≡ None
none-decides rules nodes none closed room may =
    let going : is_stopped rules nodes ≡ false = rw none (not-and rules.keep_going) in
    let free : nat_lt (open_jobs nodes) rules.jobs ≡ true =
    lt-ltb (open_jobs nodes) rules.jobs (omega (arith, closed, room)) in
    rw (going, free) at may

settled-state : (rules : Rules) (nodes : List NodeState) (node : ℕ) (state : NodeState)
    → get_or nodes node Undecided ≡ state → node < length nodes → length nodes ≡ length rules.before
    → list_any is_failed nodes ≡ false → open_jobs nodes ≡ 0
    → first_ready nodes 0 rules.before ≡ None
    → all_settled nodes (preds_of rules.before node) ≡ true → state ≡ Settled
settled-state rules nodes node Settled is within long none closed first all = refl
settled-state rules nodes node Failed is within long none closed first all =
    absurd (none_failed-at nodes node none is)
settled-state rules nodes node Open is within long none closed first all =
    let some = open-some nodes node (slice_get-get_or nodes node Undecided within ∙ ap (λ s. Some s) is)
    in
    absurd (omega (arith, some, closed))
settled-state rules nodes node Undecided is within long none closed first all =
    let here : get_or nodes node Failed ≡ Undecided =
    get_or_default nodes node Failed Undecided within ∙ is in
    let ready = both-true _ _ (ap is_undecided here) all in
    let not_one = sym (from-first nodes rules.before node)
    ∙ none-ready nodes 0 rules.before first node (omega (arith, within, long)) in
    absurd (false≢true (sym not_one ∙ ready))

all-settled : (rules : Rules) (nodes : List NodeState) → length nodes ≡ length rules.before
    → list_any is_failed nodes ≡ false → open_jobs nodes ≡ 0
    → first_ready nodes 0 rules.before ≡ None → StandBehind rules.before
    → (bound node : ℕ) → node < bound → node < length nodes → get_or nodes node Undecided ≡ Settled
all-settled rules nodes long none closed first stand zero node less within = absurd (omega (arith, less))
all-settled rules nodes long none closed first stand (suc bound) node less within =
    settled-state rules nodes node (get_or nodes node Undecided) refl within long none closed first
    (settled-all nodes (preds_of rules.before node)
    (λ one among.
    let lower = stand node one among in
    all-settled rules nodes long none closed first stand bound one (omega (arith, lower, less))
    (omega (arith, lower, within))))

pub over_settled : OverIsSettled
over_settled rules tasks events run failure stand room node within =
    let nodes = (after_all rules tasks (first_state rules) events).nodes in
    let long = long-run rules tasks events in
    let none = none-all rules tasks (first_state rules) events failure (none-first rules.before) in
    let closed = run.over.none_open in
    let first = none-decides rules nodes none closed room run.over.none_ready in
    all-settled rules nodes long none closed first stand (suc node) node (omega arith)
    (omega (arith, within, long))
