-- Nodes and children belong together.
use Rattle.std.proofs.Common.{◌≡◌, ◌≢◌, ◌∙◌, ◌⊎◌, ℕ, zero, suc, ◌+◌, ◌-◌, ◌<◌, ◌≤◌, ◌==◌, ◌&&◌, ◌||◌, not, nat_le, List, [], ◌∷◌, ◌++◌, length, map, get_or, set, slice_get, Option, Some, None, Bool, true, false, if◌then◌else◌}
use Rattle.std.proofs.Common.{inl, inr, refl, sym, ap, subst, arith, eq-eqb, eqb-true, ne_eqb}
use Rattle.std.proofs.lemmas.Bool.{cases_eq, cond_both, false≢true}
use Rattle.std.proofs.lemmas.Bool.Decides.{nat_tests}
use Rattle.std.proofs.lemmas.Grind.{common_steps}
use Rattle.std.proofs.lemmas.Option.{slice_get_within}
use Rattle.std.specs.List.{Contains}
use Rattle.mk_plan.specs.Deciding.{Rules, may_decide, is_stopped}
use Rattle.mk_plan.specs.declared.plan.NodeState.{NodeState}
use Rattle.mk_plan.specs.declared.plan.NodeState.TheVariants.{Undecided, Open, Settled, Failed}
use Rattle.mk_world.proofs.ChildLemmas.{child_in-none, child_in-front, child_in-last, contains-last, child_in-without, contains-without, Once, once-last, once-without, none-taken, child_in-step, once-step, contains-step}
use Rattle.mk_world.specs.Calls.{EndsAs}
use Rattle.mk_world.specs.History.{State as Stand, May as MayHappenNow, MayAll as MayHappen, after as stand_next, after_all as stand_after, child_in, children_after, stepped, without_child}
use Rattle.mk_world.specs.Talks.{Meaning}
use Rattle.mk_world.specs.declared.command.Cmd.{Cmd}
use Rattle.mk_world.specs.declared.command.TaskLine.{TaskLine}
use Rattle.mk_world.specs.declared.history.Child.{Child}
use Rattle.mk_world.specs.declared.step.Deed.{Deed}
use Rattle.mk_world.specs.declared.step.Ended.{Ended}
use Rattle.mk_decision.specs.Decisions.{Work}
use Rattle.mk_trace.proofs.BegunLemmas.{may-undecided, Steady, start-within}
use Rattle.mk_trace.specs.Builds.{Build, Own, Makes, MayMake, IsCommandOf, command_of, first_build, build_after, build_after_all, rules_of, own_after, own_changed, with_collected, with_ticket}
use Rattle.mk_trace.specs.Collected.{with_end}
use Rattle.mk_trace.specs.declared.collected.Collected.{Collected}
use Rattle.mk_trace.specs.Items.{Change, gone, head, whole, cut_head, cut_whole, changed, Item, looks, keeps, refuses, starts, passes, waits, steps, ends, changes, leaves, reported, happened, happened_all, FitsAll, IsEndOf}
use Rattle.mk_trace.specs.Runs as run
use Rattle.mk_trace.specs.Together.{IsNotDue, HasChild, AreTogether, ChildrenBelongToNodes}
use Rattle.mk_trace.specs.Calls.{NoneLeft}
use Rattle.mk_trace.specs.declared.event.Event.{Event}
use Rattle.mk_trace.specs.declared.event.Event.TheVariants.{Kept, Refused, Start, End, Wait}

-- how nodes stand

slice-other : (nodes : List NodeState) (n node : ℕ) (state : NodeState) → node ≢ n
    → slice_get (set nodes n state) node ≡ slice_get nodes node
slice-other [] n node state other = refl
slice-other (one ∷ nodes) zero zero state other = absurd (other refl)
slice-other (one ∷ nodes) zero (suc node) state other = refl
slice-other (one ∷ nodes) (suc n) zero state other = refl
slice-other (one ∷ nodes) (suc n) (suc node) state other =
    slice-other nodes n node state (λ same. other (ap suc same))

slice-same : (nodes : List NodeState) (n : ℕ) (state : NodeState)
    → slice_get (set nodes n state) n ≡ Some Open → state ≡ Open
slice-same [] n state is = cc
slice-same (one ∷ nodes) zero state is = cc
slice-same (one ∷ nodes) (suc n) state is = slice-same nodes n state is

slice-here : (nodes : List NodeState) (n : ℕ) (state : NodeState) → n < length nodes
    → slice_get (set nodes n state) n ≡ Some state
slice-here [] n state less = absurd (omega (arith, less))
slice-here (one ∷ nodes) zero state less = refl
slice-here (one ∷ nodes) (suc n) state less = slice-here nodes n state (omega (arith, less))

-- a node that does not stand open any more
shut-other : (nodes : List NodeState) (n node : ℕ) (state : NodeState) → state ≢ Open
    → slice_get (set nodes n state) node ≡ Some Open
    → (node ≢ n) × (slice_get nodes node ≡ Some Open)
shut-other nodes n node state shut is = elim (cases_eq node n) [
  | inl same ↦
      absurd (shut (slice-same nodes n state
      (subst (λ k. slice_get (set nodes n state) k ≡ Some Open) same is)))
  | inr other ↦ (other, sym (slice-other nodes n node state other) ∙ is)
]

-- a line is never due within an item
abbrev IsFree : run.Due → Type 0
IsFree run.anything = Unit {0}
IsFree run.child = Unit {0}
IsFree (run.line node number) = Unit {0}
IsFree (run.close node number) = ⊥

-- the node of which a line may be started has no child
begins-none : (rules : Rules) (tasks : run.Tasks) (state : run.State) (n number : ℕ) (due : run.Due)
    → run.MayStart rules tasks state n number due → (node : ℕ)
    → slice_get state.nodes node ≡ Some Open → IsNotDue node due → node ≢ n
begins-none rules tasks state n number run.anything may node is free same =
    let undecided = may-undecided rules state.nodes n may.0 in
    let here : Some Undecided ≡ Some Open =
    sym undecided ∙ subst (λ k. slice_get state.nodes k ≡ Some Open) same is in
    cc
begins-none rules tasks state n number run.child may node is free same = may
begins-none rules tasks state n number (run.line one next) may node is free same =
    free (same ∙ may.0)
begins-none rules tasks state n number (run.close one last) may node is free same = may

started-within : (rules : Rules) (tasks : run.Tasks) (state : run.State) (n number : ℕ)
    (due : run.Due) → (n < length state.nodes ⊎ (due ≡ run.anything))
    → run.MayStart rules tasks state n number due → n < length state.nodes
started-within rules tasks state n number run.anything known may =
    slice_get_within state.nodes n Undecided (may-undecided rules state.nodes n may.0)
started-within rules tasks state n number run.child known may = absurd may
started-within rules tasks state n number (run.line one next) (inl less) may = less
started-within rules tasks state n number (run.line one next) (inr none) may = cc
started-within rules tasks state n number (run.close one last) known may = absurd may

-- what goes over from one state of the nodes to another
carried : (work : Work) (tasks : run.Tasks) (old new : run.State) (own : ℕ → Own) (children : List Child)
    → ((node : ℕ) → HasChild new node
    → HasChild old node × (new.started node ≡ old.started node))
    → ((node : ℕ) → HasChild old node → HasChild new node)
    → AreTogether work tasks old own children → AreTogether work tasks new own children
carried work tasks old new own children back forth fit = record {
  child = λ node has.
      let was = back node has in
      let here = fit.child node was.0 in
      (here.0, here.1, subst (λ k. IsCommandOf work (run.line_of (tasks node) k) here.0.cmd) (sym was.1) here.2);
  node = λ one has. let found = fit.node one has in (found.0, forth found.0 found.1, found.2);
  apart = λ node other has also same. fit.apart node other (back node has).0 (back other also).0 same;
}

-- nodes and children belong together between two items
record Fit (work : Work) (tasks : run.Tasks) (state : run.State) (own : ℕ → Own)
    (children : List Child) : Type 0 where
  together : AreTogether work tasks state own children
  once : Once children
  steady : Steady state.nodes state.due
  free : IsFree state.due

-- a node is decided without a line
fit-settled : (work : Work) (tasks : run.Tasks) (state : run.State) (own : ℕ → Own)
    (children : List Child) (n : ℕ) (stands : NodeState) → stands ≢ Open
    → run.MayDecide (rules_of work) state n → Fit work tasks state own children
    → Fit work tasks (run.settle state n stands) own children
fit-settled work tasks state own children n stands shut may fit = record {
  together = carried work tasks state (run.settle state n stands) own children
      (λ node has.
      let was = shut-other state.nodes n node stands shut has.0 in
      ((was.1, subst (IsNotDue node) (sym may.0) tt), refl))
      (λ node has.
      let undecided = may-undecided (rules_of work) state.nodes n may.1 in
      let other : node ≢ n = λ same.
      let clash : Some Undecided ≡ Some Open =
      sym undecided ∙ subst (λ k. slice_get state.nodes k ≡ Some Open) same has.0 in cc in
      (slice-other state.nodes n node stands other ∙ has.0, tt))
      fit.together;
  once = fit.once;
  steady = tt;
  free = tt;
}

-- an empty line begins and ends

abbrev passed-state : run.Tasks → run.State → ℕ → ℕ → Bool → run.State
passed-state tasks state n number over =
    let begun = run.start_line tasks state n number in
    if over then run.settle begun n Settled
    else record { nodes = begun.nodes; started = begun.started; due = run.line n (number + 1) }

started-other : (started : ℕ → ℕ) (n number node : ℕ) → node ≢ n
    → (if node == n then number else started node) ≡ started node
started-other started n number node other = rw (ne_eqb node n other) refl

fit-passed : (work : Work) (tasks : run.Tasks) (state : run.State) (own : ℕ → Own)
    (children : List Child) (n number : ℕ) (over : Bool)
    → run.MayStart (rules_of work) tasks state n number state.due
    → Fit work tasks state own children
    → Fit work tasks (passed-state tasks state n number over) own children
fit-passed work tasks state own children n number true may fit =
    let begun = run.start_line tasks state n number in
    let now = run.settle begun n Settled in
    record {
      together = carried work tasks state now own children
          (λ node has.
          let was = shut-other begun.nodes n node Settled (λ is. cc) has.0 in
          let before = sym (slice-other state.nodes n node Open was.0) ∙ was.1 in (
            (before, not-due-before node state.due before was.0 may),
            started-other state.started n number node was.0,
          ))
          (λ node has.
          let other = begins-none (rules_of work) tasks state n number state.due may node has.0 has.1 in (
            slice-other begun.nodes n node Settled other
                ∙ (slice-other state.nodes n node Open other ∙ has.0),
            tt,
          ))
          fit.together;
      once = fit.once;
      steady = tt;
      free = tt;
    }
  where
    not-due-before : (node : ℕ) (due : run.Due) → slice_get state.nodes node ≡ Some Open → node ≢ n
        → run.MayStart (rules_of work) tasks state n number due → IsNotDue node due
    not-due-before node run.anything is other given = tt
    not-due-before node run.child is other given = tt
    not-due-before node (run.line one next) is other given = λ same. other (same ∙ sym given.0)
    not-due-before node (run.close one after_it) is other given = absurd given
fit-passed work tasks state own children n number false may fit =
    let begun = run.start_line tasks state n number in
    let now : run.State =
    record { nodes = begun.nodes; started = begun.started; due = run.line n (number + 1) } in
    let less = start-within (rules_of work) tasks state n number state.due fit.steady may in
    record {
      together = carried work tasks state now own children
          (λ node has.
          let before = sym (slice-other state.nodes n node Open has.1) ∙ has.0 in (
            (before, not-due-before node state.due has.1 may),
            started-other state.started n number node has.1,
          ))
          (λ node has.
          let other = begins-none (rules_of work) tasks state n number state.due may node has.0 has.1 in
          (slice-other state.nodes n node Open other ∙ has.0, other))
          fit.together;
      once = fit.once;
      steady = slice-here state.nodes n Open less;
      free = tt;
    }
  where
    not-due-before : (node : ℕ) (due : run.Due) → node ≢ n
        → run.MayStart (rules_of work) tasks state n number due → IsNotDue node due
    not-due-before node run.anything other given = tt
    not-due-before node run.child other given = tt
    not-due-before node (run.line one next) other given = λ same. other (same ∙ sym given.0)
    not-due-before node (run.close one after_it) other given = absurd given

-- the line of a node is started

text-child : (work : Work) (one : Option TaskLine) (cmd : Cmd) → IsCommandOf work one cmd
    → run.has_child one ≡ true
text-child work None cmd is = absurd is
text-child work (Some one) cmd is = ap not is.0

fit-started : (work : Work) (tasks : run.Tasks) (state : run.State) (own : ℕ → Own)
    (children : List Child) (n number ticket owner : ℕ) (cmd : Cmd)
    → run.MayStart (rules_of work) tasks state n number state.due
    → IsCommandOf work (run.line_of (tasks n) number) cmd → child_in children ticket ≡ None
    → Fit work tasks state own children
    → Fit work tasks
    (record {
      nodes = set state.nodes n Open;
      started = λ one. if one == n then number else state.started one;
      due = run.anything;
    })
    (with_ticket own n ticket)
    (children ++ record { ticket = ticket; owner = owner; cmd = cmd; deeds = [] } ∷ [])
fit-started work tasks state own children n number ticket owner cmd may is none fit = record {
  together = record { child = child; node = node; apart = apart };
  once = once-last children new fit.once none;
  steady = tt;
  free = tt;
}
  where
    new : Child
    new = record { ticket = ticket; owner = owner; cmd = cmd; deeds = [] }

    now : run.State
    now = record {
      nodes = set state.nodes n Open;
      started = λ one. if one == n then number else state.started one;
      due = run.anything;
    }

    mine : ℕ → Own
    mine = with_ticket own n ticket

    is-mine : mine n ≡ record { ticket = ticket; collected = (own n).collected }
    is-mine = rw (eq-eqb n n refl) refl

    is-other : (node : ℕ) → node ≢ n → mine node ≡ own node
    is-other node other = rw (ne_eqb node n other) refl

    not-due : (node : ℕ) (due : run.Due) → node ≢ n
        → run.MayStart (rules_of work) tasks state n number due → IsNotDue node due
    not-due node run.anything other given = tt
    not-due node run.child other given = tt
    not-due node (run.line one next) other given = λ same. other (same ∙ sym given.0)
    not-due node (run.close one after_it) other given = absurd given

    before : (node : ℕ) → HasChild now node → node ≢ n → HasChild state node
    before node has other =
        (sym (slice-other state.nodes n node Open other) ∙ has.0, not-due node state.due other may)

    child : (node : ℕ) → HasChild now node → (one : Child)
        × (child_in (children ++ new ∷ []) (mine node).ticket ≡ Some one)
        × IsCommandOf work (run.line_of (tasks node) (now.started node)) one.cmd
    child node has = elim (cases_eq node n) [
      | inl same ↦
          let here : child_in (children ++ new ∷ []) (mine n).ticket ≡ Some new =
          ap (λ (o : Own). child_in (children ++ new ∷ []) o.ticket) is-mine ∙ child_in-last children new none in
          let line : now.started n ≡ number = rw (eq-eqb n n refl) refl in
          subst (λ k. (one : Child) × (child_in (children ++ new ∷ []) (mine k).ticket ≡ Some one)
          × IsCommandOf work (run.line_of (tasks k) (now.started k)) one.cmd) (sym same)
          (new, here, subst (λ l. IsCommandOf work (run.line_of (tasks n) l) cmd) (sym line) is)
      | inr other ↦
          let was = fit.together.child node (before node has other) in
          let line : now.started node ≡ state.started node = started-other state.started n number node other in (
            was.0,
            ap (λ (o : Own). child_in (children ++ new ∷ []) o.ticket) (is-other node other)
                ∙ child_in-front children new (own node).ticket was.0 was.1,
            subst (λ l. IsCommandOf work (run.line_of (tasks node) l) was.0.cmd) (sym line) was.2,
          )
    ]

    node : (one : Child) → Contains (children ++ new ∷ []) one → (node : ℕ) × HasChild now node
        × ((mine node).ticket ≡ one.ticket)
    node one has = elim (contains-last children new one has) [
      | inl old ↦
          let found = fit.together.node one old in
          let other = begins-none (rules_of work) tasks state n number state.due may found.0 found.1.0
          found.1.1 in (
            found.0,
            (slice-other state.nodes n found.0 Open other ∙ found.1.0, tt),
            ap (λ (o : Own). o.ticket) (is-other found.0 other) ∙ found.2,
          )
      | inr same ↦
          let less = start-within (rules_of work) tasks state n number state.due fit.steady may in (
            n,
            (slice-here state.nodes n Open less, tt),
            ap (λ (o : Own). o.ticket) is-mine ∙ ap (λ (c : Child). c.ticket) same,
          )
    ]

    -- the new ticket is that of no other node
    fresh : (one : ℕ) → HasChild now one → one ≢ n → (own one).ticket ≢ ticket
    fresh one has other same =
        let was = fit.together.child one (before one has other) in
        let clash : None ≡ Some was.0 = sym none ∙ (ap (child_in children) (sym same) ∙ was.1) in cc

    apart : (one other : ℕ) → HasChild now one → HasChild now other
        → (mine one).ticket ≡ (mine other).ticket → one ≡ other
    apart one other has also same = elim (cases_eq one n) [
      | inl first ↦ elim (cases_eq other n) [
        | inl second ↦ first ∙ sym second
        | inr differs ↦
            absurd (fresh other also differs
            (sym (ap (λ (o : Own). o.ticket) (is-other other differs))
            ∙ (sym same ∙ ap (λ (o : Own). o.ticket) (ap mine first ∙ is-mine))))
      ]
      | inr apart_first ↦ elim (cases_eq other n) [
        | inl second ↦
            absurd (fresh one has apart_first
            (sym (ap (λ (o : Own). o.ticket) (is-other one apart_first))
            ∙ (same ∙ ap (λ (o : Own). o.ticket) (ap mine second ∙ is-mine))))
        | inr apart_second ↦
            fit.together.apart one other (before one has apart_first) (before other also apart_second)
            (sym (ap (λ (o : Own). o.ticket) (is-other one apart_first))
            ∙ (same ∙ ap (λ (o : Own). o.ticket) (is-other other apart_second)))
      ]
    ]

-- a child is taken in

abbrev ended_state : run.State → ℕ → ℕ → Bool → Bool → run.State
ended_state state n number failed stops =
    if failed then run.settle state n Failed
    else (if stops then run.settle state n Settled
    else record { nodes = state.nodes; started = state.started; due = run.line n (number + 1) })

-- no other node has a child now, and that of the node is gone
ended-back : (state : run.State) (n number : ℕ) (failed stops : Bool) (node : ℕ)
    → state.due ≡ run.child → HasChild (ended_state state n number failed stops) node
    → (node ≢ n) × HasChild state node
ended-back state n number true stops node due has =
    let was = shut-other state.nodes n node Failed (λ is. cc) has.0 in
    (was.0, (was.1, subst (IsNotDue node) (sym due) tt))
ended-back state n number false true node due has =
    let was = shut-other state.nodes n node Settled (λ is. cc) has.0 in
    (was.0, (was.1, subst (IsNotDue node) (sym due) tt))
ended-back state n number false false node due has =
    (has.1, (has.0, subst (IsNotDue node) (sym due) tt))

ended-forth : (state : run.State) (n number : ℕ) (failed stops : Bool) (node : ℕ) → node ≢ n
    → HasChild state node → HasChild (ended_state state n number failed stops) node
ended-forth state n number true stops node other has =
    (slice-other state.nodes n node Failed other ∙ has.0, tt)
ended-forth state n number false true node other has =
    (slice-other state.nodes n node Settled other ∙ has.0, tt)
ended-forth state n number false false node other has = (has.0, other)

ended-started : (state : run.State) (n number : ℕ) (failed stops : Bool) (node : ℕ)
    → (ended_state state n number failed stops).started node ≡ state.started node
ended-started state n number true stops node = refl
ended-started state n number false true node = refl
ended-started state n number false false node = refl

ended-free : (state : run.State) (n number : ℕ) (failed stops : Bool)
    → IsFree (ended_state state n number failed stops).due
ended-free state n number true stops = tt
ended-free state n number false true = tt
ended-free state n number false false = tt

ended-steady : (state : run.State) (n number : ℕ) (failed stops : Bool)
    → slice_get state.nodes n ≡ Some Open
    → Steady (ended_state state n number failed stops).nodes (ended_state state n number failed stops).due
ended-steady state n number true stops is = tt
ended-steady state n number false true is = tt
ended-steady state n number false false is = is

fit-ended : (work : Work) (tasks : run.Tasks) (state : run.State) (own : ℕ → Own)
    (children : List Child) (n number ticket : ℕ) (failed stops : Bool) → state.due ≡ run.child
    → slice_get state.nodes n ≡ Some Open → (own n).ticket ≡ ticket
    → Fit work tasks state own children
    → Fit work tasks (ended_state state n number failed stops) own (without_child ticket children)
fit-ended work tasks state own children n number ticket failed stops due is_open mine fit = record {
  together = record {
    child = λ node has.
        let was = ended-back state n number failed stops node due has in
        let here = fit.together.child node was.1 in
        let differs : (own node).ticket ≢ ticket = λ same. was.0 (same-node node was.1 same) in (
          here.0,
          child_in-without ticket (own node).ticket children here.0 differs here.1,
          subst (λ k. IsCommandOf work (run.line_of (tasks node) k) here.0.cmd)
              (sym (ended-started state n number failed stops node)) here.2,
        );
    node = λ one has.
        let found = fit.together.node one (contains-without ticket children one has) in
        let other : found.0 ≢ n = λ same.
        child_in-none ticket (without_child ticket children) one (none-taken ticket children fit.once) has
        (sym found.2 ∙ (ap (λ k. (own k).ticket) same ∙ mine)) in
        (found.0, ended-forth state n number failed stops found.0 other found.1, found.2);
    apart = λ one other has also same.
        fit.together.apart one other (ended-back state n number failed stops one due has).1
        (ended-back state n number failed stops other due also).1 same;
  };
  once = once-without ticket children fit.once;
  steady = ended-steady state n number failed stops is_open;
  free = ended-free state n number failed stops;
}
  where
    same-node : (node : ℕ) → HasChild state node → (own node).ticket ≡ ticket → node ≡ n
    same-node node has same =
        fit.together.apart node n has (is_open, subst (IsNotDue n) (sym due) tt) (same ∙ sym mine)

-- what jobs have collected does not count
fit-collected : (work : Work) (tasks : run.Tasks) (state : run.State) (own : ℕ → Own)
    (children : List Child) (n : ℕ) (collected : Collected) → Fit work tasks state own children
    → Fit work tasks state (with_collected own n collected) children
fit-collected work tasks state own children n collected fit = record {
  together = record {
    child = λ node has.
        let was = fit.together.child node has in
        (was.0, ap (child_in children) (same node) ∙ was.1, was.2);
    node = λ one has.
        let found = fit.together.node one has in (found.0, found.1, same found.0 ∙ found.2);
    apart = λ node other has also is.
        fit.together.apart node other has also (sym (same node) ∙ (is ∙ same other));
  };
  once = fit.once;
  steady = fit.steady;
  free = fit.free;
}
  where
    by : (node : ℕ) (b : Bool)
        → (if b then record { ticket = (own node).ticket; collected = collected } else own node).ticket
        ≡ (own node).ticket
    by node true = refl
    by node false = refl

    same : (node : ℕ) → (with_collected own n collected node).ticket ≡ (own node).ticket
    same node = by node (node == n)

-- make changes a file
fit-changed : (work : Work) (tasks : run.Tasks) (state : run.State) (own : ℕ → Own) (stand : Stand)
    (n : ℕ) (change : Change) → Fit work tasks state own stand.children
    → Fit work tasks state (own_changed own n change) (stand_after stand (changed change ∷ [])).children
fit-changed work tasks state own stand n (gone path time) fit = fit
fit-changed work tasks state own stand n (head path bytes time) fit =
    fit-collected work tasks state own stand.children n _ fit
fit-changed work tasks state own stand n (whole path bytes time) fit = fit
fit-changed work tasks state own stand n (cut_head path part time) fit = fit
fit-changed work tasks state own stand n (cut_whole path part time) fit = fit

-- a child does a step
fit-stepped : (work : Work) (tasks : run.Tasks) (state : run.State) (own : ℕ → Own)
    (children : List Child) (ticket : ℕ) (deed : Deed) → Fit work tasks state own children
    → Fit work tasks state own (stepped ticket deed children)
fit-stepped work tasks state own children ticket deed fit = record {
  together = record {
    child = λ node has.
        let was = fit.together.child node has in
        let now = child_in-step ticket (own node).ticket deed children was.0 was.1 in
        (now.0, now.1, subst (IsCommandOf work (run.line_of (tasks node) (state.started node))) (sym now.2) was.2);
    node = λ one has.
        let before = contains-step ticket deed children one has in
        let found = fit.together.node before.0 before.1 in
        (found.0, found.1, found.2 ∙ before.2);
    apart = fit.together.apart;
  };
  once = once-step ticket deed children fit.once;
  steady = fit.steady;
  free = fit.free;
}

-- item after item

-- an empty line has no child, so that its end is due
empty-due : (state : run.State) (n number status : ℕ) (has : Bool)
    → run.MayEnd state n number status (if has then run.anything else run.close n number)
    → (has ≡ false) × (status ≡ 0)
empty-due state n number status true may = absurd may
empty-due state n number status false may = (refl, may.2)

passed-after : (rules : Rules) (tasks : run.Tasks) (state : run.State) (n number : ℕ)
    → run.end_line rules tasks (run.start_line tasks state n number) n number 0
    ≡ passed-state tasks state n number
    (nat_le (length (tasks n)) number || is_stopped rules (set state.nodes n Open))
passed-after rules tasks state n number = refl

ended-after : (rules : Rules) (tasks : run.Tasks) (state : run.State) (n number status : ℕ)
    → run.end_line rules tasks state n number status
    ≡ ended_state state n number (run.fails (run.line_of (tasks n) number) status)
    (nat_le (length (tasks n)) number || is_stopped rules state.nodes)
ended-after rules tasks state n number status = refl

-- what is taken in between items is the child of a node
taken-due : (state : run.State) (n number status : ℕ) (due : run.Due) → IsFree due
    → run.MayEnd state n number status due
    → (due ≡ run.child) × (slice_get state.nodes n ≡ Some Open)
taken-due state n number status run.anything free may = absurd may
taken-due state n number status run.child free may = (refl, may.0)
taken-due state n number status (run.line one next) free may = absurd may
taken-due state n number status (run.close one last) free may = absurd free

fit-waits : (work : Work) (tasks : run.Tasks) (state : run.State) (own : ℕ → Own)
    (children : List Child) → run.MayWait (rules_of work) state → Fit work tasks state own children
    → Fit work tasks (record { nodes = state.nodes; started = state.started; due = run.child }) own
    children
fit-waits work tasks state own children may fit = record {
  together = carried work tasks state
      (record { nodes = state.nodes; started = state.started; due = run.child }) own children
      (λ node has. ((has.0, subst (IsNotDue node) (sym may.0) tt), refl))
      (λ node has. (has.0, tt)) fit.together;
  once = fit.once;
  steady = may.2;
  free = tt;
}

together-all : (meaning : Meaning) (work : Work) (tasks : run.Tasks) (build : Build) (items : List Item)
    (stand : Stand) → Fit work tasks build.run build.own stand.children → Makes work tasks build items
    → MayHappen meaning stand (happened_all items) → FitsAll meaning stand items → NoneLeft items
    → AreTogether work tasks (build_after_all work tasks build items).run
    (build_after_all work tasks build items).own (stand_after stand (happened_all items)).children
together-all meaning work tasks build [] stand fit makes may fits none = fit.together
together-all meaning work tasks build (looks node seen ∷ items) stand fit makes may fits none =
    together-all meaning work tasks (build_after work tasks build (looks node seen)) items
    (stand_after stand (happened (looks node seen))) fit makes.3 may.1 fits.1 none
together-all meaning work tasks build (keeps node ∷ items) stand fit makes may fits none =
    together-all meaning work tasks (build_after work tasks build (keeps node)) items stand
    (fit-settled work tasks build.run build.own stand.children node Settled (λ is. cc) makes.0.0 fit)
    makes.3 may fits.1 none
together-all meaning work tasks build (refuses node number what ∷ items) stand fit makes may fits none =
    together-all meaning work tasks (build_after work tasks build (refuses node number what)) items stand
    (fit-settled work tasks build.run build.own stand.children node Failed (λ is. cc) makes.0.0 fit)
    makes.3 may fits.1 none
together-all meaning work tasks build (starts node number ticket owner cmd ∷ items) stand fit makes may fits none =
    let text = text-child work (run.line_of (tasks node) number) cmd makes.2.1 in
    let same : (if run.has_child (run.line_of (tasks node) number) then run.anything
    else run.close node number) ≡ run.anything = rw text refl in
    together-all meaning work tasks
    (build_after work tasks build (starts node number ticket owner cmd)) items
    (stand_after stand (happened (starts node number ticket owner cmd)))
    (subst (λ due. Fit work tasks
    (record {
      nodes = set build.run.nodes node Open;
      started = λ one. if one == node then number else build.run.started one;
      due = due;
    })
    (own_after build.own (starts node number ticket owner cmd))
    (stand_after stand (happened (starts node number ticket owner cmd))).children) (sym same)
    (fit-started work tasks build.run build.own stand.children node number ticket owner cmd makes.0.0
    makes.2.1 may.0.1 fit)) makes.3 may.1 fits.1 none
together-all meaning work tasks build (passes node number ∷ items) stand fit makes may fits none =
    together-all meaning work tasks (build_after work tasks build (passes node number)) items stand
    (fit-passed work tasks build.run build.own stand.children node number
    (nat_le (length (tasks node)) number || is_stopped (rules_of work) (set build.run.nodes node Open))
    makes.0.0 fit) makes.3 may fits.1 none
together-all meaning work tasks build (waits ∷ items) stand fit makes may fits none =
    together-all meaning work tasks (build_after work tasks build waits) items stand
    (fit-waits work tasks build.run build.own stand.children makes.0.0 fit) makes.3 may fits.1 none
together-all meaning work tasks build (steps ticket owner deed time ∷ items) stand fit makes may fits none =
    together-all meaning work tasks (build_after work tasks build (steps ticket owner deed time)) items
    (stand_after stand (happened (steps ticket owner deed time)))
    (fit-stepped work tasks build.run build.own stand.children ticket deed fit) makes.3 may.1 fits.1 none
together-all meaning work tasks build (ends node number owner ended ∷ items) stand fit makes may fits none =
    let due = taken-due build.run node number ended.status build.run.due fit.free makes.0.0 in
    together-all meaning work tasks (build_after work tasks build (ends node number owner ended)) items
    (stand_after stand (happened (ends node number owner ended)))
    (fit-collected work tasks _ build.own _ node (with_end (build.own node).collected number ended)
    (fit-ended work tasks build.run build.own stand.children node number ended.ticket.0
    (run.fails (run.line_of (tasks node) number) ended.status)
    (nat_le (length (tasks node)) number || is_stopped (rules_of work) build.run.nodes) due.0 due.1
    makes.2 fit)) makes.3 may.1 fits.1 none
together-all meaning work tasks build (changes node change ∷ items) stand fit makes may fits none =
    together-all meaning work tasks (build_after work tasks build (changes node change)) items
    (stand_after stand (happened (changes node change)))
    (fit-changed work tasks build.run build.own stand node change fit) makes.3 may.1 fits.1 none
together-all meaning work tasks build (leaves ticket owner ∷ items) stand fit makes may fits none =
    absurd none

none-open : (before : List (List ℕ)) (node : ℕ)
    → slice_get (map (λ one. Undecided) before) node ≡ Some Open → ⊥
none-open [] node is = cc
none-open (one ∷ before) zero is = cc
none-open (one ∷ before) (suc node) is = none-open before node is

no-child : (one : Child) → Contains [] one → ⊥
no-child one has = let less = has.1 in absurd (omega (arith, less))

pub children_belong : ChildrenBelongToNodes
children_belong meaning work tasks items stand none makes may fits left =
    together-all meaning work tasks (first_build work) items stand
    (record {
      together = record {
        child = λ node has. absurd (none-open (rules_of work).before node has.0);
        node = λ one has. absurd (no-child one (subst (λ l. Contains l one) none has));
        apart = λ node other has also same. absurd (none-open (rules_of work).before node has.0);
      };
      once = subst Once (sym none) tt;
      steady = tt;
      free = tt;
    }) makes may fits left
