-- What an item leaves as it was of the jobs of other nodes.
use Rattle.std.proofs.Common.{◌≡◌, ◌≢◌, ◌∙◌, ℕ, ◌<◌, ◌==◌, ◌||◌, nat_le, List, [], ◌∷◌, ◌++◌, length, set, slice_get, Option, Some, Bool, true, false, if◌then◌else◌}
use Rattle.std.proofs.Common.{inl, inr, refl, sym, ap, subst, ne_eqb}
use Rattle.mk_meta.specs.TrueHistory.{JobEvent, if_same, job_events}
use Rattle.mk_plan.specs.Deciding.{is_stopped}
use Rattle.mk_plan.specs.declared.plan.NodeState.{NodeState}
use Rattle.mk_plan.specs.declared.plan.NodeState.TheVariants.{Open}
use Rattle.mk_world.proofs.ChildLemmas.{child_in-front, child_in-without, child_in-other}
use Rattle.mk_world.specs.History.{child_in, stepped, without_child}
use Rattle.mk_world.specs.Looks.{Seen}
use Rattle.mk_world.specs.Talks.{NextOf}
use Rattle.mk_world.specs.declared.command.Cmd.{Cmd}
use Rattle.mk_world.specs.declared.history.Child.{Child}
use Rattle.mk_world.specs.declared.step.Deed.{Deed}
use Rattle.mk_world.specs.declared.step.Ended.{Ended}
use Rattle.mk_decision.specs.Decisions.{Work}
use Rattle.mk_trace.proofs.TrueRuns.{slice-other, slice-same, not-due, ended-open, ended-line, ended-started, IsDue, closing-due, closing-begins, end-due, end-begins}
use Rattle.mk_trace.proofs.TrueStages.{Idle}
use Rattle.mk_trace.specs.Builds.{Build, Own, Duty, free, remove, begin, date, close, stop, behind_look, build_after, rules_of, with_collected, with_ticket}
use Rattle.mk_trace.specs.Collected.{begun as opens_at, with_end}
use Rattle.mk_trace.specs.declared.result.Failure.{Failure}
use Rattle.mk_trace.specs.Items.{head, Item, looks, starts, passes, waits, steps, ends, changes, happened}
use Rattle.mk_trace.specs.Runs as run
use Rattle.mk_trace.specs.Together.{HasChild, IsNotDue, AreTogether}

-- the event of another job
pub other-quiet : (owner stamp : ℕ) (event : JobEvent) → owner ≢ stamp → if_same (owner == stamp) event ++ [] ≡ []
other-quiet owner stamp event other = rw (ne_eqb owner stamp other) refl

look-begins : (duty : Duty) (node : ℕ) → behind_look duty ≡ begin node → duty ≡ begin node
look-begins free node is = absurd cc
look-begins (remove one) node is = absurd cc
look-begins (begin one) node is = is
look-begins (date one) node is = absurd cc
look-begins (close one) node is = absurd cc
look-begins stop node is = absurd cc

look-due : (duty : Duty) (node : ℕ) → IsDue (behind_look duty) node → IsDue duty node
look-due free node (inl is) = absurd cc
look-due free node (inr is) = absurd cc
look-due (remove one) node (inl is) = absurd cc
look-due (remove one) node (inr is) = absurd cc
look-due (begin one) node (inl is) = absurd cc
look-due (begin one) node (inr is) = absurd cc
look-due (date one) node (inl is) = absurd cc
look-due (date one) node (inr is) = inl cc
look-due (close one) node (inl is) = absurd cc
look-due (close one) node (inr is) = inr is
look-due stop node (inl is) = absurd cc
look-due stop node (inr is) = absurd cc

pub free-not : (node : ℕ) → IsDue free node → ⊥
free-not node (inl is) = absurd cc
free-not node (inr is) = absurd cc

pub stop-not : (node : ℕ) → IsDue stop node → ⊥
stop-not node (inl is) = absurd cc
stop-not node (inr is) = absurd cc

pub begin-not : (one node : ℕ) → IsDue (begin one) node → ⊥
begin-not one node (inl is) = absurd cc
begin-not one node (inr is) = absurd cc

due-free : (duty : Duty) (node : ℕ) → duty ≡ free → IsDue duty node → ⊥
due-free duty node is due = free-not node (subst (λ d. IsDue d node) is due)

begin-free : (duty : Duty) (node : ℕ) → duty ≡ free → duty ≡ begin node → ⊥
begin-free duty node is due =
    let clash : free ≡ begin node = sym is ∙ due in absurd cc

no-line : (has : Bool) (node number other line : ℕ)
    → (if has then run.anything else run.close node number) ≡ run.line other line → ⊥
no-line true node number other line is = absurd cc
no-line false node number other line is = absurd cc

module _ (next : NextOf) (work : Work) (tasks : run.Tasks) where
  -- the run and what jobs have stay
  pub idle-change : (node : ℕ) (item : Item) (build : Build) (seen : ℕ → List Seen)
      (failure : Option Failure) (duty : Duty) (children : List Child)
      → ((stamp : ℕ) → job_events stamp (happened item) ≡ [])
      → (duty ≡ begin node → build.duty ≡ begin node) → (IsDue duty node → IsDue build.duty node)
      → Idle next work tasks node item build
      (record { run = build.run; seen = seen; own = build.own; failure = failure; duty = duty })
      children children
  idle-change node item build seen failure duty children quiet begins_back due_back = record {
    quiet = λ stamp later is. quiet stamp;
    same = refl;
    opened = λ is. (begins_back is, refl);
    between = λ number is. is;
    inside = λ child has here. (has, refl, here);
    over = λ due. (due_back due, λ shut. shut);
  }

  pub idle-looks : (node one : ℕ) (seen : Seen) (build : Build) (children : List Child)
      → Idle next work tasks node (looks one seen) build (build_after work tasks build (looks one seen))
      children children
  idle-looks node one seen build children =
      idle-change node (looks one seen) build _ _ (behind_look build.duty) children (λ stamp. refl)
      (look-begins build.duty node) (look-due build.duty node)

  -- a node is decided
  pub idle-settled : (node n : ℕ) (item : Item) (stands : NodeState) (build : Build) (seen : ℕ → List Seen)
      (failure : Option Failure) (children : List Child) → stands ≢ Open
      → ((stamp : ℕ) → job_events stamp (happened item) ≡ [])
      → build.run.due ≡ run.anything → build.duty ≡ free
      → Idle next work tasks node item build
      (record {
        run = run.settle build.run n stands;
        seen = seen;
        own = build.own;
        failure = failure;
        duty = build.duty;
      }) children children
  idle-settled node n item stands build seen failure children shut quiet due duty = record {
    quiet = λ stamp later is. quiet stamp;
    same = refl;
    opened = λ is. absurd (begin-free build.duty node duty is);
    between = λ number is. absurd cc;
    inside = λ child has here.
        let other : node ≢ n = λ same.
        shut (slice-same build.run.nodes n stands Open
        (subst (λ k. slice_get (set build.run.nodes n stands) k ≡ Some Open) same has.0)) in (
          (
            sym (slice-other build.run.nodes n node stands other) ∙ has.0,
            subst (IsNotDue node) (sym due) tt,
          ),
          refl,
          here,
        );
    over = λ is. absurd (due-free build.duty node duty is);
  }

  pub idle-waits : (node : ℕ) (build : Build) (children : List Child) → build.run.due ≡ run.anything
      → build.duty ≡ free
      → Idle next work tasks node waits build (build_after work tasks build waits) children children
  idle-waits node build children due duty = record {
    quiet = λ stamp later is. refl;
    same = refl;
    opened = λ is. absurd (begin-free build.duty node duty is);
    between = λ number is. absurd cc;
    inside = λ child has here. ((has.0, subst (IsNotDue node) (sym due) tt), refl, here);
    over = λ is. absurd (due-free build.duty node duty is);
  }

  -- another node's line begins
  pub idle-starts : (node n number ticket owner : ℕ) (cmd : Cmd) (build : Build) (children : List Child)
      → node ≢ n → run.MayStart (rules_of work) tasks build.run n number build.run.due
      → AreTogether work tasks build.run build.own children
      → ((stamp : ℕ) → 0 < stamp → (build.own node).collected.owner ≡ stamp → owner ≢ stamp)
      → Idle next work tasks node (starts n number ticket owner cmd) build
      (build_after work tasks build (starts n number ticket owner cmd)) children
      (children ++ record { ticket = ticket; owner = owner; cmd = cmd; deeds = [] } ∷ [])
  idle-starts node n number ticket owner cmd build children other may together differs = record {
    quiet = λ stamp later is. other-quiet owner stamp _ (differs stamp later is);
    same = ap (λ (o : Own). o.collected) mine;
    opened = λ is. absurd cc;
    between = λ line is. absurd (no-line (run.has_child (run.line_of (tasks n) number)) n number node line is);
    inside = λ child has here.
        let was : HasChild build.run node = (
          sym (slice-other build.run.nodes n node Open other) ∙ has.0,
          not-due (rules_of work) tasks build.run n number node build.run.due other may,
        ) in
        let one = together.child node was in
        let found : Some one.0 ≡ Some child =
        sym (child_in-front children new (build.own node).ticket one.0 one.1)
        ∙ (ap (λ (o : Own). child_in (children ++ new ∷ []) o.ticket) (sym mine) ∙ here) in
        (was, rw (ne_eqb node n other) refl, one.1 ∙ found);
    over = λ is. absurd (free-not node is);
  }
    where
      new : Child
      new = record { ticket = ticket; owner = owner; cmd = cmd; deeds = [] }

      mine : with_ticket build.own n ticket node ≡ build.own node
      mine = rw (ne_eqb node n other) refl

  -- another node's empty line begins and ends
  pub idle-passes : (node n number : ℕ) (build : Build) (children : List Child) → node ≢ n
      → run.MayStart (rules_of work) tasks build.run n number build.run.due
      → Idle next work tasks node (passes n number) build
      (build_after work tasks build (passes n number)) children children
  idle-passes node n number build children other may = record {
    quiet = λ stamp later is. refl;
    same = refl;
    opened = λ is. absurd (closing-begins work n node (nat_le (length (tasks n)) number) is);
    between = λ line is. absurd (other (ended-line begun_run n number node line false stops is).0);
    inside = λ child has here.
        let opens = ended-open begun_run n number node false stops has in (
          (
            sym (slice-other build.run.nodes n node Open other) ∙ opens.1,
            not-due (rules_of work) tasks build.run n number node build.run.due other may,
          ),
          ended-started begun_run n number node false stops ∙ rw (ne_eqb node n other) refl,
          here,
        );
    over = λ is. absurd (other (closing-due work n node (nat_le (length (tasks n)) number) is).0);
  }
    where
      begun_run : run.State
      begun_run = run.start_line tasks build.run n number

      stops : Bool
      stops = nat_le (length (tasks n)) number || is_stopped (rules_of work) begun_run.nodes

  -- the child of another node is taken in
  pub idle-ends : (node n number owner : ℕ) (one : Ended) (build : Build) (children : List Child) → node ≢ n
      → build.run.due ≡ run.child → HasChild build.run n → (build.own n).ticket ≡ one.ticket.0
      → AreTogether work tasks build.run build.own children
      → ((stamp : ℕ) → 0 < stamp → (build.own node).collected.owner ≡ stamp → owner ≢ stamp)
      → Idle next work tasks node (ends n number owner one) build
      (build_after work tasks build (ends n number owner one)) children
      (without_child one.ticket.0 children)
  idle-ends node n number owner one build children other due has_one mine_is together differs = record {
    quiet = λ stamp later is. other-quiet owner stamp _ (differs stamp later is);
    same = ap (λ (o : Own). o.collected) mine;
    opened = λ is. absurd (end-begins work n node fails over is);
    between = λ line is. absurd (other (ended-line build.run n number node line fails stops is).0);
    inside = λ child has here.
        let opens = ended-open build.run n number node fails stops has in
        let was : HasChild build.run node = (opens.1, subst (IsNotDue node) (sym due) tt) in
        let before = together.child node was in
        let apart : (build.own node).ticket ≢ one.ticket.0 = λ same.
        other (together.apart node n was has_one (same ∙ sym mine_is)) in
        let found : Some before.0 ≡ Some child =
        sym (child_in-without one.ticket.0 (build.own node).ticket children before.0 apart before.1)
        ∙ (ap (λ (o : Own). child_in (without_child one.ticket.0 children) o.ticket) (sym mine) ∙ here) in
        (was, ended-started build.run n number node fails stops, before.1 ∙ found);
    over = λ is. absurd (other (end-due work n node fails over is).0);
  }
    where
      fails : Bool
      fails = run.fails (run.line_of (tasks n) number) one.status

      over : Bool
      over = nat_le (length (tasks n)) number

      stops : Bool
      stops = over || is_stopped (rules_of work) build.run.nodes

      mine : with_collected build.own n (with_end (build.own n).collected number one) node ≡ build.own node
      mine = rw (ne_eqb node n other) refl

  -- the child of another node does a step
  pub idle-steps : (node n ticket owner time : ℕ) (deed : Deed) (build : Build) (children : List Child)
      → node ≢ n → HasChild build.run n → (build.own n).ticket ≡ ticket
      → AreTogether work tasks build.run build.own children
      → ((stamp : ℕ) → 0 < stamp → (build.own node).collected.owner ≡ stamp → owner ≢ stamp)
      → Idle next work tasks node (steps ticket owner deed time) build build children
      (stepped ticket deed children)
  idle-steps node n ticket owner time deed build children other has_one mine_is together differs = record {
    quiet = λ stamp later is. other-quiet owner stamp _ (differs stamp later is);
    same = refl;
    opened = λ is. (is, refl);
    between = λ number is. is;
    inside = λ child has here.
        let apart : (ticket == (build.own node).ticket) ≡ false =
        ne_eqb ticket (build.own node).ticket
        (λ same. other (together.apart node n has has_one (sym same ∙ sym mine_is))) in
        (has, refl, sym (child_in-other ticket (build.own node).ticket deed children apart) ∙ here);
    over = λ due. (due, λ shut. shut);
  }

  -- the job of another node is opened
  pub idle-head : (node n time : ℕ) (path bytes : List ℕ) (build : Build) (children : List Child) → node ≢ n
      → Idle next work tasks node (changes n (head path bytes time)) build
      (build_after work tasks build (changes n (head path bytes time))) children children
  idle-head node n time path bytes build children other = record {
    quiet = λ stamp later is. refl;
    same = ap (λ (o : Own). o.collected) mine;
    opened = λ is. absurd (other (begin-same n node is));
    between = λ number is. is;
    inside = λ child has here.
        (has, refl, ap (λ (o : Own). child_in children o.ticket) (sym mine) ∙ here);
    over = λ is. absurd (begin-not n node is);
  }
    where
      mine : with_collected build.own n (opens_at time) node ≡ build.own node
      mine = rw (ne_eqb node n other) refl

      begin-same : (one two : ℕ) → begin one ≡ begin two → two ≡ one
      begin-same one two is = cc
