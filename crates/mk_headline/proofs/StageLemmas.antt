-- How far each node is in a build, and in the turns beside it.
use Rattle.std.proofs.Common.{◌≡◌, ◌≢◌, ◌∙◌, ℕ, zero, suc, ◌+◌, ◌<◌, ◌≤◌, ◌==◌, ◌&&◌, ◌||◌, not, List, [], ◌∷◌, ◌++◌, length, map, drop, set, slice_get, Option, Some, Bool, true, false, if◌then◌else◌}
use Rattle.std.proofs.Common.{refl, sym, ap, subst, arith, eq-eqb, ne_eqb}
use Rattle.std.proofs.lemmas.List.{drop_all}
use Rattle.std.specs.List.{Contains, list_any}
use Rattle.mk_clean.proofs.BesideLemmas.{stage_other, stage_own}
use Rattle.mk_clean.specs.Clean.{IsAmong, Plan}
use Rattle.mk_clean.specs.Turns as turn
use Rattle.mk_clean.specs.Turns.{Stage, waiting, between, inside, settled, Turn, after_turn, after_turns, with_stage, SourcesSettled, MayTurns}
use Rattle.mk_decision.specs.Decisions.{Work}
use Rattle.mk_headline.specs.Plans.{clean_plan, has_job, lines_of}
use Rattle.mk_headline.specs.Turned.{begun_by}
use Rattle.mk_meta.specs.Jobs.{is_empty, working}
use Rattle.mk_plan.specs.Deciding.{Rules, is_failed, is_stopped}
use Rattle.mk_plan.specs.Plans.{node_at}
use Rattle.mk_plan.specs.declared.plan.NodeState.{NodeState}
use Rattle.mk_plan.specs.declared.plan.NodeState.TheVariants.{Undecided, Open, Settled, Failed}
use Rattle.mk_trace.proofs.BegunLemmas.{Steady, may-undecided}
use Rattle.mk_trace.proofs.TrueRuns.{slice-other, slice-same, not-due, ended_run, ended-open, ended-started, ended-line}
use Rattle.mk_trace.specs.Builds.{Own, command_of, rules_of, with_ticket}
use Rattle.mk_trace.specs.Runs as run
use Rattle.mk_trace.specs.Together.{HasChild, IsNotDue, AreTogether}
use Rattle.mk_world.proofs.ChildLemmas.{child_in-front, child_in-other, child_in-without}
use Rattle.mk_world.specs.History.{child_in, stepped, without_child}
use Rattle.mk_world.specs.Talks.{Meaning, answer}
use Rattle.mk_world.specs.declared.command.Cmd.{Cmd}
use Rattle.mk_world.specs.declared.command.TaskLine.{TaskLine}
use Rattle.mk_world.specs.declared.history.Child.{Child}
use Rattle.mk_world.specs.declared.step.Deed.{Deed}

-- the lines of a task

pub working-line : (lines : List TaskLine) (place : ℕ) (line : TaskLine) → slice_get lines place ≡ Some line
    → is_empty line.text ≡ false → working (drop place lines) ≡ line ∷ working (drop (place + 1) lines)
working-line [] place line is full = absurd cc
working-line (first ∷ lines) zero line is full =
    let same : first ≡ line = cc in
    let first_full : is_empty first.text ≡ false =
    ap (λ (l : TaskLine). is_empty l.text) same ∙ full in
    rw first_full (ap (λ l. l ∷ working lines) same)
working-line (first ∷ lines) (suc place) line is full =
    let next : suc (place + 1) ≡ suc place + 1 = omega arith in
    subst (λ k. working (drop place lines) ≡ line ∷ working (drop k (first ∷ lines))) next
    (working-line lines place line is full)

pub working-empty : (lines : List TaskLine) (place : ℕ) (line : TaskLine) → slice_get lines place ≡ Some line
    → is_empty line.text ≡ true → working (drop place lines) ≡ working (drop (place + 1) lines)
working-empty [] place line is none = absurd cc
working-empty (first ∷ lines) zero line is none =
    let same : first ≡ line = cc in
    let first_none : is_empty first.text ≡ true =
    ap (λ (l : TaskLine). is_empty l.text) same ∙ none in
    rw first_none refl
working-empty (first ∷ lines) (suc place) line is none =
    let next : suc (place + 1) ≡ suc place + 1 = omega arith in
    subst (λ k. working (drop place lines) ≡ working (drop k (first ∷ lines))) next
    (working-empty lines place line is none)

pub working-past : (lines : List TaskLine) (place : ℕ) → length lines ≤ place → working (drop place lines) ≡ []
working-past lines place past = ap working (drop_all place lines past)

-- a failure that stops a run

-- a node that has not failed
abbrev pub IsSound : List NodeState → ℕ → Type 0
IsSound nodes n = slice_get nodes n ≡ Some Failed → ⊥

neither-two : (a b : Bool) → (a || b) ≡ false → (a ≡ false) × (b ≡ false)
neither-two true b is = absurd cc
neither-two false b is = (refl, is)

both-two : (a b : Bool) → a ≡ false → b ≡ false → (a || b) ≡ false
both-two true b first second = absurd cc
both-two false b first second = second

sound-state : (one : NodeState) → (Some one ≡ Some Failed → ⊥) → is_failed one ≡ false
sound-state Undecided sound = refl
sound-state Open sound = refl
sound-state Settled sound = refl
sound-state Failed sound = absurd (sound refl)

failed-back : (nodes : List NodeState) (n : ℕ) (stands : NodeState) → IsSound nodes n
    → list_any is_failed (set nodes n stands) ≡ false → list_any is_failed nodes ≡ false
failed-back [] n stands sound is = refl
failed-back (one ∷ nodes) zero stands sound is =
    both-two (is_failed one) (list_any is_failed nodes) (sound-state one sound)
    (neither-two (is_failed stands) (list_any is_failed nodes) is).1
failed-back (one ∷ nodes) (suc n) stands sound is =
    let parts = neither-two (is_failed one) (list_any is_failed (set nodes n stands)) is in
    both-two (is_failed one) (list_any is_failed nodes) parts.0
    (failed-back nodes n stands sound parts.1)

-- a run that goes on did so before
pub going-back : (rules : Rules) (nodes : List NodeState) (n : ℕ) (stands : NodeState) → IsSound nodes n
    → is_stopped rules (set nodes n stands) ≡ false → is_stopped rules nodes ≡ false
going-back rules nodes n stands sound is = by rules.keep_going is
  where
    by : (keep : Bool) → (not keep && list_any is_failed (set nodes n stands)) ≡ false
        → (not keep && list_any is_failed nodes) ≡ false
    by true given = refl
    by false given = failed-back nodes n stands sound given

pub sound-open : (nodes : List NodeState) (n : ℕ) → slice_get nodes n ≡ Some Open → IsSound nodes n
sound-open nodes n is bad = let both : Some Open ≡ Some Failed = sym is ∙ bad in absurd cc

pub sound-undecided : (nodes : List NodeState) (n : ℕ) → slice_get nodes n ≡ Some Undecided → IsSound nodes n
sound-undecided nodes n is bad = let both : Some Undecided ≡ Some Failed = sym is ∙ bad in absurd cc

pub sound-opened : (nodes : List NodeState) (n : ℕ) → IsSound (set nodes n Open) n
sound-opened nodes n bad = let both = slice-same nodes n Open Failed bad in absurd cc

-- a node of which a line may be started has not failed
pub sound-start : (rules : Rules) (tasks : run.Tasks) (state : run.State) (n number : ℕ) (due : run.Due)
    → Steady state.nodes due → run.MayStart rules tasks state n number due → IsSound state.nodes n
sound-start rules tasks state n number run.anything steady may =
    sound-undecided state.nodes n (may-undecided rules state.nodes n may.0)
sound-start rules tasks state n number run.child steady may = absurd may
sound-start rules tasks state n number (run.line one next) steady may =
    sound-open state.nodes n (subst (λ k. slice_get state.nodes k ≡ Some Open) (sym may.0) steady)
sound-start rules tasks state n number (run.close one last) steady may = absurd may

-- Each running child is that of a node, and no two nodes have one ticket.
pub record AreOfNodes (state : run.State) (own : ℕ → Own) (children : List Child) : Type 0 where
  pub node : (one : Child) → Contains children one → (node : ℕ) × HasChild state node
      × ((own node).ticket ≡ one.ticket)
  pub apart : (node other : ℕ) → HasChild state node → HasChild state other
      → (own node).ticket ≡ (own other).ticket → node ≡ other

module _ (meaning : Meaning) (work : Work) (tasks : run.Tasks) where
  abbrev pub plan : Plan
  plan = clean_plan work tasks

  -- the line of a node that a child runs
  pub record InLine (node number : ℕ) (child : Child) (stage : Stage) : Type 0 where
    pub deeds : List Deed
    pub line : TaskLine
    pub line_is : run.line_of (tasks node) number ≡ Some line
    pub has : has_job (node_at work.plan node) ≡ true
    pub later : 0 < number
    pub cmd : child.cmd ≡ command_of work line
    pub stage_is : stage ≡ inside deeds (map answer child.deeds) line (working (drop number (tasks node)))

  -- the line of a node that is due
  pub record BeforeLine (node number : ℕ) (stage : Stage) : Type 0 where
    pub place : ℕ
    pub number_is : number ≡ place + 1
    pub has : has_job (node_at work.plan node) ≡ true
    pub later : 0 < place
    pub deeds : List Deed
    pub stage_is : stage ≡ between deeds (working (drop place (tasks node)))

  -- a node is as far in the turns as in the build, in which jobs end early where a failure stops it
  pub record FitsNode (state : run.State) (own : ℕ → Own) (children : List Child) (node : ℕ)
      (stage : Stage) : Type 0
    where
      pub undecided : slice_get state.nodes node ≡ Some Undecided → stage ≡ waiting
      pub decided : is_stopped (rules_of work) state.nodes ≡ false
          → slice_get state.nodes node ≡ Some Settled → stage ≡ settled
      pub running : (child : Child) → HasChild state node
          → child_in children (own node).ticket ≡ Some child
          → InLine node (state.started node) child stage
      pub due : (number : ℕ) → state.due ≡ run.line node number → BeforeLine node number stage

  -- nothing happens to a node
  pub record Quiet (state later : run.State) (own own_then : ℕ → Own) (children others : List Child)
      (node : ℕ) : Type 0
    where
      pub undecided : slice_get later.nodes node ≡ Some Undecided
          → slice_get state.nodes node ≡ Some Undecided
      pub going : is_stopped (rules_of work) later.nodes ≡ false
          → is_stopped (rules_of work) state.nodes ≡ false
      pub decided : slice_get later.nodes node ≡ Some Settled → slice_get state.nodes node ≡ Some Settled
      pub running : (child : Child) → HasChild later node
          → child_in others (own_then node).ticket ≡ Some child
          → HasChild state node × (later.started node ≡ state.started node)
          × (child_in children (own node).ticket ≡ Some child)
      pub due : (number : ℕ) → later.due ≡ run.line node number → state.due ≡ run.line node number

  pub fits-quiet : (state later : run.State) (own own_then : ℕ → Own) (children others : List Child)
      (node : ℕ) (stage stage_then : Stage) → stage_then ≡ stage
      → Quiet state later own own_then children others node → FitsNode state own children node stage
      → FitsNode later own_then others node stage_then
  fits-quiet state later own own_then children others node stage stage_then same quiet fits = record {
    undecided = λ is. same ∙ fits.undecided (quiet.undecided is);
    decided = λ going is. same ∙ fits.decided (quiet.going going) (quiet.decided is);
    running = λ child has here.
        let was = quiet.running child has here in
        let line = fits.running child was.0 was.2 in
        subst (λ k. InLine node k child stage_then) (sym was.1)
        (record {
          deeds = line.deeds;
          line = line.line;
          line_is = line.line_is;
          has = line.has;
          later = line.later;
          cmd = line.cmd;
          stage_is = same ∙ line.stage_is;
        });
    due = λ number is.
        let line = fits.due number (quiet.due number is) in
        record {
          place = line.place;
          number_is = line.number_is;
          has = line.has;
          later = line.later;
          deeds = line.deeds;
          stage_is = same ∙ line.stage_is;
        };
  }

  pub quiet-same : (state : run.State) (own own_then : ℕ → Own) (children : List Child) (node : ℕ)
      → (own_then node).ticket ≡ (own node).ticket → Quiet state state own own_then children children node
  quiet-same state own own_then children node same = record {
    undecided = λ is. is;
    going = λ is. is;
    decided = λ is. is;
    running = λ child has here. (has, refl, ap (child_in children) (sym same) ∙ here);
    due = λ number is. is;
  }

  pub quiet-settled : (state : run.State) (own : ℕ → Own) (children : List Child) (n node : ℕ)
      (stands : NodeState) → node ≢ n → state.due ≡ run.anything → IsSound state.nodes n
      → Quiet state (run.settle state n stands) own own children children node
  quiet-settled state own children n node stands other due sound = record {
    undecided = λ is. sym (slice-other state.nodes n node stands other) ∙ is;
    going = λ is. going-back (rules_of work) state.nodes n stands sound is;
    decided = λ is. sym (slice-other state.nodes n node stands other) ∙ is;
    running = λ child has here. (
      (sym (slice-other state.nodes n node stands other) ∙ has.0, subst (IsNotDue node) (sym due) tt),
      refl,
      here,
    );
    due = λ number is. absurd cc;
  }

  pub quiet-waits : (state : run.State) (own : ℕ → Own) (children : List Child) (node : ℕ)
      → state.due ≡ run.anything
      → Quiet state (record { nodes = state.nodes; started = state.started; due = run.child }) own own
      children children node
  quiet-waits state own children node due = record {
    undecided = λ is. is;
    going = λ is. is;
    decided = λ is. is;
    running = λ child has here. ((has.0, subst (IsNotDue node) (sym due) tt), refl, here);
    due = λ number is. absurd cc;
  }

  no-line : (has : Bool) (node number other line : ℕ)
      → (if has then run.anything else run.close node number) ≡ run.line other line → ⊥
  no-line true node number other line is = absurd cc
  no-line false node number other line is = absurd cc

  pub quiet-starts : (state : run.State) (own : ℕ → Own) (children : List Child)
      (n node number ticket owner : ℕ) (cmd : Cmd) → node ≢ n
      → run.MayStart (rules_of work) tasks state n number state.due
      → IsSound state.nodes n → AreTogether work tasks state own children
      → Quiet state (run.start_line tasks state n number) own (with_ticket own n ticket) children
      (children ++ record { ticket = ticket; owner = owner; cmd = cmd; deeds = [] } ∷ []) node
  quiet-starts state own children n node number ticket owner cmd other may sound together = record {
    undecided = λ is. sym (slice-other state.nodes n node Open other) ∙ is;
    going = λ is. going-back (rules_of work) state.nodes n Open sound is;
    decided = λ is. sym (slice-other state.nodes n node Open other) ∙ is;
    running = λ child has here.
        let was : HasChild state node = (
          sym (slice-other state.nodes n node Open other) ∙ has.0,
          not-due (rules_of work) tasks state n number node state.due other may,
        ) in
        let one = together.child node was in
        let found : Some one.0 ≡ Some child =
        sym (child_in-front children new (own node).ticket one.0 one.1)
        ∙ (ap (λ (o : Own). child_in (children ++ new ∷ []) o.ticket) (sym mine) ∙ here) in
        (was, rw (ne_eqb node n other) refl, one.1 ∙ found);
    due = λ line is. absurd (no-line (run.has_child (run.line_of (tasks n) number)) n number node line is);
  }
    where
      new : Child
      new = record { ticket = ticket; owner = owner; cmd = cmd; deeds = [] }

      mine : with_ticket own n ticket node ≡ own node
      mine = rw (ne_eqb node n other) refl

  ended-nodes : (state : run.State) (n number node : ℕ) (failed stops : Bool) → node ≢ n
      → slice_get (ended_run state n number failed stops).nodes node ≡ slice_get state.nodes node
  ended-nodes state n number node true stops other = slice-other state.nodes n node Failed other
  ended-nodes state n number node false true other = slice-other state.nodes n node Settled other
  ended-nodes state n number node false false other = refl

  ended-going : (state : run.State) (n number : ℕ) (failed stops : Bool) → IsSound state.nodes n
      → is_stopped (rules_of work) (ended_run state n number failed stops).nodes ≡ false
      → is_stopped (rules_of work) state.nodes ≡ false
  ended-going state n number true stops sound is = going-back (rules_of work) state.nodes n Failed sound is
  ended-going state n number false true sound is = going-back (rules_of work) state.nodes n Settled sound is
  ended-going state n number false false sound is = is

  pub quiet-passes : (state : run.State) (own : ℕ → Own) (children : List Child) (n node number : ℕ)
      (stops : Bool) → node ≢ n → run.MayStart (rules_of work) tasks state n number state.due
      → IsSound state.nodes n
      → Quiet state (ended_run (run.start_line tasks state n number) n number false stops) own own children
      children node
  quiet-passes state own children n node number stops other may sound = record {
    undecided = λ is. back is;
    going = λ is.
        going-back (rules_of work) state.nodes n Open sound
        (ended-going begun_run n number false stops (sound-opened state.nodes n) is);
    decided = λ is. back is;
    running = λ child has here.
        let opens = ended-open begun_run n number node false stops has in (
          (
            sym (slice-other state.nodes n node Open other) ∙ opens.1,
            not-due (rules_of work) tasks state n number node state.due other may,
          ),
          ended-started begun_run n number node false stops ∙ rw (ne_eqb node n other) refl,
          here,
        );
    due = λ line is. absurd (other (ended-line begun_run n number node line false stops is).0);
  }
    where
      begun_run : run.State
      begun_run = run.start_line tasks state n number

      back : {stands : Option NodeState}
          → slice_get (ended_run begun_run n number false stops).nodes node ≡ stands
          → slice_get state.nodes node ≡ stands
      back is =
          sym (slice-other state.nodes n node Open other)
          ∙ (sym (ended-nodes begun_run n number node false stops other) ∙ is)

  pub quiet-ends : (state : run.State) (own own_then : ℕ → Own) (children : List Child)
      (n node number ticket : ℕ) (fails stops : Bool) → node ≢ n → state.due ≡ run.child
      → HasChild state n → (own n).ticket ≡ ticket → (own_then node).ticket ≡ (own node).ticket
      → AreTogether work tasks state own children
      → Quiet state (ended_run state n number fails stops) own own_then children
      (without_child ticket children) node
  quiet-ends state own own_then children n node number ticket fails stops other due has_one mine_is same together = record {
    undecided = λ is. sym (ended-nodes state n number node fails stops other) ∙ is;
    going = λ is. ended-going state n number fails stops (sound-open state.nodes n has_one.0) is;
    decided = λ is. sym (ended-nodes state n number node fails stops other) ∙ is;
    running = λ child has here.
        let opens = ended-open state n number node fails stops has in
        let was : HasChild state node = (opens.1, subst (IsNotDue node) (sym due) tt) in
        let before = together.child node was in
        let apart : (own node).ticket ≢ ticket = λ is.
        other (together.apart node n was has_one (is ∙ sym mine_is)) in
        let found : Some before.0 ≡ Some child =
        sym (child_in-without ticket (own node).ticket children before.0 apart before.1)
        ∙ (ap (child_in (without_child ticket children)) (sym same) ∙ here) in
        (was, ended-started state n number node fails stops, before.1 ∙ found);
    due = λ line is. absurd (other (ended-line state n number node line fails stops is).0);
  }

  pub quiet-steps : (state : run.State) (own : ℕ → Own) (children : List Child) (n node ticket : ℕ)
      (deed : Deed) → node ≢ n → HasChild state n → (own n).ticket ≡ ticket
      → AreOfNodes state own children
      → Quiet state state own own children (stepped ticket deed children) node
  quiet-steps state own children n node ticket deed other has_one mine_is of_nodes = record {
    undecided = λ is. is;
    going = λ is. is;
    decided = λ is. is;
    running = λ child has here.
        let apart : (ticket == (own node).ticket) ≡ false =
        ne_eqb ticket (own node).ticket
        (λ same. other (of_nodes.apart node n has has_one (sym same ∙ sym mine_is))) in
        (has, refl, sym (child_in-other ticket (own node).ticket deed children apart) ∙ here);
    due = λ number is. is;
  }

  -- turns

  pub may-append : (build : turn.Build) (first second : List Turn) → MayTurns meaning plan build first
      → MayTurns meaning plan (after_turns plan build first) second
      → MayTurns meaning plan build (first ++ second)
  may-append build [] second may more = more
  may-append build (one ∷ first) second may more =
      (may.0, may-append (after_turn plan build one) first second may.1 more)

  pub after-append : (build : turn.Build) (first second : List Turn)
      → after_turns plan build (first ++ second)
      ≡ after_turns plan (after_turns plan build first) second
  after-append build [] second = refl
  after-append build (one ∷ first) second = after-append (after_turn plan build one) first second

  -- the stage of a node itself, and of another
  pub own-stage : (n : ℕ) (stage : Stage) (stages : ℕ → Stage) → with_stage n stage stages n ≡ stage
  own-stage n stage stages = stage_own n n stage stages (eq-eqb n n refl)

  pub other-stage : (n node : ℕ) (stage : Stage) (stages : ℕ → Stage) → node ≢ n
      → with_stage n stage stages node ≡ stages node
  other-stage n node stage stages other =
      stage_other n node stage stages (ne_eqb n node (λ same. other (sym same)))

  -- a line of a node may be started: its job has begun
  pub record Ready (n number : ℕ) (build : turn.Build) (first : List Turn) : Type 0 where
    pub place : ℕ
    pub number_is : number ≡ place + 1
    pub has : has_job (node_at work.plan n) ≡ true
    pub deeds : List Deed
    pub may : MayTurns meaning plan build first
    pub files : (after_turns plan build first).files ≡ build.files
    pub looks : (after_turns plan build first).looks ≡ build.looks
    pub stage_is : (after_turns plan build first).stage n ≡ between deeds (working (drop place (tasks n)))
    pub others : (node : ℕ) → node ≢ n → (after_turns plan build first).stage node ≡ build.stage node

  pub ready : (state : run.State) (own : ℕ → Own) (children : List Child) (n number : ℕ) (due : run.Due)
      (build : turn.Build) → state.due ≡ due
      → run.MayStart (rules_of work) tasks state n number due
      → (number ≡ 1 → 0 < length (tasks n) → has_job (node_at work.plan n) ≡ true)
      → (run.MayDecide (rules_of work) state n → SourcesSettled plan build n)
      → (has_job (node_at work.plan n) ≡ true → IsAmong n plan.order)
      → FitsNode state own children n (build.stage n) → Ready n number build (begun_by n number)
  ready state own children n number run.anything build is may has sources among fits =
      let job = has may.1 may.2 in
      let waits = fits.undecided (may-undecided (rules_of work) state.nodes n may.0) in
      let lines : lines_of work tasks n ≡ working (tasks n) = rw job refl in
      subst (λ k. Ready n k build (begun_by n k)) (sym may.1)
      (record {
        place = 0;
        number_is = refl;
        has = job;
        deeds = [];
        may = ((waits, sources (is, may.0), among job), tt);
        files = refl;
        looks = refl;
        stage_is = own-stage n (between [] (lines_of work tasks n)) build.stage
            ∙ ap (λ l. between [] l) lines;
        others = λ node other. other-stage n node (between [] (lines_of work tasks n)) build.stage other;
      })
  ready state own children n number run.child build is may has sources among fits = absurd may
  ready state own children n number (run.line one next) build is may has sources among fits =
      let here : state.due ≡ run.line n number =
      is ∙ (ap (λ k. run.line k next) (sym may.0) ∙ ap (λ k. run.line n k) (sym may.1)) in
      let line = fits.due number here in
      let later : number ≢ 1 = λ first.
      let less = line.later in let at = line.number_is in omega (arith, less, at, first) in
      let none : begun_by n number ≡ [] = rw (ne_eqb number 1 later) refl in
      subst (Ready n number build) (sym none)
      (record {
        place = line.place;
        number_is = line.number_is;
        has = line.has;
        deeds = line.deeds;
        may = tt;
        files = refl;
        looks = refl;
        stage_is = line.stage_is;
        others = λ node other. refl;
      })
  ready state own children n number (run.close one last) build is may has sources among fits = absurd may
