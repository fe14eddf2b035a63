-- The lines of a node in a dry run.
use Rattle.std.proofs.Common.{◌≡◌, ◌∙◌, ◌⊎◌, ℕ, suc, ◌+◌, ◌-◌, ◌<◌, ◌≤◌, ◌==◌, ◌&&◌, not, nat_le, List, [], ◌∷◌, ◌++◌, length, map, set, slice_get, Option, Some, None, Result, Ok, Err, Bool, true, false, if◌then◌else◌}
use Rattle.std.proofs.Common.{inl, inr, refl, sym, ap, subst, append_assoc, arith}
use Rattle.std.proofs.lemmas.Bool.Decides.{nat_tests}
use Rattle.std.proofs.lemmas.Grind.{common_steps}
use Rattle.std.proofs.lemmas.List.{append-nil}
use Rattle.std.proofs.lemmas.Option.{slice_get-map}
use Rattle.mk_child.specs.declared.child.Place.{Place}
use Rattle.mk_child.specs.declared.halt.Halt.{Halt}
use Rattle.mk_child.specs.declared.halt.Halt.TheVariants as halts
use Rattle.mk_decision.specs.Decisions.{IsBegun}
use Rattle.mk_plan.specs.Deciding.{Rules, first_ready, is_stopped, may_decide, open_jobs}
use Rattle.mk_plan.specs.declared.plan.NodeState.{NodeState}
use Rattle.mk_plan.specs.declared.plan.NodeState.TheVariants.{Open, Settled, Failed}
use Rattle.mk_graph.specs.declared.Made.{Made}
use Rattle.mk_graph.specs.declared.mode.Mode.{Mode}
use Rattle.mk_scopes.specs.Scopes.{Variables}
use Rattle.mk_trace.specs.Builds.{Moment, Prints, IsCommandOf, command_of, moment, or_next}
use Rattle.mk_trace.specs.Calls.{Called, EndItem, NoItem, StartItem}
use Rattle.mk_trace.specs.Growth.{HasTasks}
use Rattle.mk_trace.specs.Items.{starts, waits, ends}
use Rattle.mk_trace.specs.Runs as run
use Rattle.mk_trace.specs.declared.event.Event.{Event}
use Rattle.mk_trace.specs.declared.event.Event.TheVariants as event
use Rattle.mk_trace.specs.declared.result.Failure.{Failure}
use Rattle.mk_trace.specs.declared.result.Failure.TheVariants.{JobFailed}
use Rattle.mk_world.specs.Calls.{TakenOut}
use Rattle.mk_world.specs.Sinks.{Gains, GainsPart}
use Rattle.mk_world.specs.Talks.{Meaning}
use Rattle.mk_world.specs.declared.command.Cmd.{Cmd}
use Rattle.mk_world.specs.declared.command.TaskLine.{TaskLine}
use Rattle.mk_world.specs.declared.history.History.{History}
use Rattle.mk_world.specs.declared.step.Ended.{Ended}
use Rattle.mk_dry.specs.Items.{does, shows, announces, dry_line, dry_tasks, is_started, shown_text}
use Rattle.mk_dry.specs.Parts.{AreLinesOf, IsLineOf, Leads, StandsIn}
use Rattle.mk_dry.specs.Progress.{HaltedIn, InScene, IsAnnounced, IsAt, IsBehind, IsEnded, IsOpenScene, IsPoised, IsRunning, Scene, SoFar}
use Rattle.mk_dry.specs.Runs.{Dry, rules_of, with_shown, dry_after}
use Rattle.mk_dry.proofs.GrowLemmas.{GoesOn, halted, so_far-called, so_far-nothing, so_far-own, so_far-weaken, unprinted}

-- lines as the rules of runs see them

-- the line that the rules see in the place of one
pub dry-line : (tasks : run.Tasks) (n number : ℕ) (lines : List TaskLine) (one : TaskLine)
    → tasks n ≡ lines → run.line_of lines number ≡ Some one
    → run.line_of (dry_tasks tasks n) number ≡ Some (dry_line one)
dry-line tasks n number lines one task line =
    ap (λ l. run.line_of (map dry_line l) number) task
    ∙ (slice_get-map dry_line lines (number - 1) ∙ rw line refl)

dry-length : (lines : List TaskLine) → length (map dry_line lines) ≡ length lines
dry-length [] = refl
dry-length (one ∷ lines) = ap suc (dry-length lines)

-- it has a child where the line is started
child-started : (always : Bool) (text : List ℕ)
    → not (run.is_empty (if always then text else [])) ≡ (always && not (run.is_empty text))
child-started true text = refl
child-started false text = refl

pub has-child : (tasks : run.Tasks) (n number : ℕ) (lines : List TaskLine) (one : TaskLine)
    → tasks n ≡ lines → run.line_of lines number ≡ Some one
    → run.has_child (run.line_of (dry_tasks tasks n) number) ≡ is_started one
has-child tasks n number lines one task line =
    ap run.has_child (dry-line tasks n number lines one task line) ∙ child-started one.always one.text

-- and it fails as the line does
fails-as : (tasks : run.Tasks) (n number status : ℕ) (lines : List TaskLine) (one : TaskLine)
    → tasks n ≡ lines → run.line_of lines number ≡ Some one
    → run.fails (run.line_of (dry_tasks tasks n) number) status ≡ run.fails (Some one) status
fails-as tasks n number status lines one task line =
    ap (λ l. run.fails l status) (dry-line tasks n number lines one task line)

not-first : (number : ℕ) → 0 < number → number + 1 ≡ 1 → ⊥
not-first number some first = omega arith

later : (number : ℕ) → 0 < number → (number + 1 == 1) ≡ false
later number some =
    let other : number + 1 ≡ 1 → ⊥ = not-first number some in grind (arith, nat_tests, common_steps)

-- a dry run with this run
abbrev with_run : Dry → run.State → Option Failure → Dry
with_run dry state failure = record dry { run = state; failure = failure }

-- The end of a line, by whether it fails: in a dry run of which nothing else is due.
record IsEnding (scene : Scene) (dry : Dry) : Type 0 where
  seen_is : dry.seen ≡ []
  work_is : dry.work ≡ scene.work
  failed : dry.failure ≡ scene.failure
  free : dry.announced ≡ None

-- a line does not fail, and another one is next
next-poised : (scene : Scene) (number status : ℕ) (tasks : run.Tasks) (dry : Dry) (state : run.State)
    → IsOpenScene scene → tasks scene.node ≡ scene.lines → state.nodes ≡ scene.opened → 0 < number
    → run.fails (run.line_of (dry_tasks tasks scene.node) number) status ≡ false
    → number < length scene.lines → IsEnding scene dry
    → IsPoised scene (number + 1) tasks
    (with_run dry (run.end_line (rules_of scene.start) (dry_tasks tasks) state scene.node number status)
    dry.failure)
next-poised scene number status tasks dry state open_scene task are some fine more is =
    let long : length (dry_tasks tasks scene.node) ≡ length scene.lines =
    ap (λ l. length (map dry_line l)) task ∙ dry-length scene.lines in
    let last : nat_le (length scene.lines) number ≡ false = grind (arith, nat_tests, common_steps) in
    let last_now : nat_le (length (dry_tasks tasks scene.node)) number ≡ false = rw long last in
    let going : is_stopped (rules_of scene.start) state.nodes ≡ false = rw are open_scene.unstopped in
    let now : run.end_line (rules_of scene.start) (dry_tasks tasks) state scene.node number status
    ≡ record { nodes = state.nodes; started = state.started; due = run.line scene.node (number + 1) } =
    rw (fine, last_now, going) refl in
    subst (λ r. IsPoised scene (number + 1) tasks (with_run dry r dry.failure)) (sym now)
    (record {
      nodes_are = ap (λ l. set l scene.node Open) are ∙ open_scene.again;
      may = (refl, refl);
      reason = λ first. absurd (not-first number some first);
      work_is = rw (later number some) is.work_is;
      failed = is.failed;
      free = is.free;
    })

-- a line does not fail, and is the last one
next-settled : (scene : Scene) (number status : ℕ) (tasks : run.Tasks) (dry : Dry) (state : run.State)
    → tasks scene.node ≡ scene.lines → state.nodes ≡ scene.opened
    → run.fails (run.line_of (dry_tasks tasks scene.node) number) status ≡ false
    → length scene.lines ≤ number → IsEnding scene dry
    → IsAt (set scene.opened scene.node Settled) [] scene.work scene.failure tasks
    (with_run dry (run.end_line (rules_of scene.start) (dry_tasks tasks) state scene.node number status)
    dry.failure)
next-settled scene number status tasks dry state task are fine none is =
    let long : length (dry_tasks tasks scene.node) ≡ length scene.lines =
    ap (λ l. length (map dry_line l)) task ∙ dry-length scene.lines in
    let last : nat_le (length scene.lines) number ≡ true = grind (arith, nat_tests, common_steps) in
    let last_now : nat_le (length (dry_tasks tasks scene.node)) number ≡ true = rw long last in
    let now : run.end_line (rules_of scene.start) (dry_tasks tasks) state scene.node number status
    ≡ run.settle state scene.node Settled = rw (fine, last_now) refl in
    subst (λ r. IsAt (set scene.opened scene.node Settled) [] scene.work scene.failure tasks
    (with_run dry r dry.failure)) (sym now)
    (record {
      nodes_are = ap (λ l. set l scene.node Settled) are;
      due_is = refl;
      seen_is = is.seen_is;
      work_is = is.work_is;
      failed = is.failed;
      free = is.free;
    })

-- behind a line that does not fail
next-behind : (scene : Scene) (number status : ℕ) (tasks : run.Tasks) (dry : Dry) (state : run.State)
    → IsOpenScene scene → tasks scene.node ≡ scene.lines → state.nodes ≡ scene.opened → 0 < number
    → run.fails (run.line_of (dry_tasks tasks scene.node) number) status ≡ false → IsEnding scene dry
    → IsBehind scene number tasks
    (with_run dry (run.end_line (rules_of scene.start) (dry_tasks tasks) state scene.node number status)
    dry.failure)
next-behind scene number status tasks dry state open_scene task are some fine is = (
  (λ more. next-poised scene number status tasks dry state open_scene task are some fine more is),
  (λ none. next-settled scene number status tasks dry state task are fine none is),
)

-- a line that is not started was shown
go_on-shows : (scene : Scene) (number : ℕ) (one : TaskLine) (tasks : run.Tasks) (dry : Dry)
    → HasTasks tasks scene.known → IsOpenScene scene → 0 < number
    → run.line_of scene.lines number ≡ Some one → is_started one ≡ false
    → IsPoised scene number tasks dry
    → GoesOn scene.start tasks dry (shows scene.node number ∷ []) (IsBehind scene number)
go_on-shows scene number one tasks dry has open_scene some line unstarted is =
    let n = scene.node in
    let task : tasks n ≡ scene.lines = has n scene.lines open_scene.task in
    let childless : run.has_child (run.line_of (dry_tasks tasks n) number) ≡ false =
    has-child tasks n number scene.lines one task line ∙ unstarted in
    let state = run.start_line (dry_tasks tasks) dry.run n number in
    let closes : state.due ≡ run.close n number = rw childless refl in
    let fine : run.fails (run.line_of (dry_tasks tasks n) number) 0 ≡ false = refl in
    record {
      makes = (
        (is.may, (subst (run.MayEnd state n number 0) (sym closes) (refl, refl, refl), tt)),
        record {
          free = is.free;
          reason = λ first. subst (IsBegun dry.work n dry.seen) (sym task) (is.reason first);
          one = one;
          line = rw task line;
          is = unstarted;
        },
        tt,
      );
      stands = next-behind scene number 0 tasks
          (record {
            run = state;
            seen = [];
            work = with_shown dry.work n number;
            ticket = dry.ticket;
            failure = dry.failure;
            announced = dry.announced;
          })
          state open_scene task is.nodes_are some fine
          (record { seen_is = refl; work_is = is.work_is; failed = is.failed; free = is.free });
    }

-- a line that is started was shown
go_on-announces : (scene : Scene) (number : ℕ) (one : TaskLine) (tasks : run.Tasks) (dry : Dry)
    → HasTasks tasks scene.known → IsOpenScene scene
    → run.line_of scene.lines number ≡ Some one → is_started one ≡ true
    → IsPoised scene number tasks dry
    → GoesOn scene.start tasks dry (announces scene.node number ∷ []) (IsAnnounced scene number)
go_on-announces scene number one tasks dry has open_scene line started is =
    let n = scene.node in
    let task : tasks n ≡ scene.lines = has n scene.lines open_scene.task in
    record {
      makes = (
        tt,
        (
          record {
            free = is.free;
            reason = λ first. subst (IsBegun dry.work n dry.seen) (sym task) (is.reason first);
            one = one;
            line = rw task line;
            is = started;
          },
          is.may,
        ),
        tt,
      );
      stands = record {
        nodes_are = is.nodes_are;
        may = is.may;
        seen_is = refl;
        work_is = is.work_is;
        failed = is.failed;
        announced = refl;
      };
    }

some-text : (always empty : Bool) → (always && not empty) ≡ true → empty ≡ false
some-text true false is = refl
some-text true true is = cc
some-text false empty is = cc

-- its child was started
go_on-starts : (scene : Scene) (number ticket owner : ℕ) (one : TaskLine) (cmd : Cmd)
    (tasks : run.Tasks) (dry : Dry) → HasTasks tasks scene.known → IsOpenScene scene
    → run.line_of scene.lines number ≡ Some one → is_started one ≡ true
    → cmd ≡ command_of scene.work one → owner ≡ 0 → IsAnnounced scene number tasks dry
    → GoesOn scene.start tasks dry (does (starts scene.node number ticket owner cmd) ∷ [])
    (IsRunning scene number ticket run.anything)
go_on-starts scene number ticket owner one cmd tasks dry has open_scene line started command none is =
    let n = scene.node in
    let task : tasks n ≡ scene.lines = has n scene.lines open_scene.task in
    let child : run.has_child (run.line_of (dry_tasks tasks n) number) ≡ true =
    has-child tasks n number scene.lines one task line ∙ started in
    let line_is : run.line_of (tasks n) number ≡ Some one = rw task line in
    record {
      makes = (
        (is.may, tt),
        (
          is.announced,
          subst (λ l. IsCommandOf dry.work l cmd) (sym line_is)
              (some-text one.always (run.is_empty one.text) started, rw is.work_is command),
          none,
        ),
        tt,
      );
      stands = record {
        nodes_are = is.nodes_are;
        started = rw (same n) refl;
        due_is = rw child refl;
        seen_is = is.seen_is;
        work_is = is.work_is;
        ticket_is = refl;
        failed = is.failed;
        free = refl;
      };
    }
  where
    same : (n : ℕ) → (n == n) ≡ true
    same n = grind (arith, nat_tests, common_steps)

-- one job is open, so no node may be decided
none-may : (rules : Rules) (nodes : List NodeState) → rules.jobs ≡ 1 → open_jobs nodes ≡ 1
    → may_decide rules nodes ≡ None
none-may rules nodes one is =
    rw (one, is) (by (not (is_stopped rules nodes)) (first_ready nodes 0 rules.before))
  where
    by : (b : Bool) (first : Option ℕ) → (if b && false then first else None) ≡ None
    by true first = refl
    by false first = refl

-- make waits for it
go_on-waits : (scene : Scene) (number ticket : ℕ) (tasks : run.Tasks) (dry : Dry)
    → IsOpenScene scene → IsRunning scene number ticket run.anything tasks dry
    → GoesOn scene.start tasks dry (does waits ∷ []) (IsRunning scene number ticket run.child)
go_on-waits scene number ticket tasks dry open_scene is = record {
  makes = (
    (
      (
        is.due_is,
        rw is.nodes_are (none-may (rules_of scene.start) scene.opened refl open_scene.one_open),
        rw (is.nodes_are, open_scene.one_open) (omega arith),
      ),
      tt,
    ),
    is.free,
    tt,
  );
  stands = record {
    nodes_are = is.nodes_are;
    started = is.started;
    due_is = refl;
    seen_is = is.seen_is;
    work_is = is.work_is;
    ticket_is = is.ticket_is;
    failed = is.failed;
    free = is.free;
  };
}

-- it was taken in
go_on-ends : (scene : Scene) (number ticket owner : ℕ) (one : TaskLine) (ended : Ended)
    (tasks : run.Tasks) (dry : Dry) (fails : Bool) → HasTasks tasks scene.known → IsOpenScene scene
    → 0 < number → run.line_of scene.lines number ≡ Some one → ended.ticket.0 ≡ ticket
    → run.fails (Some one) ended.status ≡ fails
    → IsRunning scene number ticket run.child tasks dry
    → GoesOn scene.start tasks dry (does (ends scene.node number owner ended) ∷ [])
    (IsEnded scene number ended.status fails)
go_on-ends scene number ticket owner one ended tasks dry fails has open_scene some line same fails_is is =
    let n = scene.node in
    let may : run.MayEnd dry.run n number ended.status dry.run.due =
    subst (run.MayEnd dry.run n number ended.status) (sym is.due_is)
    (rw is.nodes_are open_scene.open_now, is.started) in
    record {
      makes = ((may, tt), is.ticket_is ∙ sym same, tt);
      stands = by fails
          (fails-as tasks n number ended.status scene.lines one task line ∙ fails_is);
    }
  where
    task : tasks scene.node ≡ scene.lines
    task = has scene.node scene.lines open_scene.task

    by : (fails : Bool)
        → run.fails (run.line_of (dry_tasks tasks scene.node) number) ended.status ≡ fails
        → IsEnded scene number ended.status fails tasks
        (dry_after (rules_of scene.start) tasks dry (does (ends scene.node number owner ended)))
    by true now =
        let settles : run.end_line (rules_of scene.start) (dry_tasks tasks) dry.run scene.node number
        ended.status ≡ run.settle dry.run scene.node Failed = rw now refl in
        record {
          nodes_are = ap (λ (r : run.State). r.nodes) settles
              ∙ ap (λ l. set l scene.node Failed) is.nodes_are;
          due_is = ap (λ (r : run.State). r.due) settles;
          seen_is = is.seen_is;
          work_is = is.work_is;
          failed = rw now
              (ap (λ f. or_next f (Some (JobFailed scene.node number ended.status))) is.failed);
          free = is.free;
        }
    by false now =
        let failure_is : (dry_after (rules_of scene.start) tasks dry
        (does (ends scene.node number owner ended))).failure ≡ dry.failure = rw now refl in
        subst (λ f. IsBehind scene number tasks
        (with_run dry (run.end_line (rules_of scene.start) (dry_tasks tasks) dry.run scene.node number
        ended.status) f)) (sym failure_is)
        (next-behind scene number ended.status tasks dry dry.run open_scene task is.nodes_are some now
        (record {
          seen_is = is.seen_is;
          work_is = is.work_is;
          failed = is.failed;
          free = is.free;
        }))

-- a dry run so far, in a scene

-- what is printed of a line that is shown
text-is : (tasks : run.Tasks) (n number : ℕ) (lines : List TaskLine) (one : TaskLine)
    → tasks n ≡ lines → run.line_of lines number ≡ Some one
    → shown_text (run.line_of (tasks n) number) ++ [] ≡ shown_text (Some one)
text-is tasks n number lines one task line =
    let line_is : run.line_of (tasks n) number ≡ Some one = rw task line in
    append-nil (shown_text (run.line_of (tasks n) number)) ∙ ap shown_text line_is

pub in-shows : (meaning : Meaning) (scene : Scene) (number status : ℕ) (one : TaskLine)
    (history : Option History) (out next : Option (List ℕ)) (events now : List Event)
    → IsOpenScene scene → 0 < number → run.line_of scene.lines number ≡ Some one
    → is_started one ≡ false → status ≡ 0
    → InScene meaning scene (IsPoised scene number) history out events
    → now ≡ events ++ event.Shown scene.node number ∷ []
    → Gains out next (shown_text (Some one))
    → InScene meaning scene (IsEnded scene number status (run.fails (Some one) status)) history next now
in-shows meaning scene number status one history out next events now open_scene some line unstarted fine
    so told gains =
    rw fine (so_far-own meaning scene.start false scene.first (moment history out events)
    (moment history next now) scene.known scene.known (IsPoised scene number) (IsBehind scene number)
    (shows scene.node number ∷ []) so refl (λ stand. (tt, tt)) refl told (λ tasks has. has)
    (λ tasks dry has is. go_on-shows scene number one tasks dry has open_scene some line unstarted is)
    (λ tasks dry has is.
    subst (Gains out next) (sym (text-is tasks scene.node number scene.lines one
    (has scene.node scene.lines open_scene.task) line)) gains))

pub in-announces : (meaning : Meaning) (scene : Scene) (number : ℕ) (one : TaskLine)
    (history : Option History) (out next : Option (List ℕ)) (events now : List Event)
    → IsOpenScene scene → run.line_of scene.lines number ≡ Some one → is_started one ≡ true
    → InScene meaning scene (IsPoised scene number) history out events
    → now ≡ events ++ event.Shown scene.node number ∷ []
    → Gains out next (shown_text (Some one))
    → InScene meaning scene (IsAnnounced scene number) history next now
in-announces meaning scene number one history out next events now open_scene line started so told gains =
    so_far-own meaning scene.start false scene.first (moment history out events)
    (moment history next now) scene.known scene.known (IsPoised scene number) (IsAnnounced scene number)
    (announces scene.node number ∷ []) so refl (λ stand. tt) refl told (λ tasks has. has)
    (λ tasks dry has is. go_on-announces scene number one tasks dry has open_scene line started is)
    (λ tasks dry has is.
    subst (Gains out next) (sym (text-is tasks scene.node number scene.lines one
    (has scene.node scene.lines open_scene.task) line)) gains)

-- the text of a line was not written whole
pub in-cut : (meaning : Meaning) (scene : Scene) (number : ℕ) (one : TaskLine)
    (history : Option History) (out next : Option (List ℕ)) (events now : List Event)
    → IsOpenScene scene → 0 < number → run.line_of scene.lines number ≡ Some one
    → InScene meaning scene (IsPoised scene number) history out events
    → now ≡ events ++ event.Shown scene.node number ∷ []
    → GainsPart out next (shown_text (Some one))
    → HaltedIn meaning scene halts.Sink history next now
in-cut meaning scene number one history out next events now open_scene some line so told gains = (
  scene.known,
  by (is_started one) refl,
)
  where
    cut : (tasks : run.Tasks) → HasTasks tasks scene.known
        → GainsPart out next (shown_text (run.line_of (tasks scene.node) number) ++ [])
    cut tasks has =
        subst (GainsPart out next) (sym (text-is tasks scene.node number scene.lines one
        (has scene.node scene.lines open_scene.task) line)) gains

    by : (started : Bool) → is_started one ≡ started
        → SoFar meaning scene.start true scene.first (moment history next now) scene.known
        (λ tasks dry. Unit {0})
    by true is =
        so_far-weaken meaning scene.start true scene.first (moment history next now) scene.known
        scene.known (IsAnnounced scene number) (λ tasks dry. Unit {0})
        (so_far-own meaning scene.start true scene.first (moment history out events)
        (moment history next now) scene.known scene.known (IsPoised scene number)
        (IsAnnounced scene number) (announces scene.node number ∷ []) so refl (λ stand. tt) refl told
        (λ tasks has. has)
        (λ tasks dry has at. go_on-announces scene number one tasks dry has open_scene line is at)
        (λ tasks dry has at. cut tasks has)) (λ tasks has. has) (λ tasks dry has at. tt)
    by false is =
        so_far-weaken meaning scene.start true scene.first (moment history next now) scene.known
        scene.known (IsBehind scene number) (λ tasks dry. Unit {0})
        (so_far-own meaning scene.start true scene.first (moment history out events)
        (moment history next now) scene.known scene.known (IsPoised scene number)
        (IsBehind scene number) (shows scene.node number ∷ []) so refl (λ stand. (tt, tt)) refl told
        (λ tasks has. has)
        (λ tasks dry has at. go_on-shows scene number one tasks dry has open_scene some line is at)
        (λ tasks dry has at. cut tasks has)) (λ tasks has. has) (λ tasks dry has at. tt)

pub in-starts : (meaning : Meaning) (scene : Scene) (number ticket owner : ℕ) (one : TaskLine) (cmd : Cmd)
    (history then_history : Option History) (out : Option (List ℕ)) (events now : List Event)
    → IsOpenScene scene → run.line_of scene.lines number ≡ Some one → is_started one ≡ true
    → cmd ≡ command_of scene.work one → owner ≡ 0
    → InScene meaning scene (IsAnnounced scene number) history out events
    → Called meaning history then_history (StartItem scene.node number ticket owner cmd)
    → now ≡ events ++ event.Start scene.node number ∷ []
    → InScene meaning scene (IsRunning scene number ticket run.anything) then_history out now
in-starts meaning scene number ticket owner one cmd history then_history out events now open_scene line
    started command none so call told =
    so_far-called meaning scene.start false scene.first (moment history out events)
    (moment then_history out now) scene.known scene.known (IsAnnounced scene number)
    (IsRunning scene number ticket run.anything) (StartItem scene.node number ticket owner cmd)
    (does (starts scene.node number ticket owner cmd) ∷ []) so call call.is_own told (λ tasks has. has)
    (λ tasks dry has is. go_on-starts scene number ticket owner one cmd tasks dry has open_scene line
    started command none is)
    (λ tasks dry has is. unprinted (moment history out events) (moment then_history out now) [] refl refl)

pub in-waits : (meaning : Meaning) (scene : Scene) (number ticket : ℕ) (history : Option History)
    (out : Option (List ℕ)) (events now : List Event) → IsOpenScene scene
    → InScene meaning scene (IsRunning scene number ticket run.anything) history out events
    → now ≡ events ++ event.Wait ∷ []
    → InScene meaning scene (IsRunning scene number ticket run.child) history out now
in-waits meaning scene number ticket history out events now open_scene so told =
    so_far-own meaning scene.start false scene.first (moment history out events) (moment history out now)
    scene.known scene.known (IsRunning scene number ticket run.anything)
    (IsRunning scene number ticket run.child) (does waits ∷ []) so refl (λ stand. (tt, tt)) refl told
    (λ tasks has. has)
    (λ tasks dry has is. go_on-waits scene number ticket tasks dry open_scene is)
    (λ tasks dry has is. unprinted (moment history out events) (moment history out now) [] refl refl)

-- the child was taken in, and what it printed was written, whole or in part
pub in-ends : (meaning : Meaning) (scene : Scene) (cut : Bool) (number ticket : ℕ) (one : TaskLine)
    (ended : Ended) (history then_history : Option History) (out next : Option (List ℕ))
    (events now : List Event)
    → IsOpenScene scene → 0 < number → run.line_of scene.lines number ≡ Some one
    → ended.ticket.0 ≡ ticket
    → InScene meaning scene (IsRunning scene number ticket run.child) history out events
    → Called meaning history then_history (EndItem scene.node number ended)
    → now ≡ events ++ event.End scene.node number ended.status ∷ []
    → Prints cut (moment history out events) (moment then_history next now) ended.output
    → SoFar meaning scene.start cut scene.first (moment then_history next now) scene.known
    (IsEnded scene number ended.status (run.fails (Some one) ended.status))
in-ends meaning scene cut number ticket one ended history then_history out next events now open_scene some
    line same so call told prints =
    so_far-called meaning scene.start cut scene.first (moment history out events)
    (moment then_history next now) scene.known scene.known (IsRunning scene number ticket run.child)
    (IsEnded scene number ended.status (run.fails (Some one) ended.status))
    (EndItem scene.node number ended)
    (does (ends scene.node number call.is_own.0 ended) ∷ []) so call call.is_own.1 told
    (λ tasks has. has)
    (λ tasks dry has is. go_on-ends scene number ticket call.is_own.0 one ended tasks dry
    (run.fails (Some one) ended.status) has open_scene some line same refl is)
    (λ tasks dry has is.
    subst (Prints cut (moment history out events) (moment then_history next now))
    (sym (append-nil ended.output)) prints)

-- a wait was refused
pub in-unwaited : (meaning : Meaning) (scene : Scene) (halt : Halt) (number ticket : ℕ)
    (history then_history : Option History) (out : Option (List ℕ)) (events now : List Event)
    → IsOpenScene scene
    → InScene meaning scene (IsRunning scene number ticket run.anything) history out events
    → Called meaning history then_history NoItem
    → (now ≡ events) ⊎ (now ≡ events ++ event.Wait ∷ [])
    → HaltedIn meaning scene halt then_history out now
in-unwaited meaning scene halt number ticket history then_history out events now open_scene so call
    (inl told) =
    halted meaning scene.start halt scene.first (moment then_history out now) scene.known _
    (so_far-nothing meaning scene.start scene.first (moment history out events)
    (moment then_history out now) scene.known _ so call told refl)
in-unwaited meaning scene halt number ticket history then_history out events now open_scene so call
    (inr told) =
    halted meaning scene.start halt scene.first (moment then_history out now) scene.known _
    (so_far-nothing meaning scene.start scene.first (moment history out (events ++ event.Wait ∷ []))
    (moment then_history out now) scene.known _
    (in-waits meaning scene number ticket history out events (events ++ event.Wait ∷ []) open_scene so
    refl) call told refl)

-- the line of a node was started
pub line-started : (meaning : Meaning) (scene : Scene) (place : Place) (one : TaskLine) (cmd : Cmd)
    (cwd : List ℕ) (history then_history : Option History) (out : Option (List ℕ))
    (events now : List Event) (made : Made) → IsLineOf made place one scene
    → is_started one ≡ true → cwd ≡ made.scopes.cwd
    → cmd ≡ record { text = one.text; cwd = cwd; exports = made.mode.exports }
    → InScene meaning scene (IsAnnounced scene place.number) history out events
    → Called meaning history then_history (StartItem place.node place.number 1 0 cmd)
    → now ≡ events ++ event.Start place.node place.number ∷ []
    → InScene meaning scene (IsRunning scene place.number 1 run.anything) then_history out now
line-started meaning scene place one cmd cwd history then_history out events now made at started
    directory command so call told =
    let number = place.number in
    let here : cwd ≡ scene.work.variables.cwd = directory ∙ ap (λ (v : Variables). v.cwd) (sym at.variables_are) in
    in-starts meaning scene number 1 0 one cmd history then_history out events now at.is_open at.line_is
    started (command ∙ ap (λ (d : List ℕ). record { text = one.text; cwd = d; exports = made.mode.exports }) here
    ∙ ap (λ (m : Mode). record { text = one.text; cwd = scene.work.variables.cwd; exports = m.exports })
    (sym at.mode_is)) refl so
    (subst (λ k. Called meaning history then_history (StartItem k number 1 0 cmd)) (sym at.node_is) call)
    (told ∙ ap (λ k. events ++ event.Start k number ∷ []) (sym at.node_is))

-- its child was taken in, and what it printed was written, whole or in part
pub line-ended : (meaning : Meaning) (scene : Scene) (cut : Bool) (place : Place) (one : TaskLine)
    (ended : Ended) (history then_history : Option History) (out next : Option (List ℕ))
    (events now : List Event) (made : Made) → IsLineOf made place one scene
    → ended.ticket.0 ≡ 1
    → InScene meaning scene (IsRunning scene place.number 1 run.anything) history out events
    → Called meaning history then_history (EndItem place.node place.number ended)
    → now ≡ events ++ event.Wait ∷ event.End place.node place.number ended.status ∷ []
    → Prints cut (moment history out (events ++ event.Wait ∷ [])) (moment then_history next now)
    ended.output
    → SoFar meaning scene.start cut scene.first (moment then_history next now) scene.known
    (IsEnded scene place.number ended.status (run.fails (Some one) ended.status))
line-ended meaning scene cut place one ended history then_history out next events now made at same so
    call told prints =
    let number = place.number in
    let waited = events ++ event.Wait ∷ [] in
    in-ends meaning scene cut number 1 one ended history then_history out next waited now at.is_open
    at.counted at.line_is same (in-waits meaning scene number 1 history out events waited at.is_open so refl)
    (subst (λ k. Called meaning history then_history (EndItem k number ended)) (sym at.node_is) call)
    (told ∙ (sym (append_assoc events (event.Wait ∷ []) (event.End place.node number ended.status ∷ []))
    ∙ ap (λ k. waited ++ event.End k number ended.status ∷ []) (sym at.node_is)))
    prints

-- one ticket was taken out of one
pub taken-one : (ticket one : ℕ) (old new : List ℕ) → old ≡ one ∷ [] → TakenOut ticket old new
    → (ticket ≡ one) × (new ≡ [])
taken-one ticket one old new is taken =
    let out = by taken.front (sym is ∙ taken.was) in (out.0, taken.now ∙ out.1)
  where
    by : (front : List ℕ) → one ∷ [] ≡ front ++ ticket ∷ taken.back
        → (ticket ≡ one) × (front ++ taken.back ≡ [])
    by [] same = (cc, cc)
    by (first ∷ []) same = cc
    by (first ∷ (second ∷ more)) same = cc

-- behind so many lines, the next one is poised
pub line-next : (meaning : Meaning) (scene : Scene) (done : ℕ) (history : Option History)
    (out : Option (List ℕ)) (events : List Event) → done < length scene.lines
    → InScene meaning scene (IsBehind scene done) history out events
    → InScene meaning scene (IsPoised scene (done + 1)) history out events
line-next meaning scene done history out events more so =
    so_far-weaken meaning scene.start false scene.first (moment history out events) scene.known
    scene.known (IsBehind scene done) (IsPoised scene (done + 1)) so (λ tasks has. has)
    (λ tasks dry has is. is.0 more)

-- the line behind so many
pub line-at : (lines given : List TaskLine) (done : ℕ) (one : TaskLine) → lines ≡ given
    → slice_get given done ≡ Some one → run.line_of lines (done + 1) ≡ Some one
line-at lines given done one same is =
    ap (λ l. slice_get l (done + 1 - 1)) same ∙ (ap (slice_get given) (back done) ∙ is)
  where
    back : (n : ℕ) → n + 1 - 1 ≡ n
    back n = omega arith

-- the next line of a node
pub line-of : (meaning : Meaning) (made : Made) (node : ℕ) (lines : List TaskLine)
    (failure : Option Failure) (done : ℕ) (line : TaskLine) (scene : Scene) (now : Moment)
    → AreLinesOf made node lines failure scene → done < length lines → slice_get lines done ≡ Some line
    → StandsIn meaning now (IsBehind scene done) scene
    → IsLineOf made (record { node = node; number = done + 1 }) line scene
    × StandsIn meaning now (IsPoised scene (done + 1)) scene
line-of meaning made node lines failure done line scene now at more is so = (
  record {
    is_open = at.is_open;
    node_is = at.node_is;
    variables_are = at.variables_are;
    mode_is = at.mode_is;
    counted = omega arith;
    line_is = line-at scene.lines lines done line at.lines_are is;
  },
  line-next meaning scene done now.history now.out now.events (rw at.lines_are more) so,
)

-- a part that went well, or was ended
pub went-well : {S A : Type 0} {Before : S → Type 0} {Behind : A → S → Type 0} {Ended : Halt → S → Type 0}
    {result : Result A Halt} (given : A) → result ≡ Ok given
    → ((scene : S) → Before scene → Behind given scene) → Leads Before Behind Ended result
went-well given is goes = rw is (record { goes = goes; ends = tt })

pub was-ended : {S A : Type 0} {Before : S → Type 0} {Behind : A → S → Type 0} {Ended : Halt → S → Type 0}
    {result : Result A Halt} (halt : Halt) → result ≡ Err halt
    → ((scene : S) → Before scene → Ended halt scene) → Leads Before Behind Ended result
was-ended halt is ended = rw is (record { goes = tt; ends = ended })

-- what a part leads to, where what was so before it follows from something else, and something else follows
-- from what it leads to
pub leads-to : {S R A : Type 0} {Before : S → Type 0} {First : R → Type 0} {Behind : A → S → Type 0}
    {Last : A → R → Type 0} {Ended : Halt → S → Type 0} {Stopped : Halt → R → Type 0} (result : Result A Halt)
    → ((one : R) → First one → (scene : S) × Before scene × ((given : A) → Behind given scene → Last given one)
    × ((halt : Halt) → Ended halt scene → Stopped halt one))
    → Leads Before Behind Ended result → Leads First Last Stopped result
leads-to (Ok given) before leads = record {
  goes = λ one is. let at = before one is in at.2 given (leads.goes at.0 at.1);
  ends = tt;
}
leads-to (Err halt) before leads = record {
  goes = tt;
  ends = λ one is. let at = before one is in at.3 halt (leads.ends at.0 at.1);
}
