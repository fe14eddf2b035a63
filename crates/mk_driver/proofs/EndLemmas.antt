-- How the end of a line leaves a build.
use Rattle.std.proofs.Common.{◌≡◌, ◌≢◌, ◌∙◌, ◌==◌, ℕ, zero, suc, ◌+◌, ◌<◌, ◌^◌, ◌||◌, nat_le, List, [], ◌∷◌, ◌++◌, length, get_or, set, Option, Some, None, Bool, true, false, if◌then◌else◌}
use Rattle.std.proofs.Common.{refl, sym, ap, subst, arith}
use Rattle.std.proofs.lemmas.Grind.{common_steps}
use Rattle.std.proofs.lemmas.Bool.Decides.{nat_tests}
use Rattle.mk_plan.specs.Deciding.{is_stopped}
use Rattle.mk_plan.specs.Plans.{node_at}
use Rattle.mk_plan.specs.declared.plan.NodeState.{NodeState}
use Rattle.mk_plan.specs.declared.plan.NodeState.TheVariants.{Undecided, Open, Settled, Failed}
use Rattle.mk_world.specs.declared.command.TaskLine.{TaskLine}
use Rattle.mk_world.specs.declared.step.Ended.{Ended}
use Rattle.mk_decision.specs.Decisions.{Work, IsBegun}
use Rattle.mk_decision.specs.Newest.{raised}
use Rattle.mk_trace.specs.Builds.{Build, Duty, Own, free, remove, date, close, rules_of, or_next, opening, closing, behind_end, is_removed, build_after, with_collected, IsWhole, told_last, when_told}
use Rattle.mk_trace.specs.Collected.{has_meta, with_end}
use Rattle.mk_trace.specs.Items.{passes, ends, changes, looks, gone, whole, cut_whole}
use Rattle.mk_trace.specs.declared.collected.Collected.{Collected}
use Rattle.mk_export.specs.Lists.{AreExports}
use Rattle.mk_meta.specs.Texts.{meta_text}
use Rattle.mk_meta.specs.TrueHistory.{meta_path}
use Rattle.mk_trace.specs.Collected.{IsCountable, meta_of}
use Rattle.mk_world.specs.Looks.{Seen, dated}
use Rattle.mk_world.specs.Sinks.{Begins}
use Rattle.mk_world.specs.declared.time.When.{When}
use Rattle.mk_world.specs.declared.time.When.TheVariants.{Missing}
use Rattle.mk_driver.specs.Progress.{AreFreshBut, AreRunning, IsRunning, IsAt, IsClosing, IsGoing, IsPoised, IsBehind, IsFailing, IsEnding, Stands}
use Rattle.mk_trace.specs.Growth.{Known, HasTasks}
use Rattle.mk_trace.specs.Runs as run
use Rattle.mk_trace.specs.Steps.{GoesOn}
use Rattle.mk_driver.specs.declared.job.Job.{Job}
use Rattle.mk_trace.specs.declared.result.Failure.{Failure}
use Rattle.mk_trace.specs.declared.result.Failure.TheVariants.{JobFailed}
use Rattle.mk_sched.proofs.DecideLemmas.{open_within}
use Rattle.mk_driver.proofs.NodeLemmas.{fresh-but, fresh-own, fresh-set, get-open, open-other}
use Rattle.mk_driver.proofs.StepLemmas.{running-take, running-apart, other_node, same_node}
use Rattle.mk_driver.specs.Jobs.{AreApart}

-- a build with this run, and this to do next
abbrev with_run : Build → run.State → Duty → Build
with_run build state duty = record build { run = state; duty = duty }

set-open : (nodes : List NodeState) (n : ℕ) → get_or nodes n Undecided ≡ Open
    → set nodes n Open ≡ nodes
set-open [] n is = refl
set-open (state ∷ nodes) zero is = ap (λ s. s ∷ nodes) (sym is)
set-open (state ∷ nodes) (suc n) is = ap (λ l. state ∷ l) (set-open nodes n is)

some_line : (number : ℕ) → 0 < number → number + 1 ≡ 1 → ⊥
some_line number some first = omega arith

-- only before the first line of a node a job was just opened
opening-later : (work : Work) (n number : ℕ) → 0 < number → opening work n (number + 1) ≡ free
opening-later work n number some =
    let later : (number + 1 == 1) ≡ false = other_node 1 (number + 1) (some_line number some) in
    rw later refl

-- behind the end of a line that does not fail and does not stop the job
next-poised : (work : Work) (known : Known) (nodes : List NodeState) (jobs : List Job)
    (failure : Option Failure) (n : ℕ) (lines : List TaskLine) (collected : Collected)
    (number status : ℕ) (tasks : run.Tasks) (build : Build) (state : run.State)
    → get_or nodes n Undecided ≡ Open
    → tasks n ≡ lines → known n ≡ Some lines → state.nodes ≡ nodes → 0 < number
    → run.fails (run.line_of (tasks n) number) status ≡ false
    → (nat_le (length lines) number || is_stopped (rules_of work) nodes) ≡ false
    → (build.own n).collected ≡ collected
    → Stands known nodes jobs failure free None (with_run build state free)
    → IsPoised work known nodes jobs failure n lines collected (number + 1) tasks
    (with_run build (run.end_line (rules_of work) tasks state n number status) free)
next-poised work known nodes jobs failure n lines collected number status tasks build state token task
    knows are some fine goes kept stands =
    let goes_now : (nat_le (length (tasks n)) number || is_stopped (rules_of work) state.nodes) ≡ false =
    rw (task, are) goes in
    let now : run.end_line (rules_of work) tasks state n number status
    ≡ record { nodes = state.nodes; started = state.started; due = run.line n (number + 1) } =
    rw (fine, goes_now) refl in
    subst (λ r. IsPoised work known nodes jobs failure n lines collected (number + 1) tasks
    (with_run build r free)) (sym now)
    (record {
      nodes_are = ap (λ l. set l n Open) are ∙ set-open nodes n token;
      may = (refl, refl);
      reason = λ first. absurd (some_line number some first);
      task = knows;
      collected_is = kept;
      stands = record {
        running = stands.running;
        failed = stands.failed;
        duty_is = sym (opening-later work n number some);
        fresh = stands.fresh;
      };
    })

-- behind the last line of a job, or where the job is cut off
next-settled : (work : Work) (known : Known) (nodes : List NodeState) (jobs : List Job)
    (failure : Option Failure) (n : ℕ) (lines : List TaskLine) (number status : ℕ) (duty : Duty)
    (tasks : run.Tasks) (build : Build) (state : run.State) → get_or nodes n Undecided ≡ Open
    → tasks n ≡ lines → state.nodes ≡ nodes
    → run.fails (run.line_of (tasks n) number) status ≡ false
    → (nat_le (length lines) number || is_stopped (rules_of work) nodes) ≡ true
    → Stands known nodes jobs failure duty None (with_run build state duty)
    → IsAt known (set nodes n Settled) run.anything jobs failure duty tasks
    (with_run build (run.end_line (rules_of work) tasks state n number status) duty)
next-settled work known nodes jobs failure n lines number status duty tasks build state token task are
    fine stops stands =
    let stops_now : (nat_le (length (tasks n)) number || is_stopped (rules_of work) state.nodes) ≡ true =
    rw (task, are) stops in
    let now : run.end_line (rules_of work) tasks state n number status ≡ run.settle state n Settled =
    rw (fine, stops_now) refl in
    subst (λ r. IsAt known (set nodes n Settled) run.anything jobs failure duty tasks
    (with_run build r duty)) (sym now)
    (record {
      nodes_are = ap (λ l. set l n Settled) are;
      due_is = refl;
      stands = record {
        running = stands.running;
        failed = stands.failed;
        duty_is = refl;
        fresh = fresh-set nodes build.seen build.own n Settled (open_within nodes n token) (λ is. cc)
            (fresh-but nodes build.seen build.own n stands.fresh);
      };
    })

-- an empty line began and ended
pub go_on-passes : (work : Work) (known : Known) (nodes : List NodeState) (jobs : List Job)
    (failure : Option Failure) (n : ℕ) (lines : List TaskLine) (collected : Collected) (number : ℕ)
    (one : TaskLine) (tasks : run.Tasks) (build : Build) → HasTasks tasks known → AreApart n jobs
    → get_or nodes n Undecided ≡ Open → is_stopped (rules_of work) nodes ≡ false
    → IsPoised work known nodes jobs failure n lines collected number tasks build → 0 < number
    → run.line_of lines number ≡ Some one → run.is_empty one.text ≡ true
    → GoesOn work tasks build (passes n number ∷ [])
    (IsBehind work known nodes jobs failure n lines collected number)
go_on-passes work known nodes jobs failure n lines collected number one tasks build has apart token goes
    is some line empty =
    let task : tasks n ≡ lines = has n lines is.task in
    let line_is : run.line_of (tasks n) number ≡ Some one = rw task line in
    let childless : run.has_child (run.line_of (tasks n) number) ≡ false =
    rw (line_is, empty) refl in
    let state = run.start_line tasks build.run n number in
    let closes : state.due ≡ run.close n number = rw childless refl in
    let fine : run.fails (run.line_of (tasks n) number) 0 ≡ false = refl in
    let stands : (duty : Duty) → Stands known nodes jobs failure duty None (with_run build state duty) =
    λ duty. record {
      running = running-apart known known build.run.started state.started build.own build.own n jobs
          apart (λ k other. (rw (other_node n k other) refl, refl, refl)) is.stands.running;
      failed = is.stands.failed;
      duty_is = refl;
      fresh = is.stands.fresh;
    } in
    record {
      makes = (
        (
          is.may,
          (subst (run.MayEnd state n number 0) (sym closes) (refl, refl, refl), tt),
        ),
        is.stands.duty_is,
        (λ first. subst (IsBegun work n (build.seen n)) (sym task) (is.reason first)),
        tt,
      );
      stands = (
        (λ more.
            let last : nat_le (length lines) number ≡ false =
            grind (arith, nat_tests, common_steps) in
            let last_now : nat_le (length (tasks n)) number ≡ false = rw task last in
            let due : closing work n (nat_le (length (tasks n)) number) ≡ free = rw last_now refl in
            subst (λ d. IsPoised work known nodes jobs failure n lines collected (number + 1) tasks
            (with_run build (run.end_line (rules_of work) tasks state n number 0) d)) (sym due)
            (next-poised work known nodes jobs failure n lines collected number 0 tasks
            build state token task is.task
            is.nodes_are some fine (rw (last, goes) refl) is.collected_is (stands free))),
        (λ none.
            let last : nat_le (length lines) number ≡ true =
            grind (arith, nat_tests, common_steps) in
            let last_now : nat_le (length (tasks n)) number ≡ true = rw task last in
            let due : closing work n (nat_le (length (tasks n)) number) ≡ closing work n true =
            ap (closing work n) last_now in
            subst (λ d. IsClosing work known (set nodes n Settled) jobs failure n lines collected tasks
            (with_run build (run.end_line (rules_of work) tasks state n number 0) d)) (sym due)
            (record {
              at = next-settled work known nodes jobs failure n lines number 0 (closing work n true) tasks
                  build state token task is.nodes_are fine (rw last refl) (stands (closing work n true));
              task = is.task;
              collected_is = is.collected_is;
            })),
      );
    }

-- what a job has collected behind the end of its line's child
abbrev pub collected_behind : Job → Ended → Collected
collected_behind job ended = with_end job.collected job.number ended

-- a job's child was taken in
pub go_on-ends : (work : Work) (known : Known) (nodes : List NodeState) (front back : List Job)
    (failure : Option Failure) (job : Job) (owner : ℕ) (ended : Ended) (tasks : run.Tasks)
    (build : Build) (failed last stopped : Bool) → HasTasks tasks known
    → AreApart job.node (front ++ back)
    → get_or nodes job.node Undecided ≡ Open → 0 < job.number → job.ticket ≡ ended.ticket.0
    → run.fails (run.line_of job.task.lines job.number) ended.status ≡ failed
    → nat_le (length job.task.lines) job.number ≡ last → is_stopped (rules_of work) nodes ≡ stopped
    → IsGoing known nodes run.child (front ++ job ∷ back) failure tasks build
    → GoesOn work tasks build (ends job.node job.number owner ended ∷ [])
    (IsEnding work known nodes (front ++ back) failure job.node job.task.lines
    (collected_behind job ended) job.number ended.status failed last stopped)
go_on-ends work known nodes front back failure job owner ended tasks build failed last stopped has apart
    token some same fails_is last_is stopped_is is =
    let n = job.node in
    let run_of = running-take known build.run.started build.own front back job is.stands.running in
    let task : tasks n ≡ job.task.lines = has n job.task.lines run_of.0.task in
    let fails_now : run.fails (run.line_of (tasks n) job.number) ended.status ≡ failed =
    rw task fails_is in
    let may : run.MayEnd build.run n job.number ended.status build.run.due =
    subst (run.MayEnd build.run n job.number ended.status) (sym is.due_is)
    (rw is.nodes_are (get-open nodes n token), run_of.0.number_is) in
    record {
      makes = ((may, tt), is.stands.duty_is, ap (λ (o : Own). o.ticket) run_of.0.own_is ∙ same, tt);
      stands = by failed last stopped fails_now last_is stopped_is;
    }
  where
    mine : IsRunning known build.run.started build.own job
    mine = (running-take known build.run.started build.own front back job is.stands.running).0

    own_now : ℕ → Own
    own_now = with_collected build.own job.node (with_end (build.own job.node).collected job.number ended)

    after : Duty → Build
    after duty = record {
      run = run.end_line (rules_of work) tasks build.run job.node job.number ended.status;
      seen = build.seen;
      own = own_now;
      failure = if run.fails (run.line_of (tasks job.node) job.number) ended.status
          then or_next build.failure (Some (JobFailed job.node job.number ended.status))
          else build.failure;
      duty = duty;
    }

    kept : (own_now job.node).collected ≡ collected_behind job ended
    kept =
        let here : own_now job.node
        ≡ record {
          ticket = (build.own job.node).ticket;
          collected = with_end (build.own job.node).collected job.number ended;
        } = rw (same_node job.node) refl in
        ap (λ (o : Own). o.collected) here
        ∙ ap (λ (o : Own). with_end o.collected job.number ended) mine.own_is

    runs : AreRunning known build.run.started own_now (front ++ back)
    runs = running-apart known known build.run.started build.run.started build.own own_now job.node
        (front ++ back) apart
        (λ one other. (refl, rw (other_node job.node one other) refl, refl))
        (running-take known build.run.started build.own front back job is.stands.running).1

    unseen : AreFreshBut None nodes build.seen own_now
    unseen = fresh-own None nodes build.seen build.own own_now
        (λ node none undecided.
        rw (other_node job.node node (open-other nodes job.node node token undecided)) refl)
        is.stands.fresh

    -- where the line does not fail
    still : (duty : Duty) → run.fails (run.line_of (tasks job.node) job.number) ended.status ≡ false
        → Stands known nodes (front ++ back) failure duty None (with_run (after duty) build.run duty)
    still duty fails_now = record {
      running = runs;
      failed = rw fails_now is.stands.failed;
      duty_is = refl;
      fresh = unseen;
    }

    task_is : tasks job.node ≡ job.task.lines
    task_is = has job.node job.task.lines mine.task

    behind : Bool → Bool → Duty
    behind true last = if is_removed work job.node then remove job.node else free
    behind false last = closing work job.node last

    -- what is to be done next
    due : (failed last : Bool) → run.fails (run.line_of (tasks job.node) job.number) ended.status ≡ failed
        → nat_le (length job.task.lines) job.number ≡ last
        → (build_after work tasks build (ends job.node job.number owner ended)).duty
        ≡ behind failed last
    due failed last fails_now last_now =
        let last_is : nat_le (length (tasks job.node)) job.number ≡ last = rw task_is last_now in
        rw (fails_now, last_is) (is-behind failed last)
      where
        is-behind : (failed last : Bool) → behind_end work job.node failed last ≡ behind failed last
        is-behind true last = refl
        is-behind false last = refl

    by : (failed last stopped : Bool)
        → run.fails (run.line_of (tasks job.node) job.number) ended.status ≡ failed
        → nat_le (length job.task.lines) job.number ≡ last
        → is_stopped (rules_of work) nodes ≡ stopped
        → IsEnding work known nodes (front ++ back) failure job.node job.task.lines
        (collected_behind job ended) job.number ended.status failed last stopped tasks
        (build_after work tasks build (ends job.node job.number owner ended))
    by true last stopped fails_now last_now stopped_now =
        let duty = if is_removed work job.node then remove job.node else free in
        let now : run.end_line (rules_of work) tasks build.run job.node job.number ended.status
        ≡ run.settle build.run job.node Failed =
        rw fails_now refl in
        subst (λ d. IsFailing known (set nodes job.node Failed) (front ++ back)
        (or_next failure (Some (JobFailed job.node job.number ended.status))) duty tasks (after d))
        (sym (due true last fails_now last_now))
        (record {
          nodes_are = ap (λ r. r.nodes) now ∙ ap (λ l. set l job.node Failed) is.nodes_are;
          due_is = ap (λ r. r.due) now;
          stands = record {
            running = subst (λ (r : run.State). AreRunning known r.started own_now (front ++ back))
                (sym now) runs;
            failed = rw fails_now (ap (λ f. or_next f (Some (JobFailed job.node job.number ended.status)))
                is.stands.failed);
            duty_is = refl;
            fresh = fresh-set nodes build.seen own_now job.node Failed
                (open_within nodes job.node token) (λ is. cc)
                (fresh-but nodes build.seen own_now job.node unseen);
          };
        })
    by false true stopped fails_now last_now stopped_now =
        let duty = closing work job.node true in
        subst (λ d. IsClosing work known (set nodes job.node Settled) (front ++ back) failure job.node
        job.task.lines (collected_behind job ended) tasks (after d)) (sym (due false true fails_now last_now))
        (record {
          at = next-settled work known nodes (front ++ back) failure job.node job.task.lines
              job.number ended.status duty tasks (after duty) build.run token task_is is.nodes_are fails_now
              (rw last_now refl) (still duty fails_now);
          task = mine.task;
          collected_is = kept;
        })
    by false false true fails_now last_now stopped_now =
        subst (λ d. IsGoing known (set nodes job.node Settled) run.anything (front ++ back) failure tasks
        (after d)) (sym (due false false fails_now last_now))
        (next-settled work known nodes (front ++ back) failure job.node job.task.lines
        job.number ended.status free tasks (after free) build.run token task_is is.nodes_are fails_now
        (rw (last_now, stopped_now) refl) (still free fails_now))
    by false false false fails_now last_now stopped_now =
        subst (λ d. IsPoised work known nodes (front ++ back) failure job.node job.task.lines
        (collected_behind job ended) (job.number + 1) tasks (after d))
        (sym (due false false fails_now last_now))
        (next-poised work known nodes (front ++ back) failure job.node job.task.lines
        (collected_behind job ended) job.number
        ended.status tasks (after free) build.run token task_is mine.task is.nodes_are some fails_now
        (rw (last_now, stopped_now) refl) kept (still free fails_now))

-- the target of a failed job was removed
pub go_on-removes : (work : Work) (known : Known) (nodes : List NodeState) (jobs : List Job)
    (failure : Option Failure) (n time : ℕ) (tasks : run.Tasks) (build : Build)
    → IsFailing known nodes jobs failure (remove n) tasks build
    → GoesOn work tasks build (changes n (gone (node_at work.plan n).name time) ∷ [])
    (IsGoing known nodes run.anything jobs failure)
go_on-removes work known nodes jobs failure n time tasks build is = record {
  makes = (tt, is.stands.duty_is, refl, tt);
  stands = record {
    nodes_are = is.nodes_are;
    due_is = is.due_is;
    stands = record {
      running = is.stands.running;
      failed = is.stands.failed;
      duty_is = refl;
      fresh = is.stands.fresh;
    };
  };
}

-- a job without a meta file is closed
pub closed-plain : (work : Work) (known : Known) (nodes : List NodeState) (jobs : List Job)
    (failure : Option Failure) (n : ℕ) (lines : List TaskLine) (collected : Collected)
    (tasks : run.Tasks) (build : Build) → has_meta work n ≡ false
    → IsClosing work known nodes jobs failure n lines collected tasks build
    → IsGoing known nodes run.anything jobs failure tasks build
closed-plain work known nodes jobs failure n lines collected tasks build plain is =
    let none : closing work n true ≡ free = rw plain refl in
    subst (λ d. IsAt known nodes run.anything jobs failure d tasks build) none is.at

-- The time of the target of a job was asked, and its meta file is to be written.
pub record IsDated (work : Work) (known : Known) (nodes : List NodeState) (jobs : List Job)
    (failure : Option Failure) (n : ℕ) (lines : List TaskLine) (collected : Collected) (when : When)
    (tasks : run.Tasks) (build : Build) : Type 0
  where
    pub at : IsAt known nodes run.anything jobs failure (close n) tasks build
    pub told : told_last Missing (build.seen n) ≡ when
    pub task : known n ≡ Some lines
    pub collected_is : (build.own n).collected ≡ collected

told-behind : (when : When) (seen : List Seen) (one : Seen)
    → told_last when (seen ++ one ∷ []) ≡ when_told one
told-behind when [] one = refl
told-behind when (first ∷ seen) one = told-behind (when_told first) seen one

pub go_on-dates : (work : Work) (known : Known) (nodes : List NodeState) (jobs : List Job)
    (failure : Option Failure) (n : ℕ) (lines : List TaskLine) (collected : Collected) (when : When)
    (tasks : run.Tasks) (build : Build) → get_or nodes n Undecided ≡ Settled
    → has_meta work n ≡ true
    → IsClosing work known nodes jobs failure n lines collected tasks build
    → GoesOn work tasks build
    (looks n (dated (record { path = (node_at work.plan n).name; when = when })) ∷ [])
    (IsDated work known nodes jobs failure n lines collected when)
go_on-dates work known nodes jobs failure n lines collected when tasks build settled in_meta is =
    let due : build.duty ≡ date n =
    is.at.stands.duty_is ∙ rw in_meta refl in
    record {
      makes = (
        tt,
        rw due (refl, (when, refl)),
        (λ none. let clash : date n ≡ free = sym due ∙ none in cc),
        tt,
      );
      stands = record {
        at = record {
          nodes_are = is.at.nodes_are;
          due_is = is.at.due_is;
          stands = record {
            running = is.at.stands.running;
            failed = is.at.stands.failed;
            duty_is = rw due refl;
            fresh = λ node none undecided.
                let other : node ≢ n = decided-other nodes n node settled undecided in
                let was = is.at.stands.fresh node none undecided in
                (rw (other_node n node other) was.0, was.1);
          };
        };
        told = rw (same_node n) (told-behind Missing (build.seen n) _);
        task = is.task;
        collected_is = is.collected_is;
      };
    }
  where
    decided-other : (nodes : List NodeState) (n node : ℕ) → get_or nodes n Undecided ≡ Settled
        → get_or nodes node Failed ≡ Undecided → node ≢ n
    decided-other [] n node settled undecided same = cc
    decided-other (state ∷ nodes) zero zero settled undecided same = cc
    decided-other (state ∷ nodes) zero (suc node) settled undecided same = cc
    decided-other (state ∷ nodes) (suc n) zero settled undecided same = cc
    decided-other (state ∷ nodes) (suc n) (suc node) settled undecided same =
        decided-other nodes n node settled undecided (suc-same node n same)
      where
        suc-same : (a b : ℕ) → suc a ≡ suc b → a ≡ b
        suc-same a b is = cc

-- the meta file of a job
abbrev pub whole_path : Work → ℕ → List ℕ
whole_path work n = meta_path (node_at work.plan n).name

abbrev pub whole_bytes : Work → ℕ → List TaskLine → Collected → List ℕ
whole_bytes work n lines collected = meta_text (meta_of work n lines collected)

is-whole : (work : Work) (known : Known) (nodes : List NodeState) (jobs : List Job)
    (failure : Option Failure) (n : ℕ) (lines : List TaskLine) (collected : Collected)
    (when : When) (tasks : run.Tasks) (build : Build) → HasTasks tasks known → IsCountable collected
    → length lines < 2 ^ 32 → AreExports work.mode.exports
    → IsDated work known nodes jobs failure n lines collected when tasks build
    → IsWhole work tasks build n (whole_path work n) (whole_bytes work n lines collected)
is-whole work known nodes jobs failure n lines collected when tasks build has countable few exports is =
    let task : tasks n ≡ lines = has n lines is.task in
    record {
      path_is = refl;
      bytes_are = rw (task, is.collected_is) refl;
      countable = rw is.collected_is countable;
      few = rw task few;
      exports = exports;
    }

pub go_on-whole : (work : Work) (known : Known) (nodes : List NodeState) (jobs : List Job)
    (failure : Option Failure) (n : ℕ) (lines : List TaskLine) (collected : Collected) (when : When)
    (time : ℕ) (tasks : run.Tasks) (build : Build) → HasTasks tasks known → IsCountable collected
    → length lines < 2 ^ 32 → AreExports work.mode.exports → raised 0 when < time
    → IsDated work known nodes jobs failure n lines collected when tasks build
    → GoesOn work tasks build
    (changes n (whole (whole_path work n) (whole_bytes work n lines collected) time) ∷ [])
    (IsGoing known nodes run.anything jobs failure)
go_on-whole work known nodes jobs failure n lines collected when time tasks build has countable few exports later
    is = record {
      makes = (
        tt,
        is.at.stands.duty_is,
        (
          is-whole work known nodes jobs failure n lines collected when tasks build has countable few exports is,
          rw is.told later,
        ),
        tt,
      );
      stands = record {
        nodes_are = is.at.nodes_are;
        due_is = is.at.due_is;
        stands = record {
          running = is.at.stands.running;
          failed = is.at.stands.failed;
          duty_is = refl;
          fresh = is.at.stands.fresh;
        };
      };
    }

pub go_on-cut_whole : (work : Work) (known : Known) (nodes : List NodeState) (jobs : List Job)
    (failure : Option Failure) (n : ℕ) (lines : List TaskLine) (collected : Collected)
    (when : When) (part : List ℕ) (time : ℕ) (tasks : run.Tasks) (build : Build) → HasTasks tasks known
    → IsCountable collected → length lines < 2 ^ 32 → AreExports work.mode.exports
    → IsDated work known nodes jobs failure n lines collected when tasks build
    → Begins part (whole_bytes work n lines collected)
    → GoesOn work tasks build (changes n (cut_whole (whole_path work n) part time) ∷ [])
    (λ tasks build. Unit {0})
go_on-cut_whole work known nodes jobs failure n lines collected when part time tasks build has countable few
    exports is begins =
    record {
      makes = (
        tt,
        is.at.stands.duty_is,
        (
          whole_bytes work n lines collected,
          is-whole work known nodes jobs failure n lines collected when tasks build has countable few exports is,
          begins,
        ),
        tt,
      );
      stands = tt;
    }
