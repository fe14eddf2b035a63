-- A build so far, and the lines of a job.
use Rattle.std.proofs.Common.{◌≡◌, ◌∙◌, ℕ, ◌+◌, ◌-◌, ◌<◌, nat_le, List, [], ◌∷◌, ◌++◌, length, get_or, Option, Some, None, Bool, true, false}
use Rattle.std.proofs.Common.{refl, sym, ap, subst, length-append, arith}
use Rattle.std.proofs.Math.Seq.{get_or-append_seam}
use Rattle.std.proofs.lemmas.List.{append-nil}
use Rattle.mk_plan.specs.Deciding.{is_stopped, may_decide, open_jobs}
use Rattle.mk_plan.specs.declared.plan.NodeState.{NodeState}
use Rattle.mk_plan.specs.declared.plan.NodeState.TheVariants.{Undecided, Open}
use Rattle.mk_world.specs.Sinks.{Gains, GainsPart}
use Rattle.mk_world.specs.Talks.{Meaning}
use Rattle.mk_world.specs.declared.command.Cmd.{Cmd}
use Rattle.mk_world.specs.declared.command.TaskLine.{TaskLine}
use Rattle.mk_world.specs.declared.history.History.{History}
use Rattle.mk_world.specs.declared.step.Ended.{Ended}
use Rattle.mk_decision.specs.Decisions.{Work}
use Rattle.mk_trace.specs.Builds.{Moment, Prints, command_of, job_of, rules_of, moment}
use Rattle.mk_trace.specs.Calls.{Called, StartItem, EndItem}
use Rattle.mk_trace.specs.Items.{starts, passes, waits, ends}
use Rattle.mk_driver.specs.Jobs.{AreApart, HasLine, HasToken}
use Rattle.mk_trace.specs.Output.{Printed, echo, shown, last_behind}
use Rattle.mk_driver.specs.Progress.{IsGoing, IsPoised, IsBehind, IsEnding, HaltedAt}
use Rattle.mk_child.specs.Halts.{is_cut_by}
use Rattle.mk_trace.specs.Growth.{Known, SoFar, Standing}
use Rattle.mk_trace.specs.Runs as run
use Rattle.mk_driver.specs.Scenes.{Scene, IsOpenScene, BehindIn, HaltedIn}
use Rattle.mk_trace.specs.Steps.{PrintsOwn}
use Rattle.mk_trace.specs.declared.collected.Collected.{Collected}
use Rattle.mk_trace.specs.declared.event.Event.{Event}
use Rattle.mk_trace.specs.declared.event.Event.TheVariants as event
use Rattle.mk_driver.specs.declared.job.Job.{Job}
use Rattle.mk_trace.specs.declared.result.Failure.{Failure}
use Rattle.mk_child.specs.declared.halt.Halt.{Halt}
use Rattle.mk_child.specs.declared.halt.Halt.TheVariants as halts
use Rattle.mk_driver.proofs.EndLemmas.{collected_behind, go_on-passes, go_on-ends}
use Rattle.mk_trace.proofs.MakeLemmas.{silent, so_far-called, so_far-own}
use Rattle.mk_driver.proofs.StepLemmas.{go_on-starts, go_on-waits, running-take}

-- what was printed is a part of itself
part-whole : (before after : Option (List ℕ)) (bytes : List ℕ) → Gains before after bytes
    → GainsPart before after bytes
part-whole before None bytes gains = tt
part-whole None (Some after) bytes gains = absurd gains
part-whole (Some before) (Some after) bytes gains =
    (bytes, record { rest = []; is = sym (append-nil bytes) }, gains)

prints-cut : (cut : Bool) (first now : Moment) (bytes : List ℕ) → Prints false first now bytes
    → Prints cut first now bytes
prints-cut true first now bytes prints = part-whole first.out now.out bytes prints
prints-cut false first now bytes prints = prints

-- a build that the outside ended, as far as it came
pub halted : (meaning : Meaning) (work : Work) (halt : Halt) (first : Moment)
    (history : Option History) (out : Option (List ℕ)) (events : List Event) (last : Option ℕ)
    (known : Known) (P : Standing)
    → SoFar meaning work false first (moment history out events) last known P
    → HaltedAt meaning work halt history events first out
halted meaning work halt first history out events last known P so = (
  known,
  last,
  record {
    items = so.items;
    reported = so.reported;
    told = so.told;
    none_left = so.none_left;
    made = λ tasks has.
        let made = so.made tasks has in
        record {
          makes = made.makes;
          printed = prints-cut (is_cut_by halt) first (moment history out events) _ made.printed;
          ended = made.ended;
          last_is = made.last_is;
          stands = tt;
        };
  },
)

-- an empty line has no child
no_child : (lines : List TaskLine) (number : ℕ) (one : TaskLine)
    → run.line_of lines number ≡ Some one → run.is_empty one.text ≡ true
    → run.has_child (run.line_of lines number) ≡ false
no_child lines number one line empty = rw (line, empty) refl

-- an empty line began and ended
pub behind-passes : (scene : Scene) (events now : List Event) (n : ℕ) (lines : List TaskLine)
    (collected : Collected) (done : ℕ) (one : TaskLine) → IsOpenScene scene n
    → BehindIn scene events n lines collected done
    → done < length lines → run.line_of lines (done + 1) ≡ Some one
    → run.is_empty one.text ≡ true
    → now ≡ events ++ event.Start n (done + 1) ∷ event.End n (done + 1) 0 ∷ []
    → BehindIn scene now n lines collected (done + 1)
behind-passes scene events now n lines collected done one open_scene behind more line empty told =
    let known = behind.0 in
    let work = scene.work in
    let nodes = scene.course.sched.nodes in
    let jobs = scene.course.jobs.items in
    let failure = scene.course.failure in (
      known,
      behind.1,
      so_far-own scene.meaning work scene.first (moment scene.history scene.out events)
          (moment scene.history scene.out now) scene.course.last_shown known known
          (IsBehind work known nodes jobs failure n lines collected done)
          (IsBehind work known nodes jobs failure n lines collected (done + 1)) (passes n (done + 1) ∷ [])
          behind.2 tt refl (λ stand. (tt, tt)) refl refl told refl (λ tasks has. has)
          (λ tasks build has is. go_on-passes work known nodes jobs failure n lines collected (done + 1) one tasks
          build has open_scene.token.apart open_scene.token.open_now open_scene.unstopped (is.0 more)
          (omega arith) line empty)
          (λ tasks build has is outputs p.
          let poised = is.0 more in
          rw (has n lines poised.task, no_child lines (done + 1) one line empty) refl),
    )

-- the child of a line was started
pub so_far-starts : (meaning : Meaning) (work : Work) (known : Known) (nodes : List NodeState)
    (jobs : List Job) (failure : Option Failure) (job : Job) (one : TaskLine) (cmd : Cmd)
    (last : Option ℕ) (first now next : Moment)
    → SoFar meaning work false first now last known
    (IsBehind work known nodes jobs failure job.node job.task.lines job.collected (job.number - 1))
    → HasToken nodes jobs job.node → HasLine job.task.lines job.number one
    → cmd ≡ command_of work one
    → Called meaning now.history next.history (StartItem job.node job.number job.ticket job.collected.owner cmd)
    → next.events ≡ now.events ++ event.Start job.node job.number ∷ [] → next.out ≡ now.out
    → SoFar meaning work false first next last known
    (IsGoing known nodes run.anything (jobs ++ job ∷ []) failure)
so_far-starts meaning work known nodes jobs failure job one cmd last first now next so token has_line
    command call events out =
    let some = has_line.some in
    let within = has_line.within in
    let before : job.number - 1 < length job.task.lines = omega (arith, some, within) in
    let number_is : (job.number - 1) + 1 ≡ job.number = omega (arith, some) in
    so_far-called meaning work false first now next last last known known
    (IsBehind work known nodes jobs failure job.node job.task.lines job.collected (job.number - 1))
    (IsGoing known nodes run.anything (jobs ++ job ∷ []) failure)
    (StartItem job.node job.number job.ticket job.collected.owner cmd) so call
    (rw call.is_own tt) (rw call.is_own events) (λ tasks has. has)
    (λ tasks build has is. rw call.is_own
    (go_on-starts work known nodes jobs failure job one cmd tasks build has token.apart
    (subst (λ k. IsPoised work known nodes jobs failure job.node job.task.lines job.collected k tasks build) number_is
    (is.0 before)) has_line command))
    (λ tasks build has is. rw call.is_own (silent work tasks now next last
    (starts job.node job.number job.ticket job.collected.owner cmd ∷ []) out refl (λ outputs p. refl)))

-- make waits for a child
pub so_far-waits : (meaning : Meaning) (work : Work) (known : Known) (nodes : List NodeState)
    (jobs : List Job) (failure : Option Failure) (last : Option ℕ) (first now next : Moment)
    → SoFar meaning work false first now last known
    (IsGoing known nodes run.anything jobs failure)
    → may_decide (rules_of work) nodes ≡ None → 0 < open_jobs nodes
    → next.history ≡ now.history → next.events ≡ now.events ++ event.Wait ∷ []
    → next.out ≡ now.out
    → SoFar meaning work false first next last known (IsGoing known nodes run.child jobs failure)
so_far-waits meaning work known nodes jobs failure last first now next so none some history events out =
    so_far-own meaning work first now next last known known
    (IsGoing known nodes run.anything jobs failure) (IsGoing known nodes run.child jobs failure)
    (waits ∷ []) so tt refl (λ stand. (tt, tt)) refl history events out (λ tasks has. has)
    (λ tasks build has is. go_on-waits work known nodes jobs failure tasks build none some is)
    (λ tasks build has is outputs p. refl)

-- a child's end, with what is printed then
prints-end : (work : Work) (tasks : run.Tasks) (cut : Bool) (now next : Moment) (last : Option ℕ)
    (n number owner : ℕ) (lines : List TaskLine) (one : TaskLine) (ended : Ended)
    → tasks n ≡ lines → HasLine lines number one
    → Prints cut now next
    (shown work.plan (job_of work tasks).many last n (echo (Some one) ++ ended.output))
    → PrintsOwn work tasks cut now next last (last_behind last n (echo (Some one) ++ ended.output))
    (ends n number owner ended ∷ [])
prints-end work tasks cut now next last n number owner lines one ended task has grows =
    let line_is : run.line_of (tasks n) number ≡ Some one = rw task has.line in
    let child : run.has_child (run.line_of (tasks n) number) ≡ true =
    rw (line_is, has.child) refl in
    let output_is : (outputs : List (List ℕ)) (p : Printed) → p.ended ≡ length outputs
    → get_or (outputs ++ ended.output ∷ []) p.ended [] ≡ ended.output =
    λ outputs p is. rw is (get_or-append_seam outputs ended.output [] []) in
    record {
      text = shown work.plan (job_of work tasks).many last n (echo (Some one) ++ ended.output);
      grows = grows;
      bytes = λ outputs p is last_is. rw (child, line_is, output_is outputs p is, last_is) refl;
      ended = λ outputs p is. rw child
          (ap (λ k. k + 1) is ∙ sym (length-append outputs (ended.output ∷ [])));
      last_is = λ outputs p is last_is. rw (child, line_is, output_is outputs p is, last_is) refl;
    }

-- a child ended, and all was printed
pub so_far-ends : (meaning : Meaning) (work : Work) (cut : Bool) (known : Known)
    (nodes : List NodeState) (front back : List Job) (failure : Option Failure) (job : Job)
    (one : TaskLine) (ended : Ended) (last : Option ℕ) (first now next : Moment)
    → SoFar meaning work false first now last known
    (IsGoing known nodes run.child (front ++ job ∷ back) failure)
    → AreApart job.node (front ++ back)
    → get_or nodes job.node Undecided ≡ Open → HasLine job.task.lines job.number one
    → job.ticket ≡ ended.ticket.0
    → Called meaning now.history next.history (EndItem job.node job.number ended)
    → next.events ≡ now.events ++ event.End job.node job.number ended.status ∷ []
    → ((tasks : run.Tasks) → Prints cut now next
    (shown work.plan (job_of work tasks).many last job.node (echo (Some one) ++ ended.output)))
    → SoFar meaning work cut first next
    (last_behind last job.node (echo (Some one) ++ ended.output)) known
    (IsEnding work known nodes (front ++ back) failure job.node job.task.lines
    (collected_behind job ended) job.number ended.status
    (run.fails (run.line_of job.task.lines job.number) ended.status)
    (nat_le (length job.task.lines) job.number) (is_stopped (rules_of work) nodes))
so_far-ends meaning work cut known nodes front back failure job one ended last first now next so apart
    token has_line ticket call events grows =
    so_far-called meaning work cut first now next last
    (last_behind last job.node (echo (Some one) ++ ended.output)) known known
    (IsGoing known nodes run.child (front ++ job ∷ back) failure) _
    (EndItem job.node job.number ended) so call
    (rw call.is_own.1 tt) (rw call.is_own.1 events) (λ tasks has. has)
    (λ tasks build has is. rw call.is_own.1
    (go_on-ends work known nodes front back failure job call.is_own.0 ended tasks build
    (run.fails (run.line_of job.task.lines job.number) ended.status)
    (nat_le (length job.task.lines) job.number) (is_stopped (rules_of work) nodes) has apart token
    has_line.some ticket refl refl refl is))
    (λ tasks build has is. rw call.is_own.1
    (prints-end work tasks cut now next last job.node job.number call.is_own.0 job.task.lines one ended
    (has job.node job.task.lines
    (running-take known build.run.started build.own front back job is.stands.running).0.task) has_line
    (grows tasks)))

-- or it could not be told
pub behind-halted : (scene : Scene) (events now : List Event) (n : ℕ) (lines : List TaskLine)
    (collected : Collected) (done : ℕ) → BehindIn scene events n lines collected done → now ≡ events
    → HaltedIn scene now
behind-halted scene events now n lines collected done behind same =
    subst (HaltedIn scene) (sym same)
    (halted scene.meaning scene.work halts.NoMemory scene.first scene.history scene.out events
    scene.course.last_shown behind.0 _ behind.2)

-- the line that was found is the one with a child
pub some-is : (a b : TaskLine) → Some a ≡ Some b → a ≡ b
some-is a b is = cc

pub found : (line : TaskLine) (lines : List TaskLine) (number : ℕ) → run.line_of lines number ≡ Some line
    → (one : TaskLine) × HasLine lines number one → HasLine lines number line
found line lines number is has =
    let same : has.0 ≡ line = some-is has.0 line (sym has.1.line ∙ is) in
    record { line = is; child = rw (← same) has.1.child; some = has.1.some; within = has.1.within }
