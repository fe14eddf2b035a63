-- Whole builds.
use Rattle.std.proofs.Common.{◌≡◌, ◌∙◌, ℕ, suc, ◌<◌, ◌≤◌, ◌^◌, List, [], ◌∷◌, ◌++◌, length, map, Option, Some, None, Bool, true, false, if◌then◌else◌, unwrap_or}
use Rattle.std.proofs.Common.{refl, sym, ap, subst, append_assoc, arith}
use Rattle.std.proofs.lemmas.List.{append-nil}
use Rattle.std.specs.List.{list_any}
use Rattle.mk_plan.specs.Deciding.{Rules, is_failed, may_decide, open_jobs}
use Rattle.mk_plan.specs.declared.plan.NodeState.TheVariants.{Undecided}
use Rattle.mk_plan.specs.declared.plan.NodeState.{NodeState}
use Rattle.mk_plan.specs.declared.plan.PlanNode.{PlanNode}
use Rattle.mk_sched.specs.Schedule.{Schedule, none_decided, predecessors}
use Rattle.mk_sched.specs.Next.{next_of}
use Rattle.mk_sched.specs.declared.sched.Next.TheVariants.{Over}
use Rattle.mk_world.specs.Talks.{Meaning}
use Rattle.mk_world.specs.declared.history.History.{History}
use Rattle.mk_world.proofs.SinkLemmas.{Gains-nothing}
use Rattle.mk_world.proofs.IdleLemmas.{IsIdle}
use Rattle.mk_decision.specs.Decisions.{Work}
use Rattle.mk_trace.specs.Builds.{Build, Moment, Prints, IsBuild, first_build, rules_of, job_of, moment}
use Rattle.mk_decision.specs.Makers.{jobs_of}
use Rattle.mk_trace.specs.Calls.{AreLeaveItems, Called}
use Rattle.mk_child.specs.Halts.{of_halt}
use Rattle.mk_trace.specs.Ends.{result_of, IsOver, StandsBy, is_cut}
use Rattle.mk_trace.specs.Items.{reported_all, outputs_of}
use Rattle.mk_trace.specs.Output.{output}
use Rattle.mk_driver.specs.Progress.{IsGoing, EndedAt, Fits, GoingAt, HaltedAt, IsFirstCourse}
use Rattle.mk_trace.specs.Growth.{Known, SoFar}
use Rattle.mk_trace.specs.Runs as run
use Rattle.mk_driver.specs.declared.course.Course.{Course}
use Rattle.mk_trace.specs.declared.event.Event.{Event}
use Rattle.mk_driver.specs.declared.job.Job.{Job}
use Rattle.mk_trace.specs.declared.result.BuildResult.{BuildResult}
use Rattle.mk_trace.specs.declared.result.BuildResult.TheVariants as ended
use Rattle.mk_trace.specs.declared.result.Failure.{Failure}
use Rattle.mk_trace.specs.declared.result.Failure.TheVariants.{JobFailed, Expand}
use Rattle.mk_child.specs.declared.halt.Halt.{Halt}
use Rattle.mk_child.specs.declared.halt.Halt.TheVariants as halts
use Rattle.mk_trace.proofs.ItemLemmas.{reported_all-append, failure-events, told-none, told-then, run-legal}
use Rattle.mk_trace.proofs.MakeLemmas.{none-append, none-steps, so_far-weaken}
use Rattle.mk_trace.proofs.QuietLemmas.{made-quiet, quiet-append, quiet-leaves, quiet-steps}
use Rattle.mk_driver.proofs.NodeLemmas.{length-predecessors, next-over}
use Rattle.mk_trace.proofs.SettledLemmas.{told-settled}

-- a build at its end, behind which the children that still ran were given up
pub ended-build : (meaning : Meaning) (work : Work) (result : BuildResult)
    (first now next : Moment) → EndedAt meaning work result first now
    → Called meaning now.history next.history AreLeaveItems
    → next.events ≡ now.events → next.out ≡ now.out
    → IsIdle first.history → IsIdle next.history
    → IsBuild meaning work (is_cut result) first next (StandsBy work result)
ended-build meaning work result first now next ended call events out idle still =
    let known = ended.0 in
    let last = ended.1 in
    let so = ended.2 in
    let tasks : run.Tasks = λ node. unwrap_or (known node) [] in
    let quiet = call.early ++ (call.own ++ call.late) in
    let are = quiet-append work call.early (call.own ++ call.late)
    (quiet-steps work call.early call.early_steps)
    (quiet-append work call.own call.late (quiet-leaves work call.own call.is_own)
    (quiet-steps work call.late call.late_steps)) in
    let items = so.items ++ quiet in
    let reported : next.events ≡ reported_all items =
    events ∙ (so.reported ∙ sym (reported_all-append so.items quiet
    ∙ rw are.reported (append-nil (reported_all so.items)))) in
    let told = told-then meaning so.items quiet first.history now.history next.history so.told
    call.told in
    let made = made-quiet work tasks (is_cut result) first now next last so.items quiet
    (λ tasks build. StandsBy work result build) are out
    (so.made tasks (λ node lines is. ap (λ l. unwrap_or l []) is)) in
    record {
      tasks = tasks;
      items = items;
      reported = reported;
      legal = subst (λ (e : List Event). run.IsCutRun (rules_of work) tasks e) (sym reported)
          (run-legal work tasks (first_build work) items made.makes);
      makes = made.makes;
      told = told;
      gives_up = record {
        front = so.items ++ call.early;
        left = call.own;
        late = call.late;
        are = sym (append_assoc so.items call.early (call.own ++ call.late));
        none = none-append so.items call.early so.none_left (none-steps call.early call.early_steps);
        left_are = call.is_own;
        late_are = call.late_steps;
      };
      settled = told-settled meaning items first.history next.history told idle still;
      printed = subst
          (λ (e : List Event). Prints (is_cut result) first next
          (output (job_of work tasks) (outputs_of items) e)) (sym reported) made.printed;
      stands = made.stands;
      failure = ap (run.first_failure tasks) reported
          ∙ sym (failure-events work tasks (first_build work) items);
    }

map-undecided : (plan : List PlanNode)
    → map (λ (before : List ℕ). Undecided) (predecessors plan) ≡ none_decided plan
map-undecided [] = refl
map-undecided (node ∷ plan) = ap (λ l. Undecided ∷ l) (map-undecided plan)

-- the beginning of a build
pub going-first : (meaning : Meaning) (work : Work) (course : Course) (jobs : ℕ)
    (keep_going : Bool) (history : Option History) (out : Option (List ℕ))
    → IsFirstCourse work.plan jobs keep_going course
    → GoingAt meaning work history course (moment history out []) out
going-first meaning work course jobs keep_going history out is = (
  (λ node. None),
  (λ node undecided. refl),
  record {
    items = [];
    reported = is.events;
    told = told-none meaning history;
    none_left = tt;
    made = λ tasks has. record {
      makes = tt;
      printed = Gains-nothing out;
      ended = refl;
      last_is = sym is.last;
      stands = record {
        nodes_are = map-undecided work.plan ∙ ap (λ (s : Schedule). s.nodes) (sym is.sched);
        due_is = refl;
        stands = record {
          running = rw is.jobs_are tt;
          failed = sym is.failure;
          duty_is = refl;
          fresh = λ node none undecided. (refl, refl);
        };
      };
    };
  },
)

over-of : (work : Work) (failure : Option Failure) (build : Build) (tasks : run.Tasks)
    (known : Known) (nodes : List NodeState) (jobs : List Job)
    → may_decide (rules_of work) nodes ≡ None → open_jobs nodes ≡ 0
    → IsGoing known nodes run.anything jobs failure tasks build → IsOver work failure build
over-of work failure build tasks known nodes jobs none none_open is = record {
  over = record {
    due = is.due_is;
    none_open = rw is.nodes_are none_open;
    none_ready = rw is.nodes_are none;
  };
  failed = is.stands.failed;
  none_due = is.stands.duty_is;
}

stands-result : (work : Work) (failure : Option Failure) (build : Build)
    → IsOver work failure build → StandsBy work (result_of failure) build
stands-result work None build over = over
stands-result work (Some (JobFailed n number status)) build over = over
stands-result work (Some (Expand n number what)) build over = over

uncut : (failure : Option Failure) → false ≡ is_cut (result_of failure)
uncut None = refl
uncut (Some (JobFailed n number status)) = refl
uncut (Some (Expand n number what)) = refl

-- a build that is over ends by its first failure
pub ended-over : (meaning : Meaning) (work : Work) (course : Course) (history : Option History)
    (first : Moment) (out : Option (List ℕ))
    → course.sched.rules ≡ rules_of work → next_of course.sched ≡ Over
    → GoingAt meaning work history course first out
    → EndedAt meaning work (result_of course.failure) first (moment history out course.events.items)
ended-over meaning work course history first out rules over going =
    let is = next-over (may_decide course.sched.rules course.sched.nodes)
    (open_jobs course.sched.nodes) over in
    let none : may_decide (rules_of work) course.sched.nodes ≡ None =
    subst (λ (r : Rules). may_decide r course.sched.nodes ≡ None) rules is.0 in (
      going.0,
      course.last_shown,
      subst (λ b. SoFar meaning work b first (moment history out course.events.items) course.last_shown going.0
          (λ tasks build. StandsBy work (result_of course.failure) build)) (uncut course.failure)
          (so_far-weaken meaning work false first (moment history out course.events.items) course.last_shown
          going.0 going.0 _ _ going.2 (λ tasks has. has)
          (λ tasks build has is_going. stands-result work course.failure build
          (over-of work course.failure build tasks going.0 course.sched.nodes course.jobs.items none is.1
          is_going))),
    )

-- a build that did not begin
pub ended-none : (meaning : Meaning) (work : Work) (history : Option History)
    (out : Option (List ℕ))
    → EndedAt meaning work ended.NoMemory (moment history out []) (moment history out [])
ended-none meaning work history out = (
  (λ node. None),
  None,
  record {
    items = [];
    reported = refl;
    told = told-none meaning history;
    none_left = tt;
    made = λ tasks has. record {
      makes = tt;
      printed = Gains-nothing out;
      ended = refl;
      last_is = refl;
      stands = tt;
    };
  },
)

-- a build that the outside has ended
pub ended-halted : (meaning : Meaning) (work : Work) (halt : Halt) (history : Option History)
    (events : List Event) (first : Moment) (out : Option (List ℕ))
    → HaltedAt meaning work halt history events first out
    → EndedAt meaning work (of_halt halt) first (moment history out events)
ended-halted meaning work halts.World history events first out at = at
ended-halted meaning work halts.Sink history events first out at = at
ended-halted meaning work halts.NoMemory history events first out at = at

none_open : (plan : List PlanNode) → open_jobs (none_decided plan) ≡ 0
none_open [] = refl
none_open (node ∷ plan) = none_open plan

none_failed : (plan : List PlanNode) → list_any is_failed (none_decided plan) ≡ false
none_failed [] = refl
none_failed (node ∷ plan) = none_failed plan

as_many : (plan : List PlanNode) → length (none_decided plan) ≡ length (predecessors plan)
as_many [] = refl
as_many (node ∷ plan) = ap suc (as_many plan)

-- what the driver keeps fits together at the beginning
pub fits-first : (work : Work) (course : Course) (jobs room : ℕ) → jobs ≡ jobs_of work
    → IsFirstCourse work.plan jobs work.flags.keep_going course → length work.plan < 2 ^ 32
    → jobs ≤ 256 → room ≡ jobs → Fits work course [] room 0
fits-first work course jobs room jobs_are is short few room_is =
    let long : length (predecessors work.plan) ≡ length work.plan = length-predecessors work.plan in
    let some : 0 ≤ jobs_of work = omega arith in
    rw (is.sched, is.jobs_are, is.failure, room_is, jobs_are) (record {
      rules_are = refl;
      told = record {
        as_many = as_many work.plan;
        short = rw long short;
        tokens_are = sym (none_open work.plan);
        failed_is = sym (none_failed work.plan);
      };
      jobs_are = tt;
      tickets_are = λ ticket. refl;
      as_long = refl;
      room_is = omega arith;
      few = rw (← jobs_are) few;
      within = omega arith;
    })

-- there are no more jobs than may be
pub jobs-few : (work : Work) → work.flags.jobs ≤ 256 → jobs_of work ≤ 256
jobs-few work few = by work.mode.one_job
  where
    by : (one : Bool) → (if one then 1 else work.flags.jobs) ≤ 256
    by true = omega arith
    by false = few
