-- A build so far, and a child that is taken in.
use Rattle.std.proofs.Common.{◌≡◌, ◌∙◌, ◌⊎◌, ℕ, ◌+◌, ◌-◌, ◌^◌, ◌<◌, ◌≤◌, nat_le, nat_lt, List, [], ◌∷◌, ◌++◌, length, get_or, set, Option, Some, None, Bool, true, false, if◌then◌else◌}
use Rattle.std.proofs.Common.{inl, inr, refl, sym, ap, subst, append_assoc, arith}
use Rattle.mk_export.specs.Lists.{AreExports}
use Rattle.mk_plan.specs.Deciding.{Rules, is_stopped, may_decide, open_jobs}
use Rattle.mk_plan.specs.Plans.{node_at}
use Rattle.mk_plan.specs.declared.plan.NodeState.{NodeState}
use Rattle.mk_plan.specs.declared.plan.NodeState.TheVariants.{Undecided, Open, Settled, Failed}
use Rattle.mk_sched.specs.Next.{next_of}
use Rattle.mk_sched.specs.Schedule.{Schedule, with_node}
use Rattle.mk_sched.specs.declared.sched.Next.TheVariants.{Wait}
use Rattle.std.proofs.lemmas.Bool.Decides.{nat_tests}
use Rattle.std.proofs.lemmas.List.{get_or-set_same}
use Rattle.mk_sched.proofs.DecideLemmas.{open_within}
use Rattle.mk_world.specs.Talks.{Meaning}
use Rattle.mk_world.specs.declared.command.Cmd.{Cmd}
use Rattle.mk_world.specs.declared.command.TaskLine.{TaskLine}
use Rattle.mk_world.specs.declared.history.History.{History}
use Rattle.mk_world.specs.declared.step.Ended.{Ended}
use Rattle.mk_world.specs.declared.time.When.{When}
use Rattle.mk_decision.specs.Decisions.{Work}
use Rattle.mk_decision.specs.Newest.{raised}
use Rattle.mk_trace.specs.Builds.{Build, Moment, Prints, free, remove, command_of, is_removed, or_next, rules_of, moment}
use Rattle.mk_decision.specs.Makers.{jobs_of}
use Rattle.mk_trace.specs.Calls.{Called, ChangeItem, EndItem, GoneItem, LookItem, NoItem, NoneLeft, PartItem, StartItem}
use Rattle.mk_trace.specs.Items.{Item, changes, cut_whole, gone, looks, reported_all, whole}
use Rattle.mk_world.specs.Looks.{dated}
use Rattle.mk_driver.specs.Jobs.{AreApart, FitsTogether, HasLine, HasToken, IsJobTaken}
use Rattle.mk_driver.specs.Metas.{DateAsked, HasClosed, IsUnclosed}
use Rattle.mk_trace.specs.Output.{echo, last_behind, shown}
use Rattle.mk_driver.specs.Progress.{AreUnknown, BehindAt, BehindOn, EndingAt, HaltedAt, IsClosing, IsEnding, OverAt, OverOn, IsFailing, IsGoing}
use Rattle.mk_trace.specs.Collected.{IsCountable}
use Rattle.mk_trace.specs.Growth.{Known, HasTasks, SoFar}
use Rattle.mk_trace.specs.Steps.{GoesOn, PrintsOwn}
use Rattle.mk_trace.specs.Runs as run
use Rattle.mk_driver.specs.declared.course.Course.{Course}
use Rattle.mk_trace.specs.declared.event.Event.{Event}
use Rattle.mk_trace.specs.declared.event.Event.TheVariants as event
use Rattle.mk_driver.specs.declared.job.Job.{Job}
use Rattle.mk_trace.specs.declared.result.Failure.{Failure}
use Rattle.mk_trace.specs.declared.result.Failure.TheVariants.{JobFailed}
use Rattle.mk_child.specs.declared.halt.Halt.{Halt}
use Rattle.mk_driver.proofs.DecideLemmas.{less-behind}
use Rattle.mk_driver.proofs.EndLemmas.{IsDated, closed-plain, collected_behind, go_on-cut_whole, go_on-dates, go_on-removes, go_on-whole, whole_bytes, whole_path}
use Rattle.mk_driver.proofs.LineLemmas.{halted, so_far-ends, so_far-starts, so_far-waits}
use Rattle.mk_trace.proofs.MakeLemmas.{so_far-nothing, so_far-weaken, silent, so_far-called}
use Rattle.mk_driver.proofs.NodeLemmas.{length-predecessors, next-waits, unknown-set}

-- a child was waited for and taken in, and what its line prints was written
pub so_far-taken : (meaning : Meaning) (work : Work) (cut : Bool) (known : Known)
    (nodes : List NodeState) (jobs left : List Job) (failure : Option Failure) (job : Job)
    (one : TaskLine) (ended : Ended) (last : Option ℕ) (first now next : Moment)
    → SoFar meaning work false first now last known
    (IsGoing known nodes run.anything jobs failure)
    → may_decide (rules_of work) nodes ≡ None → 0 < open_jobs nodes
    → IsJobTaken ended.ticket.0 jobs job left → HasToken nodes left job.node
    → HasLine job.task.lines job.number one
    → Called meaning now.history next.history (EndItem job.node job.number ended)
    → next.events ≡ now.events ++ event.Wait ∷ event.End job.node job.number ended.status ∷ []
    → Prints cut now next
    (shown work.plan (nat_lt 1 (jobs_of work)) last job.node (echo (Some one) ++ ended.output))
    → SoFar meaning work cut first next
    (last_behind last job.node (echo (Some one) ++ ended.output)) known
    (IsEnding work known nodes left failure job.node job.task.lines (collected_behind job ended)
    job.number ended.status (run.fails (run.line_of job.task.lines job.number) ended.status)
    (nat_le (length job.task.lines) job.number) (is_stopped (rules_of work) nodes))
so_far-taken meaning work cut known nodes jobs left failure job one ended last first now next so none
    some out token has_line call events grows =
    let waiting = moment now.history now.out (now.events ++ event.Wait ∷ []) in
    let waits = so_far-waits meaning work known nodes jobs failure last first now waiting so none some
    refl refl refl in
    let jobs_are = subst (λ l. SoFar meaning work false first waiting last known
    (IsGoing known nodes run.child l failure)) out.was waits in
    subst (λ l. SoFar meaning work cut first next
    (last_behind last job.node (echo (Some one) ++ ended.output)) known
    (IsEnding work known nodes l failure job.node job.task.lines (collected_behind job ended)
    job.number ended.status (run.fails (run.line_of job.task.lines job.number) ended.status)
    (nat_le (length job.task.lines) job.number) (is_stopped (rules_of work) nodes))) (sym out.now)
    (so_far-ends meaning work cut known nodes out.front out.back failure job one ended last first waiting
    next jobs_are (subst (AreApart job.node) out.now token.apart) token.open_now has_line out.ticket_is call
    (events ∙ sym (append_assoc now.events (event.Wait ∷ [])
    (event.End job.node job.number ended.status ∷ [])))
    (λ tasks. prints-same cut now waiting next _ refl grows))
  where
    prints-same : (cut : Bool) (now same next : Moment) (bytes : List ℕ) → now.out ≡ same.out
        → Prints cut now next bytes → Prints cut same next bytes
    prints-same true now same next bytes is prints = rw (← is) prints
    prints-same false now same next bytes is prints = rw (← is) prints

-- a wait that was refused, be it told or not
pub halted-waiting : (meaning : Meaning) (work : Work) (halt : Halt) (known : Known)
    (nodes : List NodeState) (jobs : List Job) (failure : Option Failure) (last : Option ℕ)
    (first now : Moment) (history : Option History) (events : List Event)
    → SoFar meaning work false first now last known
    (IsGoing known nodes run.anything jobs failure)
    → may_decide (rules_of work) nodes ≡ None → 0 < open_jobs nodes
    → Called meaning now.history history NoItem
    → (events ≡ now.events) ⊎ (events ≡ now.events ++ event.Wait ∷ [])
    → HaltedAt meaning work halt history events first now.out
halted-waiting meaning work halt known nodes jobs failure last first now history events so none some call
    (inl same) =
    halted meaning work halt first history now.out events last known
    (IsGoing known nodes run.anything jobs failure)
    (so_far-nothing meaning work first now (moment history now.out events) last known
    (IsGoing known nodes run.anything jobs failure) so call same refl)
halted-waiting meaning work halt known nodes jobs failure last first now history events so none some call
    (inr told) =
    let waiting = moment now.history now.out (now.events ++ event.Wait ∷ []) in
    halted meaning work halt first history now.out events last known
    (IsGoing known nodes run.child jobs failure)
    (so_far-nothing meaning work first waiting (moment history now.out events) last known
    (IsGoing known nodes run.child jobs failure)
    (so_far-waits meaning work known nodes jobs failure last first now waiting so none some refl refl
    refl) call told refl)

append-none : (events : List Event) → events ++ [] ≡ events
append-none [] = refl
append-none (one ∷ events) = ap (λ l. one ∷ l) (append-none events)

-- the target of a failed job was removed
pub so_far-removes : (meaning : Meaning) (work : Work) (known : Known) (nodes : List NodeState)
    (jobs : List Job) (failure : Option Failure) (n : ℕ) (last : Option ℕ) (first now next : Moment)
    → SoFar meaning work false first now last known
    (IsFailing known nodes jobs failure (remove n))
    → Called meaning now.history next.history (GoneItem n (node_at work.plan n).name)
    → next.events ≡ now.events → next.out ≡ now.out
    → SoFar meaning work false first next last known
    (IsGoing known nodes run.anything jobs failure)
so_far-removes meaning work known nodes jobs failure n last first now next so call events out =
    so_far-called meaning work false first now next last last known known
    (IsFailing known nodes jobs failure (remove n)) (IsGoing known nodes run.anything jobs failure)
    (GoneItem n (node_at work.plan n).name) so call
    (rw call.is_own.1 tt) (rw call.is_own.1 (events ∙ sym (append-none now.events)))
    (λ tasks has. has)
    (λ tasks build has is. rw call.is_own.1
    (go_on-removes work known nodes jobs failure n call.is_own.0 tasks build is))
    (λ tasks build has is. rw call.is_own.1
    (silent work tasks now next last (changes n (gone (node_at work.plan n).name call.is_own.0) ∷ []) out refl
    (λ outputs p. refl)))

-- a build whose job has failed
abbrev pub FailingAt : Meaning → Work → Option History → Course → Job → ℕ → Moment
    → Option (List ℕ) → Type 0
FailingAt meaning work history course job status first out =
    (known : Known) × AreUnknown known course.sched.nodes
    × SoFar meaning work false first (moment history out course.events.items) course.last_shown known
    (IsFailing known (set course.sched.nodes job.node Failed) course.jobs.items
    (or_next course.failure (Some (JobFailed job.node job.number status)))
    (if is_removed work job.node then remove job.node else free))

pub failing-at : (meaning : Meaning) (work : Work) (history : Option History) (course : Course)
    (job : Job) (status : ℕ) (first : Moment) (out : Option (List ℕ))
    → run.fails (run.line_of job.task.lines job.number) status ≡ true
    → EndingAt meaning work history course job status first out
    → FailingAt meaning work history course job status first out
failing-at meaning work history course job status first out fails at = (
  at.0,
  at.1,
  subst (λ b. SoFar meaning work false first (moment history out course.events.items) course.last_shown at.0
      (IsEnding work at.0 course.sched.nodes course.jobs.items course.failure job.node job.task.lines
      job.collected job.number status b (nat_le (length job.task.lines) job.number)
      (is_stopped (rules_of work) course.sched.nodes)))
      fails at.2,
)

-- a build with another schedule, other events and another failure
abbrev pub GoingAs : Meaning → Work → Option History → Course → Schedule → List Event
    → Option Failure → Moment → Option (List ℕ) → Type 0
GoingAs meaning work history course schedule events failure first out =
    (known : Known) × AreUnknown known schedule.nodes
    × SoFar meaning work false first (moment history out events) course.last_shown known
    (IsGoing known schedule.nodes run.anything course.jobs.items failure)

-- behind the failure of a job, whose target was removed or not
pub going-removed : (meaning : Meaning) (work : Work) (history later : Option History)
    (course : Course) (schedule : Schedule) (failure : Option Failure) (job : Job) (status : ℕ)
    (first : Moment) (out : Option (List ℕ))
    → get_or course.sched.nodes job.node Undecided ≡ Open
    → run.fails (run.line_of job.task.lines job.number) status ≡ true
    → schedule ≡ with_node course.sched job.node Failed
    → failure ≡ or_next course.failure (Some (JobFailed job.node job.number status))
    → is_removed work job.node ≡ true
    → Called meaning history later (GoneItem job.node (node_at work.plan job.node).name)
    → EndingAt meaning work history course job status first out
    → GoingAs meaning work later course schedule course.events.items failure first out
going-removed meaning work history later course schedule failure job status first out token fails
    schedule_is failure_is doomed call at =
    let f = failing-at meaning work history course job status first out fails at in
    let within = open_within course.sched.nodes job.node token in
    rw (schedule_is, failure_is) (
      f.0,
      unknown-set f.0 course.sched.nodes job.node Failed within (λ is. cc) f.1,
      so_far-removes meaning work f.0 (set course.sched.nodes job.node Failed) course.jobs.items
          (or_next course.failure (Some (JobFailed job.node job.number status))) job.node
          course.last_shown first (moment history out course.events.items)
          (moment later out course.events.items) (rw doomed at f.2) call refl refl,
    )

pub going-failed_at : (meaning : Meaning) (work : Work) (history : Option History)
    (course : Course) (schedule : Schedule) (failure : Option Failure) (job : Job) (status : ℕ)
    (first : Moment) (out : Option (List ℕ))
    → get_or course.sched.nodes job.node Undecided ≡ Open
    → run.fails (run.line_of job.task.lines job.number) status ≡ true
    → schedule ≡ with_node course.sched job.node Failed
    → failure ≡ or_next course.failure (Some (JobFailed job.node job.number status))
    → is_removed work job.node ≡ false
    → EndingAt meaning work history course job status first out
    → GoingAs meaning work history course schedule course.events.items failure first out
going-failed_at meaning work history course schedule failure job status first out token fails
    schedule_is failure_is doomed at =
    let f = failing-at meaning work history course job status first out fails at in
    let within = open_within course.sched.nodes job.node token in
    rw (schedule_is, failure_is) (
      f.0,
      unknown-set f.0 course.sched.nodes job.node Failed within (λ is. cc) f.1,
      rw doomed at f.2,
    )

-- the removal was refused
pub halted-removing : (meaning : Meaning) (work : Work) (halt : Halt)
    (history later : Option History) (course : Course) (job : Job) (status : ℕ) (first : Moment)
    (out : Option (List ℕ)) → Called meaning history later NoItem
    → EndingAt meaning work history course job status first out
    → HaltedAt meaning work halt later course.events.items first out
halted-removing meaning work halt history later course job status first out call at =
    halted meaning work halt first later out course.events.items course.last_shown at.0 _
    (so_far-nothing meaning work first (moment history out course.events.items)
    (moment later out course.events.items) course.last_shown at.0 _ at.2 call refl refl)

-- a job is cut off by the failure of another one
pub going-cut_off : (meaning : Meaning) (work : Work) (history : Option History)
    (course : Course) (schedule : Schedule) (job : Job) (status : ℕ)
    (first : Moment) (out : Option (List ℕ))
    → get_or course.sched.nodes job.node Undecided ≡ Open
    → run.fails (run.line_of job.task.lines job.number) status ≡ false
    → nat_le (length job.task.lines) job.number ≡ false
    → is_stopped (rules_of work) course.sched.nodes ≡ true
    → schedule ≡ with_node course.sched job.node Settled
    → EndingAt meaning work history course job status first out
    → GoingAs meaning work history course schedule course.events.items course.failure first out
going-cut_off meaning work history course schedule job status first out token fails last stopped
    schedule_is at =
    let within = open_within course.sched.nodes job.node token in
    let so : SoFar meaning work false first (moment history out course.events.items) course.last_shown at.0
    (IsEnding work at.0 course.sched.nodes course.jobs.items course.failure job.node job.task.lines
    job.collected job.number status false false true) = rw (fails, last, stopped) at at.2 in
    rw schedule_is (
      at.0,
      unknown-set at.0 course.sched.nodes job.node Settled within (λ is. cc) at.1,
      so,
    )

-- its last line has ended well
pub over-ended : (meaning : Meaning) (work : Work) (history : Option History)
    (course : Course) (job : Job) (status : ℕ) (first : Moment) (out : Option (List ℕ))
    → run.fails (run.line_of job.task.lines job.number) status ≡ false
    → nat_le (length job.task.lines) job.number ≡ true
    → EndingAt meaning work history course job status first out
    → OverAt meaning work history course job first out
over-ended meaning work history course job status first out fails last at =
    let so : SoFar meaning work false first (moment history out course.events.items) course.last_shown at.0
    (IsEnding work at.0 course.sched.nodes course.jobs.items course.failure job.node job.task.lines
    job.collected job.number status false true (is_stopped (rules_of work) course.sched.nodes)) =
    rw (fails, last) at at.2 in
    (at.0, at.1, so)

-- or its next line follows
pub behind-ended : (meaning : Meaning) (work : Work) (history : Option History)
    (course : Course) (job : Job) (status : ℕ) (first : Moment) (out : Option (List ℕ))
    → run.fails (run.line_of job.task.lines job.number) status ≡ false
    → nat_le (length job.task.lines) job.number ≡ false
    → is_stopped (rules_of work) course.sched.nodes ≡ false
    → job.number < length job.task.lines
    → EndingAt meaning work history course job status first out
    → BehindAt meaning work history course course.events.items job first out
behind-ended meaning work history course job status first out fails last stopped more at =
    let so : SoFar meaning work false first (moment history out course.events.items) course.last_shown at.0
    (IsEnding work at.0 course.sched.nodes course.jobs.items course.failure job.node job.task.lines
    job.collected job.number status false false false) = rw (fails, last, stopped) at at.2 in (
      at.0,
      at.1,
      so_far-weaken meaning work false first (moment history out course.events.items) course.last_shown at.0
          at.0 _ _ so (λ tasks has. has)
          (λ tasks build has is. ((λ more. is), (λ none. absurd (not_both more none)))),
    )
  where
    not_both : job.number < length job.task.lines → length job.task.lines ≤ job.number → ⊥
    not_both more none = omega (arith, more, none)

-- behind its last line the job is over
pub over-behind : (meaning : Meaning) (work : Work) (history : Option History)
    (course : Course) (events : List Event) (job : Job) (done : ℕ) (first : Moment)
    (out : Option (List ℕ)) → length job.task.lines ≤ done
    → BehindOn meaning work history course events job.node job.task.lines job.collected done first out
    → OverOn meaning work history course events job first out
over-behind meaning work history course events job done first out none at = (
  at.0,
  at.1,
  so_far-weaken meaning work false first (moment history out events) course.last_shown at.0 at.0 _ _
      at.2 (λ tasks has. has) (λ tasks build has is. is.1 none),
)

-- the time of the target of a job was asked
so_far-dated : (meaning : Meaning) (work : Work) (known : Known) (nodes : List NodeState)
    (jobs : List Job) (failure : Option Failure) (job : Job) (last : Option ℕ) (first now next : Moment)
    → get_or nodes job.node Undecided ≡ Settled
    → SoFar meaning work false first now last known
    (IsClosing work known nodes jobs failure job.node job.task.lines job.collected)
    → (asked : DateAsked meaning work now.history next.history job.node)
    → next.events ≡ now.events → next.out ≡ now.out
    → SoFar meaning work false first next last known
    (IsDated work known nodes jobs failure job.node job.task.lines job.collected asked.when)
so_far-dated meaning work known nodes jobs failure job last first now next settled so asked events out =
    let call = asked.call in
    let n = job.node in
    so_far-called meaning work false first now next last last known known
    (IsClosing work known nodes jobs failure n job.task.lines job.collected)
    (IsDated work known nodes jobs failure n job.task.lines job.collected asked.when)
    (LookItem n (dated (record { path = (node_at work.plan n).name; when = asked.when }))) so call
    (rw call.is_own tt) (rw call.is_own (events ∙ sym (append-none now.events))) (λ tasks has. has)
    (λ tasks build has is. rw call.is_own (go_on-dates work known nodes jobs failure n job.task.lines
    job.collected asked.when tasks build settled asked.in_meta is))
    (λ tasks build has is. rw call.is_own (silent work tasks now next last
    (looks n (dated (record { path = (node_at work.plan n).name; when = asked.when })) ∷ []) out refl
    (λ outputs p. refl)))

-- its whole meta file was written
so_far-whole : (meaning : Meaning) (work : Work) (known : Known) (nodes : List NodeState)
    (jobs : List Job) (failure : Option Failure) (job : Job) (last : Option ℕ) (first now next : Moment)
    (when : When) (time : ℕ) → IsCountable job.collected → length job.task.lines < 2 ^ 32
    → AreExports work.mode.exports → raised 0 when < time
    → SoFar meaning work false first now last known
    (IsDated work known nodes jobs failure job.node job.task.lines job.collected when)
    → Called meaning now.history next.history (ChangeItem job.node
    (whole (whole_path work job.node) (whole_bytes work job.node job.task.lines job.collected) time))
    → next.events ≡ now.events → next.out ≡ now.out
    → SoFar meaning work false first next last known (IsGoing known nodes run.anything jobs failure)
so_far-whole meaning work known nodes jobs failure job last first now next when time countable few exports later so
    call events out =
    let n = job.node in
    let change = whole (whole_path work n) (whole_bytes work n job.task.lines job.collected) time in
    so_far-called meaning work false first now next last last known known
    (IsDated work known nodes jobs failure n job.task.lines job.collected when)
    (IsGoing known nodes run.anything jobs failure) (ChangeItem n change) so call
    (rw call.is_own tt) (rw call.is_own (events ∙ sym (append-none now.events))) (λ tasks has. has)
    (λ tasks build has is. rw call.is_own (go_on-whole work known nodes jobs failure n job.task.lines
    job.collected when time tasks build has countable few exports later is))
    (λ tasks build has is. rw call.is_own (silent work tasks now next last (changes n change ∷ []) out refl
    (λ outputs p. refl)))

-- or a part of it stands, and the outside has ended the build
so_far-cut_whole : (meaning : Meaning) (work : Work) (known : Known) (nodes : List NodeState)
    (jobs : List Job) (failure : Option Failure) (job : Job) (last : Option ℕ) (first now next : Moment)
    (when : When) → IsCountable job.collected → length job.task.lines < 2 ^ 32
    → AreExports work.mode.exports
    → SoFar meaning work false first now last known
    (IsDated work known nodes jobs failure job.node job.task.lines job.collected when)
    → Called meaning now.history next.history (PartItem job.node
    (λ part time. cut_whole (whole_path work job.node) part time)
    (whole_bytes work job.node job.task.lines job.collected))
    → next.events ≡ now.events → next.out ≡ now.out
    → SoFar meaning work false first next last known (λ tasks build. Unit {0})
so_far-cut_whole meaning work known nodes jobs failure job last first now next when countable few exports so call
    events out =
    so_far-called meaning work false first now next last last known known
    (IsDated work known nodes jobs failure job.node job.task.lines job.collected when)
    (λ tasks build. Unit {0}) Part so call (stay call.own call.is_own) (events ∙ told call.own call.is_own) (λ tasks has. has)
    (λ tasks build has is. goes tasks build has is call.own call.is_own)
    (λ tasks build has is. quiet tasks call.own call.is_own)
  where
    Part : List Item → Type 0
    Part = PartItem job.node (λ part time. cut_whole (whole_path work job.node) part time)
        (whole_bytes work job.node job.task.lines job.collected)

    stay : (own : List Item) → Part own → NoneLeft own
    stay own (inl none) = rw none tt
    stay own (inr is) = rw is.3 tt

    told : (own : List Item) → Part own → now.events ≡ now.events ++ reported_all own
    told own (inl none) = rw none (sym (append-none now.events))
    told own (inr is) = rw is.3 (sym (append-none now.events))

    goes : (tasks : run.Tasks) (build : Build) → HasTasks tasks known
        → IsDated work known nodes jobs failure job.node job.task.lines job.collected when tasks build
        → (own : List Item) → Part own → GoesOn work tasks build own (λ tasks build. Unit {0})
    goes tasks build has is own (inl none) = rw none (record { makes = tt; stands = tt })
    goes tasks build has is own (inr cut) = rw cut.3 (go_on-cut_whole work known nodes jobs failure job.node
        job.task.lines job.collected when cut.0 cut.1 tasks build has countable few exports is cut.2)

    quiet : (tasks : run.Tasks) (own : List Item) → Part own
        → PrintsOwn work tasks false now next last last own
    quiet tasks own (inl none) = rw none (silent work tasks now next last [] out refl (λ outputs p. refl))
    quiet tasks own (inr cut) = rw cut.3 (silent work tasks now next last
        (changes job.node (cut_whole (whole_path work job.node) cut.0 cut.1) ∷ []) out refl
        (λ outputs p. refl))

-- a job was closed
pub going-closed : (meaning : Meaning) (work : Work) (history later : Option History)
    (course : Course) (schedule : Schedule) (job : Job) (first : Moment) (out : Option (List ℕ))
    → get_or course.sched.nodes job.node Undecided ≡ Open
    → schedule ≡ with_node course.sched job.node Settled
    → HasClosed meaning work history later job
    → OverAt meaning work history course job first out
    → GoingAs meaning work later course schedule course.events.items course.failure first out
going-closed meaning work history later course schedule job first out token schedule_is closed at =
    let within = open_within course.sched.nodes job.node token in
    rw schedule_is (
      at.0,
      unknown-set at.0 course.sched.nodes job.node Settled within (λ is. cc) at.1,
      by closed,
    )
  where
    nodes : List NodeState
    nodes = set course.sched.nodes job.node Settled

    settled : get_or nodes job.node Undecided ≡ Settled
    settled = get_or-set_same course.sched.nodes job.node Settled Undecided
        (open_within course.sched.nodes job.node token)

    by : HasClosed meaning work history later job
        → SoFar meaning work false first (moment later out course.events.items) course.last_shown at.0
        (IsGoing at.0 nodes run.anything course.jobs.items course.failure)
    by (inl written) =
        so_far-whole meaning work at.0 nodes course.jobs.items course.failure job course.last_shown
        first (moment written.between out course.events.items) (moment later out course.events.items)
        written.asked.when written.writes.time written.countable written.few written.exports
        (less-behind _ written.newest written.writes.time written.told written.writes.later) (so_far-dated meaning work at.0 nodes course.jobs.items course.failure job course.last_shown first
        (moment history out course.events.items) (moment written.between out course.events.items) settled at.2
        written.asked refl refl) written.writes.call refl refl
    by (inr plain) =
        so_far-weaken meaning work false first (moment later out course.events.items) course.last_shown at.0 at.0
        _ _
        (so_far-nothing meaning work first (moment history out course.events.items)
        (moment later out course.events.items) course.last_shown at.0 _ at.2 plain.call refl refl)
        (λ tasks has. has)
        (λ tasks build has is. closed-plain work at.0 nodes course.jobs.items course.failure
        job.node job.task.lines job.collected tasks build plain.no_meta is)

-- or it was not
pub halted-closing : (meaning : Meaning) (work : Work) (halt : Halt) (history later : Option History)
    (course : Course) (job : Job) (first : Moment) (out : Option (List ℕ))
    → get_or course.sched.nodes job.node Undecided ≡ Open
    → IsUnclosed meaning work history later job
    → OverAt meaning work history course job first out
    → HaltedAt meaning work halt later course.events.items first out
halted-closing meaning work halt history later course job first out token (inl none) at =
    halted meaning work halt first later out course.events.items course.last_shown at.0 _
    (so_far-nothing meaning work first (moment history out course.events.items)
    (moment later out course.events.items) course.last_shown at.0 _ at.2 none refl refl)
halted-closing meaning work halt history later course job first out token (inr part) at =
    let within = open_within course.sched.nodes job.node token in
    let nodes = set course.sched.nodes job.node Settled in
    let settled = get_or-set_same course.sched.nodes job.node Settled Undecided within in
    halted meaning work halt first later out course.events.items course.last_shown at.0 _
    (so_far-cut_whole meaning work at.0 nodes course.jobs.items course.failure job
    course.last_shown first (moment part.between out course.events.items) (moment later out course.events.items)
    part.asked.when part.countable part.few part.exports (so_far-dated meaning work at.0 nodes course.jobs.items course.failure job course.last_shown first
    (moment history out course.events.items) (moment part.between out course.events.items) settled at.2 part.asked
    refl refl) part.call refl refl)

-- the child of a line was started
pub going-started : (meaning : Meaning) (work : Work) (history later : Option History)
    (course : Course) (events : List Event) (jobs : List Job) (job : Job) (one : TaskLine)
    (cmd : Cmd) (first : Moment) (out : Option (List ℕ))
    → HasToken course.sched.nodes course.jobs.items job.node
    → HasLine job.task.lines job.number one → cmd ≡ command_of work one
    → Called meaning history later (StartItem job.node job.number job.ticket job.collected.owner cmd)
    → events ≡ course.events.items ++ event.Start job.node job.number ∷ []
    → jobs ≡ course.jobs.items ++ job ∷ []
    → BehindOn meaning work history course course.events.items job.node job.task.lines job.collected
    (job.number - 1) first out
    → (known : Known) × AreUnknown known course.sched.nodes
    × SoFar meaning work false first (moment later out events) course.last_shown known
    (IsGoing known course.sched.nodes run.anything jobs course.failure)
going-started meaning work history later course events jobs job one cmd first out token has_line command
    call told jobs_are at = (
      at.0,
      at.1,
      rw jobs_are (so_far-starts meaning work at.0 course.sched.nodes course.jobs.items course.failure job
          one cmd course.last_shown first (moment history out course.events.items) (moment later out events) at.2
          token has_line command call told refl),
    )

pub not-last : (lines number : ℕ) → nat_le lines number ≡ false → number < lines
not-last lines number is = grind (arith, nat_tests)

-- what is known where the end of a job is waited for
pub wait-facts : (rules : Rules) (schedule : Schedule) (jobs : List Job)
    (failure : Option Failure) (tickets : List ℕ) (room : ℕ)
    → FitsTogether rules schedule jobs failure tickets room 0 → next_of schedule ≡ Wait
    → (may_decide rules schedule.nodes ≡ None) × (0 < open_jobs schedule.nodes) × (0 < length tickets)
wait-facts rules schedule jobs failure tickets room fits next =
    let is = next-waits (may_decide schedule.rules schedule.nodes) (open_jobs schedule.nodes) next in
    let tokens : length jobs + 0 ≡ open_jobs schedule.nodes = fits.told.tokens_are in
    let long = fits.as_long in
    let some = is.1 in (
      subst (λ (r : Rules). may_decide r schedule.nodes ≡ None) fits.rules_are is.0,
      some,
      omega (arith, tokens, long, some),
    )

-- a node that has a token is one of the plan's
pub within-plan : (work : Work) (schedule : Schedule) (jobs : List Job)
    (failure : Option Failure) (tickets : List ℕ) (room others n : ℕ)
    → FitsTogether (rules_of work) schedule jobs failure tickets room others
    → n < length schedule.nodes → n < length work.plan
within-plan work schedule jobs failure tickets room others n fits within =
    let long : length schedule.nodes ≡ length work.plan =
    fits.told.as_many ∙ length-predecessors work.plan in
    rw (← long) within
