-- Jobs that are taken out, and jobs that are added.
use Rattle.std.proofs.Common.{◌≡◌, ◌≢◌, ◌∙◌, ℕ, zero, suc, ◌+◌, ◌-◌, ◌<◌, ◌==◌, ◌&&◌, not, List, [], ◌∷◌, ◌++◌, length, get_or, set, Option, Some, None, Bool, true, if◌then◌else◌}
use Rattle.std.proofs.Common.{refl, sym, ap, subst, arith}
use Rattle.std.proofs.lemmas.Bool.Decides.{nat_tests}
use Rattle.std.proofs.lemmas.Grind.{common_steps}
use Rattle.std.proofs.lemmas.List.{get_or-set_same, get_or-set_other}
use Rattle.mk_plan.specs.Deciding.{Rules, is_stopped}
use Rattle.mk_plan.specs.declared.plan.NodeState.{NodeState}
use Rattle.mk_plan.specs.declared.plan.NodeState.TheVariants.{Undecided, Open, Settled, Failed}
use Rattle.mk_sched.specs.Counts.{times}
use Rattle.mk_sched.specs.Kept.{AreTold}
use Rattle.mk_sched.specs.Next.{next_of}
use Rattle.mk_sched.specs.Schedule.{Schedule, with_node}
use Rattle.mk_sched.specs.declared.sched.Next.TheVariants.{Decide}
use Rattle.mk_sched.proofs.DecideLemmas.{decided, told_undecided, told_refused, told_settled, told_failed}
use Rattle.mk_world.specs.Calls.{TakenOut}
use Rattle.mk_world.specs.declared.command.TaskLine.{TaskLine}
use Rattle.mk_trace.specs.Builds.{or_next}
use Rattle.mk_driver.specs.Jobs.{AreApart, AreOpenJobs, FitsTogether, HasLine, HasToken, IsJobTaken, IsOpenJob, is_there, lines_left, tickets_of}
use Rattle.mk_driver.specs.declared.job.Job.{Job}
use Rattle.mk_trace.specs.declared.result.Failure.{Failure}

apart-take : (node : ℕ) (front back : List Job) (job : Job) → AreApart node (front ++ job ∷ back)
    → (job.node ≢ node) × AreApart node (front ++ back)
apart-take node [] back job are = are
apart-take node (first ∷ front) back job are =
    let more = apart-take node front back job are.1 in (more.0, (are.0, more.1))

pub open-take : (nodes : List NodeState) (front back : List Job) (job : Job)
    → AreOpenJobs nodes (front ++ job ∷ back)
    → IsOpenJob nodes job × AreApart job.node (front ++ back) × AreOpenJobs nodes (front ++ back)
open-take nodes [] back job are = are
open-take nodes (first ∷ front) back job are =
    let more = open-take nodes front back job are.2 in
    let apart = apart-take first.node front back job are.1 in (
      more.0,
      ((λ is. apart.0 (sym is)), more.1),
      (are.0, apart.1, more.2),
    )

-- a change of another node leaves jobs open
pub open-set : (nodes : List NodeState) (node : ℕ) (state : NodeState) (jobs : List Job)
    → AreOpenJobs nodes jobs → AreApart node jobs → AreOpenJobs (set nodes node state) jobs
open-set nodes node state [] are apart = tt
open-set nodes node state (job ∷ jobs) are apart = (
  record {
    open_now = get_or-set_other nodes node job.node state Undecided apart.0 ∙ are.0.open_now;
    one = are.0.one;
    has = are.0.has;
  },
  are.1,
  open-set nodes node state jobs are.2 apart.1,
)

apart-add : (node : ℕ) (jobs : List Job) (job : Job) → AreApart node jobs → job.node ≢ node
    → AreApart node (jobs ++ job ∷ [])
apart-add node [] job apart other = (other, tt)
apart-add node (first ∷ jobs) job apart other = (apart.0, apart-add node jobs job apart.1 other)

pub open-add : (nodes : List NodeState) (jobs : List Job) (job : Job) → AreOpenJobs nodes jobs
    → IsOpenJob nodes job → AreApart job.node jobs → AreOpenJobs nodes (jobs ++ job ∷ [])
open-add nodes [] job are is apart = (is, tt, tt)
open-add nodes (first ∷ jobs) job are is apart = (
  are.0,
  apart-add first.node jobs job are.1 (λ same. apart.0 (sym same)),
  open-add nodes jobs job are.2 is apart.1,
)

-- a node that is not open has no job
pub apart-open : (nodes : List NodeState) (node : ℕ) (jobs : List Job) → AreOpenJobs nodes jobs
    → (get_or nodes node Undecided ≡ Open → ⊥) → AreApart node jobs
apart-open nodes node [] are other = tt
apart-open nodes node (job ∷ jobs) are other = (
  (λ is. other (subst (λ k. get_or nodes k Undecided ≡ Open) is are.0.open_now)),
  apart-open nodes node jobs are.2 other,
)

-- tickets

pub times-take : (one : ℕ) (front back : List ℕ) (ticket : ℕ)
    → times one (front ++ ticket ∷ back) ≡ (if ticket == one then 1 else 0) + times one (front ++ back)
times-take one [] back ticket = refl
times-take one (first ∷ front) back ticket =
    let more = times-take one front back ticket in omega (arith, more)

pub times-add : (one : ℕ) (tickets : List ℕ) (ticket : ℕ)
    → times one (tickets ++ ticket ∷ []) ≡ times one tickets + (if ticket == one then 1 else 0)
times-add one [] ticket = omega arith
times-add one (first ∷ tickets) ticket =
    let more = times-add one tickets ticket in omega (arith, more)

tickets-take : (one : ℕ) (front back : List Job) (job : Job)
    → times one (tickets_of (front ++ job ∷ back))
    ≡ (if job.ticket == one then 1 else 0) + times one (tickets_of (front ++ back))
tickets-take one [] back job = refl
tickets-take one (first ∷ front) back job =
    let more = tickets-take one front back job in omega (arith, more)

tickets-add : (one : ℕ) (jobs : List Job) (job : Job)
    → times one (tickets_of (jobs ++ job ∷ []))
    ≡ times one (tickets_of jobs) + (if job.ticket == one then 1 else 0)
tickets-add one [] job = omega arith
tickets-add one (first ∷ jobs) job =
    let more = tickets-add one jobs job in omega (arith, more)

same_ticket : (ticket : ℕ) → (ticket == ticket) ≡ true
same_ticket ticket = grind (arith, nat_tests, common_steps)

-- a ticket that was taken out stood there
pub some-taken : (ticket : ℕ) (old new : List ℕ) → TakenOut ticket old new → 0 < times ticket old
some-taken ticket old new out =
    let all = times-take ticket out.front out.back ticket in
    rw (out.was, all, same_ticket ticket) (omega arith)

length-take : {A : Type 0} (front back : List A) (one : A)
    → length (front ++ one ∷ back) ≡ length (front ++ back) + 1
length-take [] back one = omega arith
length-take (first ∷ front) back one = let more = length-take front back one in omega (arith, more)

length-add : {A : Type 0} (all : List A) (one : A) → length (all ++ one ∷ []) ≡ length all + 1
length-add [] one = refl
length-add (first ∷ all) one = let more = length-add all one in omega (arith, more)

-- lines that are left

left-take : (front back : List Job) (job : Job)
    → lines_left (front ++ job ∷ back)
    ≡ (1 + length job.task.lines - job.number) + lines_left (front ++ back)
left-take [] back job = refl
left-take (first ∷ front) back job =
    let more = left-take front back job in omega (arith, more)

pub left-add : (jobs : List Job) (job : Job)
    → lines_left (jobs ++ job ∷ []) ≡ lines_left jobs + (1 + length job.task.lines - job.number)
left-add [] job = omega arith
left-add (first ∷ jobs) job = let more = left-add jobs job in omega (arith, more)

pub left-taken : (ticket : ℕ) (old new : List Job) (job : Job) → IsJobTaken ticket old job new
    → lines_left old ≡ (1 + length job.task.lines - job.number) + lines_left new
left-taken ticket old new job out =
    ap lines_left out.was ∙ (left-take out.front out.back job
    ∙ ap (λ l. (1 + length job.task.lines - job.number) + lines_left l) (sym out.now))

-- what fits together, when something changes

-- the job of a child that was taken in
pub record IsOut (rules : Rules) (schedule : Schedule) (jobs : List Job) (failure : Option Failure)
    (tickets : List ℕ) (room : ℕ) (job : Job) : Type 0
  where
    pub fits : FitsTogether rules schedule jobs failure tickets room 1
    pub token : HasToken schedule.nodes jobs job.node
    pub one : TaskLine
    pub has : HasLine job.task.lines job.number one

told-others : (before : List (List ℕ)) (nodes : List NodeState) (tokens now : ℕ) (failed : Bool)
    → tokens ≡ now → AreTold before nodes tokens failed → AreTold before nodes now failed
told-others before nodes tokens now failed is told =
    subst (λ k. AreTold before nodes k failed) is told

pub fits-taken : (rules : Rules) (schedule : Schedule) (jobs left : List Job)
    (failure : Option Failure) (tickets now : List ℕ) (room ticket : ℕ) (job : Job)
    → FitsTogether rules schedule jobs failure tickets room 0 → IsJobTaken ticket jobs job left
    → TakenOut ticket tickets now → IsOut rules schedule left failure now room job
fits-taken rules schedule jobs left failure tickets now room ticket job fits out held =
    let parts = open-take schedule.nodes out.front out.back job
    (subst (AreOpenJobs schedule.nodes) out.was fits.jobs_are) in
    let long : length jobs ≡ length left + 1 =
    rw (out.was, out.now) (length-take out.front out.back job) in
    let long_now : length tickets ≡ length now + 1 =
    rw (held.was, held.now) (length-take held.front held.back ticket) in
    record {
      fits = record {
        rules_are = fits.rules_are;
        told = told-others rules.before schedule.nodes (length jobs + 0) (length left + 1)
            (is_there failure) (omega (arith, long)) fits.told;
        jobs_are = rw out.now parts.2;
        tickets_are = λ one.
            let before = fits.tickets_are one in
            let mine : times one (tickets_of jobs)
            ≡ (if ticket == one then 1 else 0) + times one (tickets_of left) =
            subst (λ k. times one (tickets_of jobs)
            ≡ (if k == one then 1 else 0) + times one (tickets_of left)) out.ticket_is
            (rw (out.was, out.now) (tickets-take one out.front out.back job)) in
            let theirs : times one tickets
            ≡ (if ticket == one then 1 else 0) + times one now =
            rw (held.was, held.now) (times-take one held.front held.back ticket) in
            omega (arith, before, mine, theirs);
        as_long = let all = fits.as_long in omega (arith, all, long, long_now);
        room_is = fits.room_is;
        few = fits.few;
        within = let all = fits.within in omega (arith, all, long);
      };
      token = record { open_now = parts.0.open_now; apart = rw out.now parts.1 };
      one = parts.0.one;
      has = parts.0.has;
    }

-- the child of a line was started for a node that has a token
pub fits-started : (rules : Rules) (schedule : Schedule) (jobs now_jobs : List Job)
    (failure : Option Failure) (tickets now : List ℕ) (room : ℕ) (job : Job) (one : TaskLine)
    → FitsTogether rules schedule jobs failure tickets room 1
    → HasToken schedule.nodes jobs job.node → HasLine job.task.lines job.number one
    → now_jobs ≡ jobs ++ job ∷ [] → now ≡ tickets ++ job.ticket ∷ []
    → FitsTogether rules schedule now_jobs failure now room 0
fits-started rules schedule jobs now_jobs failure tickets now room job one fits token has jobs_are now_is =
    let long : length now_jobs ≡ length jobs + 1 = rw jobs_are (length-add jobs job) in
    let long_now : length now ≡ length tickets + 1 = rw now_is (length-add tickets job.ticket) in
    record {
      rules_are = fits.rules_are;
      told = told-others rules.before schedule.nodes (length jobs + 1) (length now_jobs + 0)
          (is_there failure) (omega (arith, long)) fits.told;
      jobs_are = rw jobs_are (open-add schedule.nodes jobs job fits.jobs_are
          (record { open_now = token.open_now; one = one; has = has }) token.apart);
      tickets_are = λ other.
          let before = fits.tickets_are other in
          let mine : times other (tickets_of now_jobs)
          ≡ times other (tickets_of jobs) + (if job.ticket == other then 1 else 0) =
          rw jobs_are (tickets-add other jobs job) in
          let theirs : times other now
          ≡ times other tickets + (if job.ticket == other then 1 else 0) =
          rw now_is (times-add other tickets job.ticket) in
          omega (arith, before, mine, theirs);
      as_long = let all = fits.as_long in omega (arith, all, long, long_now);
      room_is = fits.room_is;
      few = fits.few;
      within = let all = fits.within in omega (arith, all, long);
    }

less_one : (jobs : ℕ) → jobs + 1 - 1 ≡ jobs + 0
less_one jobs = omega arith

-- a node that has a token is settled
pub fits-settled : (rules : Rules) (schedule : Schedule) (jobs : List Job) (failure : Option Failure)
    (tickets : List ℕ) (room node : ℕ) → FitsTogether rules schedule jobs failure tickets room 1
    → HasToken schedule.nodes jobs node
    → FitsTogether rules (with_node schedule node Settled) jobs failure tickets room 0
fits-settled rules schedule jobs failure tickets room node fits token = record {
  rules_are = fits.rules_are;
  told = told-others rules.before (set schedule.nodes node Settled) (length jobs + 1 - 1)
      (length jobs + 0) (is_there failure) (less_one (length jobs))
      (told_settled rules.before schedule.nodes (length jobs + 1) (is_there failure) node fits.told
      token.open_now);
  jobs_are = open-set schedule.nodes node Settled jobs fits.jobs_are token.apart;
  tickets_are = fits.tickets_are;
  as_long = fits.as_long;
  room_is = fits.room_is;
  few = fits.few;
  within = let all = fits.within in omega (arith, all);
}

there-next : (failure : Option Failure) (next : Failure) → true ≡ is_there (or_next failure (Some next))
there-next None next = refl
there-next (Some one) next = refl

-- or it fails
pub fits-failed : (rules : Rules) (schedule : Schedule) (jobs : List Job) (failure : Option Failure)
    (next : Failure) (tickets : List ℕ) (room node : ℕ)
    → FitsTogether rules schedule jobs failure tickets room 1 → HasToken schedule.nodes jobs node
    → FitsTogether rules (with_node schedule node Failed) jobs (or_next failure (Some next)) tickets
    room 0
fits-failed rules schedule jobs failure next tickets room node fits token = record {
  rules_are = fits.rules_are;
  told = subst (AreTold rules.before (set schedule.nodes node Failed) (length jobs + 0))
      (there-next failure next)
      (told-others rules.before (set schedule.nodes node Failed) (length jobs + 1 - 1)
      (length jobs + 0) true (less_one (length jobs))
      (told_failed rules.before schedule.nodes (length jobs + 1) (is_there failure) node fits.told
      token.open_now));
  jobs_are = open-set schedule.nodes node Failed jobs fits.jobs_are token.apart;
  tickets_are = fits.tickets_are;
  as_long = fits.as_long;
  room_is = fits.room_is;
  few = fits.few;
  within = let all = fits.within in omega (arith, all);
}

-- an undecided node is not open
pub undecided-closed : (nodes : List NodeState) (node : ℕ) → get_or nodes node Failed ≡ Undecided
    → get_or nodes node Undecided ≡ Open → ⊥
undecided-closed [] node was is = cc
undecided-closed (state ∷ nodes) zero was is = cc
undecided-closed (state ∷ nodes) (suc node) was is = undecided-closed nodes node was is

-- the next node is settled at once
pub fits-kept : (rules : Rules) (schedule : Schedule) (jobs : List Job) (failure : Option Failure)
    (tickets : List ℕ) (room node : ℕ) → FitsTogether rules schedule jobs failure tickets room 0
    → next_of schedule ≡ Decide node
    → FitsTogether rules (with_node schedule node Settled) jobs failure tickets room 0
fits-kept rules schedule jobs failure tickets room node fits next =
    let d = decided schedule node next in
    record {
      rules_are = fits.rules_are;
      told = told_undecided rules.before schedule.nodes (length jobs + 0) (is_there failure) node
          Settled fits.told d.within d.undecided refl (length jobs + 0) (omega arith);
      jobs_are = open-set schedule.nodes node Settled jobs fits.jobs_are
          (apart-open schedule.nodes node jobs fits.jobs_are
          (undecided-closed schedule.nodes node d.undecided));
      tickets_are = fits.tickets_are;
      as_long = fits.as_long;
      room_is = fits.room_is;
      few = fits.few;
      within = fits.within;
    }

-- or refused
pub fits-refused : (rules : Rules) (schedule : Schedule) (jobs : List Job) (failure : Option Failure)
    (next_failure : Failure) (tickets : List ℕ) (room node : ℕ)
    → FitsTogether rules schedule jobs failure tickets room 0 → next_of schedule ≡ Decide node
    → FitsTogether rules (with_node schedule node Failed) jobs (or_next failure (Some next_failure))
    tickets room 0
fits-refused rules schedule jobs failure next_failure tickets room node fits next =
    let d = decided schedule node next in
    record {
      rules_are = fits.rules_are;
      told = subst (AreTold rules.before (set schedule.nodes node Failed) (length jobs + 0))
          (there-next failure next_failure)
          (told_refused rules.before schedule.nodes (length jobs + 0) (is_there failure) node fits.told
          d.within d.undecided);
      jobs_are = open-set schedule.nodes node Failed jobs fits.jobs_are
          (apart-open schedule.nodes node jobs fits.jobs_are
          (undecided-closed schedule.nodes node d.undecided));
      tickets_are = fits.tickets_are;
      as_long = fits.as_long;
      room_is = fits.room_is;
      few = fits.few;
      within = fits.within;
    }

-- or gets a token
pub fits-begun : (rules : Rules) (schedule : Schedule) (jobs : List Job) (failure : Option Failure)
    (tickets : List ℕ) (room node : ℕ) → FitsTogether rules schedule jobs failure tickets room 0
    → next_of schedule ≡ Decide node
    → FitsTogether rules (with_node schedule node Open) jobs failure tickets room 1
    × HasToken (set schedule.nodes node Open) jobs node
fits-begun rules schedule jobs failure tickets room node fits next =
    let d = decided schedule node next in
    let apart = apart-open schedule.nodes node jobs fits.jobs_are
    (undecided-closed schedule.nodes node d.undecided) in
    let fewer : length jobs + 0 < rules.jobs =
    subst (λ (r : Rules). length jobs + 0 < r.jobs) fits.rules_are
    (subst (λ k. k < schedule.rules.jobs) (sym fits.told.tokens_are) d.tokens) in (
      record {
        rules_are = fits.rules_are;
        told = told_undecided rules.before schedule.nodes (length jobs + 0) (is_there failure) node
            Open fits.told d.within d.undecided refl (length jobs + 1) (omega arith);
        jobs_are = open-set schedule.nodes node Open jobs fits.jobs_are apart;
        tickets_are = fits.tickets_are;
        as_long = fits.as_long;
        room_is = fits.room_is;
        few = fits.few;
        within = omega (arith, fewer);
      },
      record {
        open_now = get_or-set_same schedule.nodes node Open Undecided d.within;
        apart = apart;
      },
    )

-- whether a failure keeps lines from being started
pub stopped-there : (rules : Rules) (schedule : Schedule) (jobs : List Job)
    (failure : Option Failure) (tickets : List ℕ) (room others : ℕ)
    → FitsTogether rules schedule jobs failure tickets room others
    → (not rules.keep_going && is_there failure) ≡ is_stopped rules schedule.nodes
stopped-there rules schedule jobs failure tickets room others fits =
    ap (λ b. not rules.keep_going && b) fits.told.failed_is
