-- The jobs whose lines run, as the driver keeps them.
use Rattle.std.specs.Prelude.{◌≡◌, ◌≢◌, ℕ, ◌<◌, ◌≤◌, ◌+◌, ◌-◌, nat_le, List, [], ◌∷◌, ◌++◌, length}
use Rattle.std.specs.Prelude.{map, get_or, Option, Some, None, Bool, true, false, if◌then◌else◌}
use Rattle.mk_plan.specs.Deciding.{Rules}
use Rattle.mk_plan.specs.declared.plan.NodeState.{NodeState}
use Rattle.mk_plan.specs.declared.plan.NodeState.TheVariants.{Undecided, Open}
use Rattle.mk_sched.specs.Counts.{times}
use Rattle.mk_sched.specs.Kept.{AreTold}
use Rattle.mk_sched.specs.Schedule.{Schedule}
use Rattle.mk_world.specs.declared.command.TaskLine.{TaskLine}
use Rattle.mk_trace.specs.Runs.{line_of, is_empty}
use Rattle.mk_driver.specs.declared.job.Job.{Job}
use Rattle.mk_trace.specs.declared.result.Failure.{Failure}

abbrev pub tickets_of : List Job → List ℕ
tickets_of jobs = map (λ (job : Job). job.ticket) jobs

-- a job whose child runs under this ticket
abbrev pub with_ticket : Job → ℕ → Job
with_ticket job ticket = record job { ticket = ticket }

-- the line with a child at this number of a task
pub record HasLine (lines : List TaskLine) (number : ℕ) (one : TaskLine) : Type 0 where
  pub line : line_of lines number ≡ Some one
  pub child : is_empty one.text ≡ false
  pub some : 0 < number
  pub within : number ≤ length lines

-- no job is of this node
abbrev pub AreApart : ℕ → List Job → Type 0
AreApart node [] = Unit {0}
AreApart node (job ∷ jobs) = (job.node ≢ node) × AreApart node jobs

-- the node of a job is open, and the line is one with a child
pub record IsOpenJob (nodes : List NodeState) (job : Job) : Type 0 where
  pub open_now : get_or nodes job.node Undecided ≡ Open
  pub one : TaskLine
  pub has : HasLine job.task.lines job.number one

-- all jobs are so, each of a node of its own
abbrev pub AreOpenJobs : List NodeState → List Job → Type 0
AreOpenJobs nodes [] = Unit {0}
AreOpenJobs nodes (job ∷ jobs) =
    IsOpenJob nodes job × AreApart job.node jobs × AreOpenJobs nodes jobs

-- one job was taken out, that of a ticket; the others stay in order
pub record IsJobTaken (ticket : ℕ) (old : List Job) (job : Job) (new : List Job) : Type 0 where
  pub front : List Job
  pub back : List Job
  pub was : old ≡ front ++ job ∷ back
  pub now : new ≡ front ++ back
  pub ticket_is : job.ticket ≡ ticket

-- how many lines are left to jobs, those that run included
abbrev pub lines_left : List Job → ℕ
lines_left [] = 0
lines_left (job ∷ jobs) = (1 + length job.task.lines - job.number) + lines_left jobs

abbrev pub is_there : Option Failure → Bool
is_there None = false
is_there (Some failure) = true

-- a node has a token, and is none of these jobs'
pub record HasToken (nodes : List NodeState) (jobs : List Job) (node : ℕ) : Type 0 where
  pub open_now : get_or nodes node Undecided ≡ Open
  pub apart : AreApart node jobs

-- What the driver keeps fits together: the schedule is that of these rules, each job is open in it,
-- beside so many nodes that have a token and no child, and the children that are held are those of
-- the jobs.
pub record FitsTogether (rules : Rules) (schedule : Schedule) (jobs : List Job)
    (failure : Option Failure) (tickets : List ℕ) (room others : ℕ) : Type 0
  where
    pub rules_are : schedule.rules ≡ rules
    pub told : AreTold rules.before schedule.nodes (length jobs + others) (is_there failure)
    pub jobs_are : AreOpenJobs schedule.nodes jobs
    pub tickets_are : (ticket : ℕ) → times ticket (tickets_of jobs) ≡ times ticket tickets
    pub as_long : length tickets ≡ length jobs
    pub room_is : rules.jobs ≤ room
    pub few : rules.jobs ≤ 256
    pub within : length jobs + others ≤ rules.jobs

-- how many tickets are not below one
abbrev pub from_on : ℕ → List ℕ → ℕ
from_on one [] = 0
from_on one (ticket ∷ tickets) = (if nat_le one ticket then 1 else 0) + from_on one tickets
