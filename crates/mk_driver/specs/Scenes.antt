-- What stands round a report while empty lines are passed over.
use Rattle.std.specs.Prelude.{ℕ, List, Option}
use Rattle.mk_world.specs.Talks.{Meaning}
use Rattle.mk_world.specs.declared.command.TaskLine.{TaskLine}
use Rattle.mk_world.specs.declared.history.History.{History}
use Rattle.mk_decision.specs.Decisions.{Work}
use Rattle.mk_trace.specs.Builds.{Moment}
use Rattle.mk_driver.specs.Jobs.{HasToken}
use Rattle.mk_driver.specs.Progress.{BehindOn, HaltedAt, IsUnstopped}
use Rattle.mk_driver.specs.declared.course.Course.{Course}
use Rattle.mk_trace.specs.declared.collected.Collected.{Collected}
use Rattle.mk_trace.specs.declared.event.Event.{Event}
use Rattle.mk_child.specs.declared.halt.Halt.TheVariants.{NoMemory}

-- what is built in which world, what the driver keeps beside its report, and what was printed
pub record Scene : Type 0 where
  pub meaning : Meaning
  pub work : Work
  pub history : Option History
  pub course : Course
  pub first : Moment
  pub out : Option (List ℕ)

-- a node has a token, and no failure keeps lines from being started
pub record IsOpenScene (scene : Scene) (node : ℕ) : Type 0 where
  pub unstopped : IsUnstopped scene.work scene.course
  pub token : HasToken scene.course.sched.nodes scene.course.jobs.items node

abbrev pub BehindIn : Scene → List Event → ℕ → List TaskLine → Collected → ℕ → Type 0
BehindIn scene events node lines collected done =
    BehindOn scene.meaning scene.work scene.history scene.course events node lines collected done
    scene.first scene.out

abbrev pub HaltedIn : Scene → List Event → Type 0
HaltedIn scene events =
    HaltedAt scene.meaning scene.work NoMemory scene.history events scene.first scene.out
