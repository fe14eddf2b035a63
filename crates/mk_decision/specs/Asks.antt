-- The task of a node, with what its conditions asked of the world.
use Rattle.std.specs.Prelude.{◌≡◌, ◌⊎◌, List, map, Option, Result, IfErr}
use Rattle.std.specs.Option.{option_map}
use Rattle.mk_bytes.specs.Agrees.{AgreesBut}
use Rattle.mk_values.specs.declared.facts.Asked.{Asked}
use Rattle.mk_plan.specs.Asking.{as_asked}
use Rattle.mk_plan.specs.Refusals.{IsFree}
use Rattle.mk_plan.specs.declared.fault.TaskFault.{TaskFault}
use Rattle.mk_world.specs.Looks.{Dated, LooksAll, answered, dated}
use Rattle.mk_world.specs.Talks.{Meaning}
use Rattle.mk_world.specs.Told.{Told}
use Rattle.mk_world.specs.declared.command.Task.{Task}
use Rattle.mk_world.specs.declared.history.History.{History}

-- Make looked at these paths, for `exists`, while children may have done steps; the task is the one
-- that the looks define, and so is what was asked behind its fault.
pub record TaskAsked (meaning : Meaning) (before after : Option History) (result : Result Task TaskFault)
    (defined : List Dated → Result (Task × List Asked) TaskFault) (asks : List Dated → List Asked) : Type 0
  where
    pub questions : List (Option Dated)
    pub told : Told before after (LooksAll meaning (map (option_map dated) questions))
    pub task : AgreesBut IsFree (λ task. (task, map as_asked (answered questions))) result
        (defined (answered questions))
    pub faulty : IfErr result (λ fault.
        IsFree fault ⊎ (asks (answered questions) ≡ map as_asked (answered questions)))
