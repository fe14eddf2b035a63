-- Refusals of a plan.
use Rattle.std.specs.Prelude.{◌≡◌, ◌⊎◌, List, Result, Ok, Err}
use Rattle.mk_world.specs.declared.fault.WorldFault.{WorldFault}
use Rattle.mk_world.specs.declared.fault.WorldFault.TheVariants as world
use Rattle.mk_bytes.specs.Agrees.{AgreesBut}
use Rattle.mk_bytes.specs.declared.kind.Kind.TheVariants.{Names}
use Rattle.mk_closure.specs.declared.fault.CloseFault.{CloseFault}
use Rattle.mk_closure.specs.declared.fault.CloseFault.TheVariants as close
use Rattle.mk_pool.specs.declared.pool.TheConstants.{MAX_NAMES}
use Rattle.mk_values.specs.Facts.{Answers, AnsweredBy, IsOutside as IsOutsideText}
use Rattle.mk_values.specs.declared.facts.Asked.{Asked}
use Rattle.mk_values.specs.declared.fault.ExpandFault.{ExpandFault}
use Rattle.mk_values.specs.declared.fault.ExpandFault.TheVariants as expand
use Rattle.mk_plan.specs.declared.fault.PlanFault.{PlanFault}
use Rattle.mk_plan.specs.declared.fault.PlanFault.TheVariants.{NoTarget, NoRule, Cycle, Limit}
use Rattle.mk_plan.specs.declared.fault.PlanFault.TheVariants.{Failed, NoMemory}
use Rattle.mk_plan.specs.declared.fault.TaskFault.{TaskFault}

-- how a fault of the world is answered
abbrev pub of_world : WorldFault → PlanFault
of_world world.Failed = Failed
of_world world.NoMemory = NoMemory

-- how a refusal of a closure is answered
abbrev pub of_closure : CloseFault → PlanFault
of_closure (close.NoRule name) = NoRule name
of_closure close.Full = Limit Names MAX_NAMES
of_closure close.Failed = Failed
of_closure close.NoMemory = NoMemory

-- a refusal that is not of the world
abbrev pub IsOwnPlan : PlanFault → Type 0
IsOwnPlan NoTarget = Unit {0}
IsOwnPlan (NoRule name) = Unit {0}
IsOwnPlan (Cycle names) = Unit {0}
IsOwnPlan (Limit kind count) = Unit {0}
IsOwnPlan Failed = ⊥
IsOwnPlan NoMemory = Unit {0}

-- a refusal that no makefile and no file causes
abbrev pub IsOutside : PlanFault → Type 0
IsOutside fault = (fault ≡ Failed) ⊎ (fault ≡ NoMemory)

-- a refusal is the defined one, or one of the outside in its place
abbrev pub IsRefusedBy : {A : Type 0} → PlanFault → Result A PlanFault → Type 0
IsRefusedBy fault defined = IsOutside fault ⊎ (defined ≡ Err fault)

-- want of memory while a task is made
abbrev pub no_memory_fault : TaskFault
no_memory_fault = record { line = 0; what = expand.NoMemory }

-- want of memory, or a fault of the outside
abbrev pub IsFree : TaskFault → Type 0
IsFree fault = IsOutsideText fault.what

-- a fault of the makefiles
abbrev pub IsOwn : TaskFault → Type 0
IsOwn fault = IsFree fault → ⊥

-- a fault is the defined one, or a free one in its place
abbrev pub IsTaskFault : {A : Type 0} → TaskFault → Result A TaskFault → Type 0
IsTaskFault fault defined = IsFree fault ⊎ (defined ≡ Err fault)

-- An answer of a call on lines is what is defined by the answers to all that was asked up to its
-- end.
abbrev pub MeansLines : {X Y : Type 0} → List Asked → (X → Y) → Result X TaskFault
    → (Answers → Result Y TaskFault) → Type 0
MeansLines asked view answer defined =
    (answers : Answers) → AnsweredBy answers asked
    → AgreesBut IsFree view answer (defined answers)

-- Where a call on lines is refused, and not by the outside, it has asked these questions.
abbrev pub RefusedBehind : {X : Type 0} → List Asked → Result X TaskFault → (Answers → List Asked)
    → Type 0
RefusedBehind asked (Ok given) questions = Unit {0}
RefusedBehind asked (Err fault) questions =
    (answers : Answers) → AnsweredBy answers asked → IsFree fault ⊎ (questions answers ≡ asked)

-- what is wrong with a line, without its number
abbrev pub without_line : {A : Type 0} → Result A TaskFault → Result A ExpandFault
without_line (Ok given) = Ok given
without_line (Err fault) = Err fault.what
