-- The walk so far, and what is asked of the world on it.
use Rattle.std.specs.Prelude.{◌≡◌, ◌⊎◌, ℕ, List, length, map, Option, Result, IfErr, IfOk}
use Rattle.std.specs.Option.{option_map}
use Rattle.mk_breaches.specs.declared.node.NodeFacts.{NodeFacts}
use Rattle.mk_bytes.specs.Agrees.{AgreesBut}
use Rattle.mk_bytes.specs.declared.fault.NoMemory.{NoMemory}
use Rattle.mk_decision.specs.Decisions.{Work, asked_questions, asked_task}
use Rattle.mk_decision.specs.Looks.{LooksAt}
use Rattle.mk_decision.specs.Metas.{paths_in}
use Rattle.mk_plan.specs.Asking.{as_asked}
use Rattle.mk_plan.specs.Refusals.{IsFree}
use Rattle.mk_plan.specs.declared.fault.TaskFault.{TaskFault}
use Rattle.mk_values.specs.declared.facts.Asked.{Asked}
use Rattle.mk_world.specs.Looks.{Dated, LooksAll, Seen, answered, dated}
use Rattle.mk_world.specs.Talks.{Meaning}
use Rattle.mk_world.specs.Told.{Told}
use Rattle.mk_world.specs.declared.command.Task.{Task}
use Rattle.mk_world.specs.declared.history.History.{History}
use Rattle.mk_audit.specs.Looks.{IsAllAsked, asked_names}
use Rattle.mk_audit.specs.Turns.{AreTurns, Turn, facts_in, looks_in}
use Rattle.mk_audit.specs.Views.{made_of}

-- the nodes before this one had their turns
pub record AreWalked (Looked : List Seen → Type 0) (work : Work) (node : ℕ) (nodes : List NodeFacts)
    : Type 0
  where
    pub turns : List Turn
    pub before : length turns ≡ node
    pub are : AreTurns work 0 turns
    pub told : nodes ≡ facts_in turns
    pub looked : Looked (looks_in turns)

-- Make looked at these paths, for `exists`; the names are those that the looks define, and so is
-- what was asked behind the fault of their task.
pub record NamesAsked (meaning : Meaning) (before after : Option History)
    (asked : Result (List (List ℕ)) NoMemory) (result : Result (List (List ℕ)) TaskFault)
    (defined : List Dated → Result (List (List ℕ) × List Asked) TaskFault)
    (asks : List Dated → List Asked) : Type 0
  where
    pub questions : List (Option Dated)
    pub told : Told before after (LooksAll meaning (map (option_map dated) questions))
    pub paths : IfOk asked (λ paths. paths ≡ paths_in (answered questions))
    pub names : AgreesBut IsFree (λ names. (names, map as_asked (answered questions))) result
        (defined (answered questions))
    pub faulty : IfErr result (λ fault.
        IsFree fault ⊎ (asks (answered questions) ≡ map as_asked (answered questions)))

-- Make looked at paths, for `exists`, and this was made by them, or nothing where it is at fault.
pub record MadeByLooks {A : Type 0} (meaning : Meaning) (before after : Option History)
    (defined : List Dated → Result (A × List Asked) TaskFault) (asks : List Dated → List Asked)
    (made : Option A) : Type 0
  where
    pub dates : List Dated
    pub looked : LooksAt meaning before after (map dated dates)
    pub all : IsAllAsked (defined dates) (asks dates) dates
    pub is : made ≡ made_of (defined dates)

-- the names that a task looks up were so found
abbrev pub FoundNames : Meaning → Option History → Option History → Work → ℕ → List (List ℕ)
    → Option (List (List ℕ)) → Type 0
FoundNames meaning before after work node newer names =
    MadeByLooks meaning before after (asked_names work node newer)
    (asked_questions work node newer) names

-- the task was so made
abbrev pub FoundTask : Meaning → Option History → Option History → Work → ℕ → List (List ℕ)
    → Option Task → Type 0
FoundTask meaning before after work node newer task =
    MadeByLooks meaning before after (asked_task work node newer)
    (asked_questions work node newer) task
