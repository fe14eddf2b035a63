-- The walk over a plan: one node after the other, and which of them are told.
use Rattle.std.specs.Prelude.{◌≡◌, ◌⊎◌, ℕ, ◌+◌, ◌<◌, List, [], ◌∷◌, ◌++◌, length, Option, Some}
use Rattle.std.specs.Prelude.{None}
use Rattle.std.specs.List.{AllByRecursion}
use Rattle.mk_decision.specs.Ages.{source_ages}
use Rattle.mk_decision.specs.Decisions.{Work, IsJudged, IsRefused}
use Rattle.mk_decision.specs.Looks.{LooksAt}
use Rattle.mk_decision.specs.Reasons.{times_by, value_in}
use Rattle.mk_values.specs.declared.fault.ExpandFault.{ExpandFault}
use Rattle.mk_plan.specs.AsNew.{as_new}
use Rattle.mk_plan.specs.Plans.{node_at}
use Rattle.mk_world.specs.Calls.{when_of}
use Rattle.mk_world.specs.History.{FileMap, contents, state_of}
use Rattle.mk_world.specs.Looks.{OnlyLooks, Seen, dated, read}
use Rattle.mk_world.specs.Talks.{Meaning}
use Rattle.mk_world.specs.Told.{Told}
use Rattle.mk_world.specs.declared.command.Task.{Task}
use Rattle.mk_world.specs.declared.history.History.{History}
use Rattle.mk_explain.specs.Lines.{line_of, names_of}
use Rattle.mk_explain.specs.declared.fault.ExplainFault.{ExplainFault}
use Rattle.mk_explain.specs.declared.fault.ExplainFault.TheVariants.{Expand, Failed, NoMemory}
use Rattle.mk_explain.specs.declared.reason.Reason.{Reason}

-- a node's turn, by what was seen: nothing is told of it, or its reason
pub data Turn : Type 0 where
  quiet : (seen : List Seen) → Turn
  tells : (seen : List Seen) → (reason : Reason) → Turn

-- Nothing is told of a node without commands, which is not looked at, and of one that is up to
-- date.
abbrev pub IsQuiet : Work → ℕ → List Seen → Type 0
IsQuiet work node seen =
    (((node_at work.plan node).commands ≡ []) × (seen ≡ []))
    ⊎ ((0 < length (node_at work.plan node).commands)
    × (task : Task) × IsJudged work node seen task None)

-- Its reason is told where it has commands and is out of date: the first reason that holds, with
-- its line.
pub record IsTold (work : Work) (node : ℕ) (seen : List Seen) (reason : Reason) : Type 0 where
  pub task : Task
  pub commands : 0 < length (node_at work.plan node).commands
  pub judged : IsJudged work node seen task (Some reason.why)
  pub place : reason.node ≡ node
  pub line : reason.line ≡ line_of (names_of work node) task (value_in judged.meta)
      (times_by judged.sight.target (source_ages work.plan node judged.sight.sources) judged.meta)
      reason.why

abbrev pub IsTurn : Work → ℕ → Turn → Type 0
IsTurn work node (quiet seen) = IsQuiet work node seen
IsTurn work node (tells seen reason) = IsTold work node seen reason

-- a node that was told counts as new for the nodes behind it
abbrev pub behind : Work → ℕ → Turn → Work
behind work node (quiet seen) = work
behind work node (tells seen reason) = record work { plan = as_new work.plan node }

abbrev pub behind_all : Work → ℕ → List Turn → Work
behind_all work node [] = work
behind_all work node (turn ∷ turns) = behind_all (behind work node turn) (node + 1) turns

-- the turns of the nodes from a place on, one after the other
abbrev pub AreTurns : Work → ℕ → List Turn → Type 0
AreTurns work node [] = Unit {0}
AreTurns work node (turn ∷ turns) =
    IsTurn work node turn × AreTurns (behind work node turn) (node + 1) turns

abbrev pub looks_of : List Turn → List Seen
looks_of [] = []
looks_of (quiet seen ∷ turns) = seen ++ looks_of turns
looks_of (tells seen reason ∷ turns) = seen ++ looks_of turns

abbrev pub reasons_of : List Turn → List Reason
reasons_of [] = []
reasons_of (quiet seen ∷ turns) = reasons_of turns
reasons_of (tells seen reason ∷ turns) = reason ∷ reasons_of turns

-- A plan was explained: each of its nodes had its turn, in plan order, and these are the reasons
-- that were told. All that was seen was looked at in order.
pub record IsExplained (Looked : List Seen → Type 0) (work : Work) (reasons : List Reason) : Type 0
  where
    pub turns : List Turn
    pub all : length turns ≡ length work.plan
    pub are : AreTurns work 0 turns
    pub told : reasons ≡ reasons_of turns
    pub looked : Looked (looks_of turns)

-- It was not, since this line of the task of this node, the first such, cannot be expanded: each
-- node before it had its turn.
pub record IsStopped (Looked : List Seen → Type 0) (work : Work) (node number : ℕ) (what : ExpandFault)
    : Type 0
  where
    pub turns : List Turn
    pub seen : List Seen
    pub within : node < length work.plan
    pub before : length turns ≡ node
    pub are : AreTurns work 0 turns
    pub refused : IsRefused (behind_all work 0 turns) node seen number what
    pub looked : Looked (looks_of turns ++ seen)

abbrev pub IsStoppedBy : (List Seen → Type 0) → Work → ExplainFault → Type 0
IsStoppedBy Looked work (Expand node number what) = IsStopped Looked work node number what
IsStoppedBy Looked work Failed = Unit {0}
IsStoppedBy Looked work NoMemory = Unit {0}

-- a look is answered by these files
abbrev pub IsAnswered : FileMap → Seen → Type 0
IsAnswered files (dated one) = one.when ≡ when_of (files one.path)
IsAnswered files (read path bytes) = bytes ≡ contents files path

-- Make looked at these paths in order, no child running. Where the world tells, nothing else
-- happened, and all looks are answered by one map of files, which stands from the beginning to the
-- end.
pub record SawFiles (meaning : Meaning) (before after : Option History) (seen : List Seen) : Type 0
  where
    pub looked : LooksAt meaning before after seen
    pub answered : Told before after (λ old new.
        OnlyLooks old new × AllByRecursion (IsAnswered (state_of old).files) seen)
