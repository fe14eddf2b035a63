-- The walk so far, and the turn of one node.
use Rattle.std.specs.Prelude.{◌≡◌, ℕ, List, length, Option, Some, None}
use Rattle.mk_decision.specs.Decisions.{Work, IsRefused}
use Rattle.mk_world.specs.Looks.{Seen}
use Rattle.mk_explain.specs.Turns.{AreTurns, IsStoppedBy, IsTurn, Turn, behind_all, looks_of, quiet}
use Rattle.mk_explain.specs.Turns.{reasons_of, tells}
use Rattle.mk_explain.specs.declared.fault.ExplainFault.{ExplainFault}
use Rattle.mk_explain.specs.declared.fault.ExplainFault.TheVariants.{Expand, Failed, NoMemory}
use Rattle.mk_explain.specs.declared.reason.Reason.{Reason}

-- the turn of a node, by its reason, where it has one
abbrev pub turn_of : List Seen → Option Reason → Turn
turn_of seen None = quiet seen
turn_of seen (Some reason) = tells seen reason

abbrev pub HasTurn : Work → ℕ → List Seen → Option Reason → Type 0
HasTurn work node seen told = IsTurn work node (turn_of seen told)

-- a node has no turn, since its task is at fault
abbrev pub IsHaltedBy : Work → ℕ → List Seen → ExplainFault → Type 0
IsHaltedBy work node seen (Expand place number what) =
    (place ≡ node) × IsRefused work node seen number what
IsHaltedBy work node seen Failed = Unit {0}
IsHaltedBy work node seen NoMemory = Unit {0}

-- the nodes before this one had their turns
pub record AreWalked (Looked : List Seen → Type 0) (first work : Work) (node : ℕ) (reasons : List Reason)
    : Type 0
  where
    pub turns : List Turn
    pub before : length turns ≡ node
    pub are : AreTurns first 0 turns
    pub now : work ≡ behind_all first 0 turns
    pub told : reasons ≡ reasons_of turns
    pub looked : Looked (looks_of turns)

-- the walk was stopped after these looks
pub record HaltsAt (Looked : List Seen → Type 0) (first : Work) (fault : ExplainFault)
    : Type 0 where
  pub seen : List Seen
  pub looked : Looked seen
  pub stopped : IsStoppedBy Looked first fault
