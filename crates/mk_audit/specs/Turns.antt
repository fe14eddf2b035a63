-- The nodes of a plan, audited one after the other.
use Rattle.std.specs.Prelude.{◌≡◌, ℕ, ◌+◌, List, [], ◌∷◌, flat_map, length, map}
use Rattle.mk_breaches.specs.declared.node.NodeFacts.{NodeFacts}
use Rattle.mk_decision.specs.Decisions.{Work}
use Rattle.mk_world.specs.Looks.{Seen}
use Rattle.mk_audit.specs.Facts.{IsAudited}

-- a node's turn: what was seen for it, and what is found of it
pub record Turn : Type 0 where
  pub seen : List Seen
  pub facts : NodeFacts

-- the turns of the nodes from a place on
abbrev pub AreTurns : Work → ℕ → List Turn → Type 0
AreTurns work node [] = Unit {0}
AreTurns work node (turn ∷ turns) =
    IsAudited work node turn.seen turn.facts × AreTurns work (node + 1) turns

abbrev pub looks_in : List Turn → List Seen
looks_in turns = flat_map (λ (turn : Turn). turn.seen) turns

abbrev pub facts_in : List Turn → List NodeFacts
facts_in turns = map (λ (turn : Turn). turn.facts) turns

-- A plan was audited: each of its nodes had its turn, in plan order, and this was found. All that
-- was seen was looked at in order.
pub record AreAudited (Looked : List Seen → Type 0) (work : Work) (nodes : List NodeFacts) : Type 0
  where
    pub turns : List Turn
    pub all : length turns ≡ length work.plan
    pub are : AreTurns work 0 turns
    pub told : nodes ≡ facts_in turns
    pub looked : Looked (looks_in turns)
