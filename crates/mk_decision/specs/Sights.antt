-- What looks at times have told.
use Rattle.std.specs.Prelude.{◌≡◌, ℕ, suc, ◌<◌, Bool, true, false, List, [], ◌∷◌, ◌++◌, Option}
use Rattle.std.specs.Prelude.{if◌then◌else◌}
use Rattle.mk_plan.specs.Plans.{node_at}
use Rattle.mk_plan.specs.declared.plan.PlanNode.{PlanNode}
use Rattle.mk_world.specs.Looks.{Seen, dated}
use Rattle.mk_world.specs.Talks.{Meaning}
use Rattle.mk_world.specs.declared.history.History.{History}
use Rattle.mk_world.specs.declared.time.When.{When}
use Rattle.mk_decision.specs.Ages.{AreSeen, is_one_of}
use Rattle.mk_decision.specs.Looks.{LooksAt}
use Rattle.mk_decision.specs.declared.sight.Sighting.{Sighting}
use Rattle.mk_decision.specs.declared.sight.NodeTimes.{NodeTimes}

-- the look at a node's file; a phony node is not looked at
abbrev pub look_at : List PlanNode → Sighting → List Seen
look_at nodes one =
    if (node_at nodes one.place).marks.phony then []
    else dated (record { path = (node_at nodes one.place).name; when = one.when }) ∷ []

abbrev pub looks_of : List PlanNode → List Sighting → List Seen
looks_of nodes [] = []
looks_of nodes (one ∷ seen) = look_at nodes one ++ looks_of nodes seen

-- make looked at the files of these nodes in order, and was told these times
abbrev pub Looked : Meaning → Option History → Option History → List PlanNode → List Sighting
    → Type 0
Looked meaning before after nodes seen = LooksAt meaning before after (looks_of nodes seen)

-- make looked at some paths
pub record SawSome (meaning : Meaning) (before after : Option History) : Type 0 where
  pub seen : List Seen
  pub looked : LooksAt meaning before after seen

-- what is seen of a node by the times of its target and of others
abbrev pub seen_of : List PlanNode → ℕ → When → List Sighting → List Seen
seen_of nodes node target sources =
    looks_of nodes (record { place = node; when = target } ∷ sources)

abbrev pub SawAll : Meaning → Option History → Option History → List PlanNode → ℕ → NodeTimes
    → Type 0
SawAll meaning before after nodes node times =
    LooksAt meaning before after (seen_of nodes node times.target times.sources)

-- these are the nodes that count before a place
pub record AreWanted (place : ℕ) (has : ℕ → Bool) (wanted : List ℕ) : Type 0 where
  pub are : (one : ℕ) → one < place → has one ≡ is_one_of wanted one
  pub below : (one : ℕ) → has one ≡ true → one < place

-- the last of some nodes was taken from them
pub record IsTaken (place : ℕ) (has now : ℕ → Bool) : Type 0 where
  pub counts : has place ≡ true
  pub last : (one : ℕ) → place < one → has one ≡ false
  pub same : (one : ℕ) → one < place → now one ≡ has one
  pub below : (one : ℕ) → now one ≡ true → one < place

-- What was seen so far of the nodes from a place on, and which count of those before it: what is
-- then seen of these goes behind it.
pub record OnWalk (nodes : List PlanNode) (node : ℕ) (first : List ℕ) (place : ℕ) (has : ℕ → Bool)
    (seen : List Sighting) : Type 0
  where
    pub wanted : List ℕ
    pub marked : AreWanted place has wanted
    pub along : (rest : List Sighting) → AreSeen nodes place wanted rest
        → AreSeen nodes node first (seen ++ rest)

-- the same where the node at the place counts too
pub record IsAt (nodes : List PlanNode) (node : ℕ) (first : List ℕ) (place : ℕ) (has : ℕ → Bool)
    (seen : List Sighting) : Type 0
  where
    pub wanted : List ℕ
    pub counts : is_one_of wanted place ≡ true
    pub marked : AreWanted place has wanted
    pub along : (rest : List Sighting) → AreSeen nodes (suc place) wanted rest
        → AreSeen nodes node first (seen ++ rest)
