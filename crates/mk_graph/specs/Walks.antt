-- A depth-first walk from nodes to their predecessors, and the first closed walk that it meets.
use Rattle.std.specs.Prelude.{ℕ, zero, suc, Bool, List, [], ◌∷◌, ◌++◌, length, get_or, nat_eq}
use Rattle.std.specs.Prelude.{reverse}
use Rattle.std.specs.Prelude.{Option, Some, None, Result, Ok, Err, if◌then◌else◌}
use Rattle.std.specs.List.{list_any}
use Rattle.mk_bytes.specs.Agrees.{◌>>=◌}
use Rattle.mk_graph.specs.declared.walk.Ordered.{Ordered}
use Rattle.mk_graph.specs.declared.walk.Ordered.TheVariants.{Order, Cycle}

abbrev pub is_among : List ℕ → ℕ → Bool
is_among nodes n = list_any (nat_eq n) nodes

-- the predecessors of a node
abbrev pub preds_of : List (List ℕ) → ℕ → List ℕ
preds_of preds n = get_or preds n []

-- a path from one of its nodes on
abbrev pub from_node : List ℕ → ℕ → List ℕ
from_node [] n = []
from_node (one ∷ more) n = if nat_eq n one then one ∷ more else from_node more n

-- where a path comes to one of its nodes again, it closes
abbrev pub closed : List ℕ → ℕ → List ℕ
closed path n = from_node path n ++ n ∷ []

-- the nodes that are done, the last first, or the closed walk that ended the walk
abbrev pub Walked : Type 0
Walked = Result (List ℕ) (List ℕ)

-- what visits a node, where some are done
abbrev pub Visit : Type 0
Visit = List ℕ → ℕ → Walked

-- one node after the other
unfoldable pub all_visited : Visit → List ℕ → List ℕ → Walked
all_visited visit done [] = Ok done
all_visited visit done (n ∷ more) = visit done n >>= λ later. all_visited visit later more

-- A node on the path closes it, and one that is done is passed over. Another is done once all its
-- predecessors are. A path has each node once, so it never needs more room than there are nodes.
unfoldable pub visited : ℕ → List (List ℕ) → List ℕ → Visit
visited zero preds path done n = Ok done
visited (suc room) preds path done n =
    if is_among path n then Err (closed path n)
    else (if is_among done n then Ok done
    else (all_visited (visited room preds (path ++ n ∷ [])) done (preds_of preds n)
    >>= λ later. Ok (n ∷ later)))

abbrev pub walk_met : Walked → Option (List ℕ)
walk_met (Ok done) = None
walk_met (Err walk) = Some walk

abbrev pub walked : List (List ℕ) → List ℕ → Walked
walked preds from = all_visited (visited (suc (length preds)) preds []) [] from

-- The first closed walk that is met from these nodes on, in order; its first node is repeated at
-- the end.
abbrev pub first_cycle : List (List ℕ) → List ℕ → Option (List ℕ)
first_cycle preds from = walk_met (walked preds from)

abbrev pub ordered_by : Walked → Ordered
ordered_by (Ok done) = Order (reverse done)
ordered_by (Err walk) = Cycle walk

-- The nodes that are reached, in the order in which they are done, or the first closed walk.
abbrev pub depth_first : List (List ℕ) → List ℕ → Ordered
depth_first preds from = ordered_by (walked preds from)
