-- Worked rows of the first closed walk.
use Rattle.std.proofs.Common.{◌≡◌, [], ◌∷◌, Some, None, refl}
use Rattle.mk_graph.specs.Walks.{depth_first, first_cycle, visited, all_visited}
use Rattle.mk_graph.specs.declared.walk.Ordered.TheVariants.{Order, Cycle}

two_nodes : first_cycle ((1 ∷ []) ∷ (0 ∷ []) ∷ []) (0 ∷ []) ≡ Some (0 ∷ 1 ∷ 0 ∷ [])
unfolding visited all_visited
two_nodes = refl

no_cycle : first_cycle ((1 ∷ []) ∷ [] ∷ []) (0 ∷ []) ≡ None
unfolding visited all_visited
no_cycle = refl

-- the way to the closed walk is no part of it
itself : first_cycle ((1 ∷ 1 ∷ []) ∷ (1 ∷ []) ∷ []) (0 ∷ []) ≡ Some (1 ∷ 1 ∷ [])
unfolding visited all_visited
itself = refl

-- the walk meets 2 by 1 before it meets it by 0
the_first : first_cycle ((1 ∷ 2 ∷ []) ∷ (2 ∷ []) ∷ (3 ∷ []) ∷ (2 ∷ 0 ∷ []) ∷ []) (0 ∷ [])
    ≡ Some (2 ∷ 3 ∷ 2 ∷ [])
unfolding visited all_visited
the_first = refl

-- a closed walk that is not reached
not_reached : first_cycle ((0 ∷ []) ∷ [] ∷ (1 ∷ 1 ∷ []) ∷ []) (2 ∷ 1 ∷ 2 ∷ []) ≡ None
unfolding visited all_visited
not_reached = refl

-- each node stands behind its predecessors, which are gone through in order
an_order : depth_first ((1 ∷ 3 ∷ []) ∷ (2 ∷ []) ∷ [] ∷ (2 ∷ 1 ∷ []) ∷ []) (0 ∷ 2 ∷ [])
    ≡ Order (2 ∷ 1 ∷ 3 ∷ 0 ∷ [])
unfolding visited all_visited
an_order = refl

no_order : depth_first ((1 ∷ []) ∷ (0 ∷ []) ∷ []) (1 ∷ []) ≡ Cycle (1 ∷ 0 ∷ 1 ∷ [])
unfolding visited all_visited
no_order = refl
