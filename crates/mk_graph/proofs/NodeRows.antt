-- Worked rows of nodes.
use Rattle.std.proofs.Common.{◌≡◌, [], ◌∷◌, Some, None, codes, refl}
use Rattle.mk_graph.specs.Nodes.{new_node, number_of, with_node, with_source, with_order, node_at}

-- the order of first mention counts
first_mention :
    number_of (with_node (with_node (with_node [] (codes "a")) (codes "b")) (codes "a")) (codes "b")
    ≡ Some 1
first_mention = refl

unknown : number_of (with_node [] (codes "a")) (codes "b") ≡ None
unknown = refl

repeated :
    (node_at (with_source (with_source (new_node [] ∷ []) 0 0) 0 0) 0).sources ≡ 0 ∷ 0 ∷ []
repeated = refl

-- `first` stands with the node that comes behind it
ordered : (node_at (with_order (new_node [] ∷ new_node [] ∷ []) 0 1) 1).ordered ≡ 0 ∷ []
ordered = refl
