-- What stays where a node is made: the nodes that were there, and their numbers.
use Rattle.std.proofs.Common.{◌≡◌, ℕ, ◌<◌, ◌≤◌, List, [], ◌∷◌, ◌++◌, length, Some, position}
use Rattle.std.proofs.Common.{refl, ap, ◌∙◌, arith, length-append}
use Rattle.std.proofs.Math.ListN.{get_or-append}
use Rattle.std.proofs.lemmas.Bool.{cond_both}
use Rattle.std.proofs.lemmas.List.{map-append}
use Rattle.std.specs.Option.{option_map}
use Rattle.std.specs.Str.{bytes_eq}
use Rattle.mk_graph.proofs.NumberLemmas.{number-found}
use Rattle.mk_graph.specs.Nodes.{Node, node_at, names_of, new_node, number_of, is_named, with_node}
use Rattle.mk_pool.proofs.PoolLemmas.{name_of-with_text}
use Rattle.mk_pool.specs.Pool.{AreDistinct, with_text}

pub length-with_node : (nodes : List Node) (name : List ℕ)
    → length nodes ≤ length (with_node nodes name)
length-with_node nodes name =
    cond_both (is_named nodes name) nodes (nodes ++ new_node name ∷ [])
    (λ all. length nodes ≤ length all) (λ named. omega arith)
    (λ absent. omega (arith, length-append nodes (new_node name ∷ [])))

-- they stay as they are
pub node_at-with_node : (nodes : List Node) (name : List ℕ) (n : ℕ) → n < length nodes
    → node_at (with_node nodes name) n ≡ node_at nodes n
node_at-with_node nodes name n within =
    cond_both (is_named nodes name) nodes (nodes ++ new_node name ∷ [])
    (λ all. node_at all n ≡ node_at nodes n) (λ named. refl)
    (λ absent. get_or-append nodes (new_node name ∷ []) (new_node []) n within)

-- the names are those of a pool
names-with_node : (nodes : List Node) (name : List ℕ)
    → names_of (with_node nodes name) ≡ with_text (names_of nodes) name
names-with_node nodes name =
    cond_both (is_named nodes name) nodes (nodes ++ new_node name ∷ [])
    (λ all. names_of all ≡ with_text (names_of nodes) name)
    (λ named. rw named refl)
    (λ absent. rw absent (map-append (λ (node : Node). node.name) nodes (new_node name ∷ [])))

-- and keep their numbers
pub number_of-with_node : (nodes : List Node) (name other : List ℕ) (n : ℕ)
    → AreDistinct (names_of nodes) → number_of nodes other ≡ Some n
    → number_of (with_node nodes name) other ≡ Some n
number_of-with_node nodes name other n distinct is =
    let given = ap (λ found. option_map (λ place. record { 0 = place }) found) is in
    let still = name_of-with_text (names_of nodes) name other (record { 0 = n }) distinct given in
    ap (λ names. position (bytes_eq other) names) (names-with_node nodes name)
    ∙ number-found _ (record { 0 = n }) still
