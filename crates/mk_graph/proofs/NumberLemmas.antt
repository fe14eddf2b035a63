-- The number of a name, by its name in the pool.
use Rattle.std.proofs.Common.{◌≡◌, ℕ, List, [], ◌∷◌, ◌++◌, length, false, Option, Some}
use Rattle.std.proofs.Common.{None, refl, sym, ap, ◌∙◌}
use Rattle.std.proofs.lemmas.List.{length-map, map-append}
use Rattle.std.specs.Option.{option_map}
use Rattle.mk_graph.specs.Nodes.{Node, names_of, new_node, number_of, is_named}
use Rattle.mk_pool.specs.Pool.{name_of}
use Rattle.mk_pool.proofs.PoolLemmas.{name_of-append}
use Rattle.mk_pool.specs.declared.pool.Name.{Name}

-- the number of a name is its name in the pool
pub number-found : (found : Option ℕ) (name : Name)
    → option_map (λ place. record { 0 = place }) found ≡ Some name → found ≡ Some name.0
number-found None name is = absurd cc
number-found (Some place) name is =
    let same : record { 0 = place } ≡ name = cc in ap (λ (n : Name). Some n.0) same

-- and a name that the pool lacks has none
pub number-missing : (found : Option ℕ) (name : Option Name)
    → name ≡ option_map (λ place. record { 0 = place }) found → name ≡ None → found ≡ None
number-missing None name same missing = refl
number-missing (Some place) name same missing = absurd cc

-- a new node has the first number that was free
pub number_of-append : (nodes all : List Node) (name : List ℕ) (n : ℕ)
    → is_named nodes name ≡ false → all ≡ nodes ++ new_node name ∷ [] → n ≡ length nodes
    → number_of all name ≡ Some n
number_of-append nodes all name n absent is free =
    let names = ap names_of is
    ∙ map-append (λ (node : Node). node.name) nodes (new_node name ∷ []) in
    let count = length-map nodes (λ (node : Node). node.name) in
    number-found _ (record { 0 = n })
    (name_of-append (names_of nodes) (names_of all) name (record { 0 = n }) absent names
    (free ∙ sym count))
