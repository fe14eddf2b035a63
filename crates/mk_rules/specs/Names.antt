-- Names of a dependency line as nodes of the graph.
use Rattle.std.specs.Prelude.{ℕ, ◌==◌, ◌&&◌, Bool, not, List, [], ◌∷◌, ◌++◌, length, unwrap_or}
use Rattle.std.specs.Prelude.{Result, Ok, Err, if◌then◌else◌}
use Rattle.mk_bytes.specs.Agrees.{◌>>=◌}
use Rattle.mk_graph.specs.Nodes.{Node, is_named, number_of, with_node, with_source, with_order}
use Rattle.mk_graph.specs.Nodes.{with_mark}
use Rattle.mk_graph.specs.declared.attr.Attr.{Attr}
use Rattle.mk_pool.specs.declared.fault.PoolFault.{PoolFault}
use Rattle.mk_pool.specs.declared.fault.PoolFault.TheVariants as pool
use Rattle.mk_pool.specs.declared.pool.TheConstants.{MAX_NAMES}
use Rattle.mk_rules.specs.declared.fault.RuleFault.{RuleFault}
use Rattle.mk_rules.specs.declared.fault.RuleFault.TheVariants as fault

abbrev pub of_pool : PoolFault → RuleFault
of_pool pool.Full = fault.TooManyNames
of_pool pool.NoMemory = fault.NoMemory

-- a new name where there are as many nodes as there may be
abbrev pub is_too_many : List Node → List ℕ → Bool
is_too_many nodes name = length nodes == MAX_NAMES && not (is_named nodes name)

-- the number of a name that has a node
abbrev pub number_in : List Node → List ℕ → ℕ
number_in nodes name = unwrap_or (number_of nodes name) 0

-- a name as a node, which is made where it is new
abbrev pub named : List Node → List ℕ → Result (List Node × ℕ) RuleFault
named nodes name =
    if is_too_many nodes name then Err fault.TooManyNames
    else Ok (with_node nodes name, number_in (with_node nodes name) name)

-- names as nodes, behind these, in order
abbrev pub all_named : List Node → List ℕ → List (List ℕ) → Result (List Node × List ℕ) RuleFault
all_named nodes numbers [] = Ok (nodes, numbers)
all_named nodes numbers (name ∷ more) =
    named nodes name >>= λ one. all_named one.0 (numbers ++ one.1 ∷ []) more

-- all of these nodes marked
abbrev pub all_marked : Attr → List Node → List ℕ → List Node
all_marked attr nodes [] = nodes
all_marked attr nodes (n ∷ more) = all_marked attr (with_mark nodes n attr) more

-- a node with these sources more
abbrev pub sourced : ℕ → List Node → List ℕ → List Node
sourced n nodes [] = nodes
sourced n nodes (source ∷ more) = sourced n (with_source nodes n source) more

-- each of these nodes with these sources more
abbrev pub all_sourced : List ℕ → List Node → List ℕ → List Node
all_sourced sources nodes [] = nodes
all_sourced sources nodes (n ∷ more) = all_sourced sources (sourced n nodes sources) more

-- each of these nodes before another one
abbrev pub ordered_before : ℕ → List Node → List ℕ → List Node
ordered_before n nodes [] = nodes
ordered_before n nodes (first ∷ more) = ordered_before n (with_order nodes first n) more

-- each node before its neighbour in a list
abbrev pub ordered_behind : ℕ → List Node → List ℕ → List Node
ordered_behind first nodes [] = nodes
ordered_behind first nodes (n ∷ more) = ordered_behind n (with_order nodes first n) more

abbrev pub neighbours_ordered : List Node → List ℕ → List Node
neighbours_ordered nodes [] = nodes
neighbours_ordered nodes (first ∷ more) = ordered_behind first nodes more
