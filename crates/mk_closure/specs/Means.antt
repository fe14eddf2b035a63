-- What there is to make a node with.
use Rattle.std.specs.Prelude.{ℕ, Bool, true, false, List, [], ◌∷◌, Option, Some, None}
use Rattle.std.specs.Prelude.{if◌then◌else◌}
use Rattle.std.specs.Str.{bytes_eq}
use Rattle.mk_closure.specs.declared.means.Means.{Means}
use Rattle.mk_closure.specs.declared.means.Means.TheVariants.{Own, Chained, Placed, Missing}
use Rattle.mk_graph.specs.Marks.{has}
use Rattle.mk_graph.specs.Nodes.{Node, node_at}
use Rattle.mk_graph.specs.declared.attr.Attr.TheVariants.{Phony}
use Rattle.mk_suffix.specs.Chains.{choice}
use Rattle.mk_suffix.specs.Found.{Seeking, place_of}
use Rattle.mk_suffix.specs.declared.chain.Chain.{Chain}
use Rattle.mk_world.specs.Deeds.{Store}

abbrev pub is_some_command : List (List ℕ) → Bool
is_some_command [] = false
is_some_command (command ∷ commands) = true

abbrev pub has_commands : List Node → ℕ → Bool
has_commands nodes n = is_some_command (node_at nodes n).commands

abbrev pub is_phony : List Node → ℕ → Bool
is_phony nodes n = has (node_at nodes n).marks Phony

-- by a chain of suffix rules; else by its place, which is the name itself where it is a target or a
-- file; else it is missing
abbrev pub means_by : List ℕ → Option (List ℕ) → Option Chain → Means
means_by name place (Some chain) = Chained chain
means_by name None None = Missing
means_by name (Some place) None = if bytes_eq place name then Own else Placed place

-- no chain is searched for a phony node
abbrev pub chain_for : Store → List Node → Seeking → List ℕ → ℕ → Option Chain
chain_for files nodes seeking name n =
    if is_phony nodes n then None else choice files nodes seeking name

-- The means of a node on these files. One with commands needs no others.
abbrev pub means_of : Store → List Node → Seeking → List ℕ → ℕ → Means
means_of files nodes seeking name n =
    if has_commands nodes n then Own
    else means_by name (place_of files nodes seeking name) (chain_for files nodes seeking name n)
