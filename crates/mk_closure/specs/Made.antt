-- Means whose chain is one of the graph.
use Rattle.std.specs.Prelude.{List}
use Rattle.mk_closure.specs.declared.means.Means.{Means}
use Rattle.mk_closure.specs.declared.means.Means.TheVariants.{Own, Chained, Placed, Missing}
use Rattle.mk_graph.specs.Nodes.{Node}
use Rattle.mk_suffix.specs.Made.{IsFor}

abbrev pub HasChain : List Node → Means → Type 0
HasChain nodes Own = Unit {0}
HasChain nodes (Chained chain) = IsFor nodes chain
HasChain nodes (Placed place) = Unit {0}
HasChain nodes Missing = Unit {0}
