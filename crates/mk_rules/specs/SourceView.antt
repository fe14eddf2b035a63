-- The sources of a line in the code.
use Rattle.std.specs.Prelude.{ℕ, ◌≤◌, List, length}
use Rattle.mk_graph.specs.Nodes.{Node}
use Rattle.mk_graph.specs.Numbers.{AreBelow}
use Rattle.mk_rules.specs.Sources.{Met}
use Rattle.mk_rules.specs.declared.source.Sources.{Sources}

abbrev pub met_in : List Node → Sources → Met
met_in nodes sources =
    record { nodes = nodes; sources = sources.nodes; waited = sources.waited }

-- the sources are nodes, and no more of them stand before the last `.WAIT` than there are
pub record AreMet (bound : ℕ) (sources : Sources) : Type 0 where
  pub nodes : AreBelow bound sources.nodes
  pub waited : sources.waited ≤ length sources.nodes
