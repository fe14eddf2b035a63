-- Chains that lead to a name.
use Rattle.std.specs.Prelude.{◌≡◌, ◌+◌, List, length}
use Rattle.mk_graph.specs.Nodes.{Node}
use Rattle.mk_graph.specs.Numbers.{AreBelow}
use Rattle.mk_suffix.specs.declared.chain.Chain.{Chain}

-- the rules are nodes, and there is a name more than rules
pub record IsFor (nodes : List Node) (chain : Chain) : Type 0 where
  pub rules : AreBelow (length nodes) chain.rules
  pub as_many : length chain.names ≡ length chain.rules + 1
