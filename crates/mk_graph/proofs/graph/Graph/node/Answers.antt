use Rattle.mk_graph.proofs.NumberLemmas.{number_of-append}
use Rattle.std.proofs.Common.{sym}
use Rattle.mk_graph.proofs.graph.Graph.node.Goals as goal

pub returns-clause-number : goal.returns-clause-number
returns-clause-number c =
    number_of-append c.args.self.now _ c.args.name.now _ (sym c.in_default.ensures.named)
    c.in_ok-add.ensures.nodes c.in_ok-add.ensures.number
