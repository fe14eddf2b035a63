use Rattle.mk_graph.proofs.ViewLemmas.{within_names, names_are, name_is}
use Rattle.mk_graph.proofs.NumberLemmas.{number-found}
use Rattle.mk_graph.proofs.graph.Graph.name.Goals as goal

pub text-requires : goal.text-requires
text-requires c =
    within_names c.self.inside.names c.self.inside.nodes.items _ c.self.invariant c.self.view_is
    _ c.requires

pub returns-clause-value : goal.returns-clause-value
returns-clause-value c =
    name_is c.self.inside.names c.self.inside.nodes.items c.args.self.now c.self.invariant
    c.self.view_is c.args.n c.text.result.now c.requires c.text.ensures.value

pub returns-clause-only : goal.returns-clause-only
returns-clause-only c =
    rw (names_are c.self.inside.names c.self.inside.nodes.items c.args.self.now c.self.invariant
    c.self.view_is) (number-found _ _ c.text.ensures.only)
