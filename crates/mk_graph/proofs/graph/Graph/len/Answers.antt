use Rattle.std.proofs.Common.{sym, ◌∙◌, arith}
use Rattle.mk_graph.proofs.ViewLemmas.{as_many_nodes, names_are, nodes_linked}
use Rattle.mk_graph.proofs.graph.Graph.len.Goals as goal

pub returns-clause-value : goal.returns-clause-value
returns-clause-value c =
    c.len.ensures.value ∙ sym (as_many_nodes c.self.inside.names c.self.inside.nodes.items
    c.args.self.now c.self.invariant c.self.view_is)

pub returns-clause-graph : goal.returns-clause-graph
returns-clause-graph c =
    let names = c.self.inside.names in
    let all = c.self.inside.nodes.items in
    let nodes = c.args.self.now in
    record {
      limit = omega (
        arith,
        c.len.ensures.limit,
        as_many_nodes names all nodes c.self.invariant c.self.view_is,
      );
      distinct = rw (names_are names all nodes c.self.invariant c.self.view_is)
          c.len.ensures.distinct;
      linked = nodes_linked names all nodes c.self.invariant c.self.view_is;
    }
