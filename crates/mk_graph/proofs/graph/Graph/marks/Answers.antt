use Rattle.std.proofs.Common.{sym, ap, arith}
use Rattle.mk_graph.proofs.ViewLemmas.{within_links, node_is}
use Rattle.mk_graph.specs.Nodes.{Node}
use Rattle.mk_graph.proofs.graph.Graph.marks.Goals as goal

pub index-requires : goal.index-requires
index-requires c =
    let nodes = c.self.inside.nodes in
    omega (
      arith,
      nodes.ok.0,
      within_links c.self.inside.names nodes.items _ c.self.invariant c.self.view_is _ c.requires,
    )

pub returns : goal.returns
returns c =
    ap (λ (node : Node). node.marks)
    (sym (node_is c.self.inside.names c.self.inside.nodes.items c.args.self.now c.self.invariant
    c.self.view_is c.args.n c.index.result.now c.requires c.index.ensures))
