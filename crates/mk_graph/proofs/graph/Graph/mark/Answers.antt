use Rattle.std.proofs.Common.{[], get_or, arith, ap}
use Rattle.mk_graph.proofs.ViewLemmas.{within_links, changed_is, IsHeld-set, sources_below}
use Rattle.mk_graph.proofs.ViewLemmas.{ordered_below}
use Rattle.mk_graph.specs.Marks.{marked}
use Rattle.mk_graph.specs.View.{named}
use Rattle.mk_graph.proofs.graph.Graph.mark.Goals as goal

pub index_mut-links-requires : goal.index_mut-links-requires
index_mut-links-requires c =
    let nodes = c.self.inside.nodes in
    omega (
      arith,
      nodes.ok.0,
      within_links c.self.inside.names nodes.items _ c.self.invariant c.self.view_is _ c.requires,
    )

pub invariant_of-self : goal.invariant_of-self
invariant_of-self c =
    let names = c.self.inside.names in
    let all = c.self.inside.nodes.items in
    let nodes = c.args.self.now in
    let old = c.index_mut-links.result.now in
    let at = c.index_mut-links.ensures.value in
    IsHeld-set names all nodes c.self.invariant c.self.view_is c.args.n _
    (sources_below names all nodes c.self.invariant c.self.view_is c.args.n old c.requires at)
    (ordered_below names all nodes c.self.invariant c.self.view_is c.args.n old c.requires at)

pub returns-clause-value : goal.returns-clause-value
returns-clause-value c =
    let names = c.self.inside.names in
    let all = c.self.inside.nodes.items in
    let nodes = c.args.self.now in
    let old = c.index_mut-links.result.now in
    changed_is names all nodes c.self.invariant c.self.view_is c.args.n old _
    (λ node. record node { marks = marked node.marks c.args.attr })
    c.requires c.index_mut-links.ensures.value
    (ap (λ marks. named (get_or names c.args.n []) (record old { marks = marks }))
    c.with-links.ensures)
