use Rattle.std.proofs.Common.{◌∷◌, [], ◌++◌, get_or, arith, ap, ◌∙◌}
use Rattle.std.proofs.lemmas.Result.{on_ok_weaker}
use Rattle.mk_graph.proofs.ViewLemmas.{within_links, changed_is, IsHeld-set, sources_below}
use Rattle.mk_graph.proofs.ViewLemmas.{ordered_below}
use Rattle.mk_graph.specs.View.{named}
use Rattle.mk_graph.proofs.graph.Graph.add_command.Goals as goal

pub index_mut-requires : goal.index_mut-requires
index_mut-requires c =
    let nodes = c.self.inside.nodes in
    omega (
      arith,
      nodes.ok.0,
      within_links c.self.inside.names nodes.items _ c.self.invariant c.self.view_is _ c.requires,
    )

pub invariant_of-self : goal.invariant_of-self
invariant_of-self c =
    let names = c.self.inside.names in
    let all = c.self.inside.nodes.items in
    let nodes = c.args.self.now in
    let n = c.args.n in
    let old = c.index_mut.result.now in
    let within = c.requires in
    let at = c.index_mut.ensures.value in
    IsHeld-set names all nodes c.self.invariant c.self.view_is n _
    (sources_below names all nodes c.self.invariant c.self.view_is n old within at)
    (ordered_below names all nodes c.self.invariant c.self.view_is n old within at)

pub returns-clause-ok : goal.returns-clause-ok
returns-clause-ok c =
    let names = c.self.inside.names in
    let all = c.self.inside.nodes.items in
    let nodes = c.args.self.now in
    let old = c.index_mut.result.now in
    on_ok_weaker c.add_text.result
    (λ is. changed_is names all nodes c.self.invariant c.self.view_is c.args.n old _
    (λ node. record node { commands = node.commands ++ c.args.text.now ∷ [] })
    c.requires c.index_mut.ensures.value
    (ap (λ added. named (get_or names c.args.n []) (record old { commands = added }))
    (is ∙ ap (λ text. old.commands ++ text ∷ []) c.in_ok-text.ensures)))
    c.add_text.ensures.ok
