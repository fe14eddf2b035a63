use Rattle.std.proofs.lemmas.Result.{on_ok_weaker}
use Rattle.mk_graph.proofs.MacroViewLemmas.{held_below, held_again, with_macros-is}
use Rattle.mk_graph.proofs.graph.Graph.use_macros.Goals as goal

pub use_all-requires : goal.use_all-requires
use_all-requires c = held_below c.self.inside.names c.self.inside.nodes.items c.self.invariant

pub invariant_of-self : goal.invariant_of-self
invariant_of-self c =
    held_again c.self.inside.names c.self.inside.nodes.items c.use_all.new.nodes.items
    c.self.invariant c.use_all.ensures.as_many c.use_all.ensures.nodes

pub returns : goal.returns
returns c =
    on_ok_weaker c.use_all.result
    (with_macros-is c.self.inside.names c.self.inside.nodes.items c.use_all.new.nodes.items
    c.args.self.now c.self.invariant c.self.view_is)
    c.use_all.ensures.ok
