use Rattle.std.proofs.Common.{◌≡◌, [], ◌∷◌, ◌++◌, sym, ap, ◌∙◌, arith}
use Rattle.mk_graph.proofs.ViewLemmas.{IsHeld-append, added_is, not_held, as_many_nodes}
use Rattle.mk_graph.specs.View.{no_links}
use Rattle.mk_graph.proofs.graph.Graph.add.Goals as goal
use Rattle.mk_graph.proofs.graph.Graph.add.Goals.{After-unwrap}

pub add-requires-clause-absent : goal.add-requires-clause-absent
add-requires-clause-absent c =
    not_held c.self.inside.names c.self.inside.nodes.items c.args.self.now c.self.invariant
    c.self.view_is c.args.name.now c.requires.absent

pub add-requires-clause-room : goal.add-requires-clause-room
add-requires-clause-room c =
    let held = as_many_nodes c.self.inside.names c.self.inside.nodes.items c.args.self.now
    c.self.invariant c.self.view_is in
    omega (arith, held, c.requires.room)

-- the names with this one behind them
names : (c : After-unwrap) → c.add.new.self ≡ c.self.inside.names ++ c.args.name.now ∷ []
names c = c.in_ok-name.ensures.texts

-- and what nodes have, with nothing behind it
items : (c : After-unwrap) → c.push.new.self.items ≡ c.self.inside.nodes.items ++ no_links ∷ []
items c =
    let pushed = rw c.unwrap.ensures at c.push.ensures.items in
    pushed ∙ ap (λ all. all ++ c.none.result ∷ []) c.in_ok-reserve.ensures.items
    ∙ ap (λ links. c.self.inside.nodes.items ++ links ∷ []) c.none.ensures

pub invariant_of-self-2 : goal.invariant_of-self-2
invariant_of-self-2 c =
    IsHeld-append c.self.inside.names c.self.inside.nodes.items c.args.self.now c.self.invariant
    c.self.view_is c.args.name.now _ _ (names c) (items c)

pub returns-clause-number : goal.returns-clause-number
returns-clause-number c =
    let held = as_many_nodes c.self.inside.names c.self.inside.nodes.items c.args.self.now
    c.self.invariant c.self.view_is in
    c.in_ok-name.ensures.name ∙ sym held

pub returns-clause-nodes : goal.returns-clause-nodes
returns-clause-nodes c =
    added_is c.self.inside.names c.self.inside.nodes.items c.args.self.now c.self.invariant
    c.self.view_is c.args.name.now _ _ (names c) (items c)
