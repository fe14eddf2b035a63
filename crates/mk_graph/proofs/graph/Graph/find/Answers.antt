use Rattle.std.proofs.Common.{None, is_some, refl, sym, ap, ◌∙◌, arith}
use Rattle.mk_graph.proofs.ViewLemmas.{as_many_nodes, names_are}
use Rattle.mk_graph.proofs.NumberLemmas.{number-found, number-missing}
use Rattle.mk_graph.proofs.graph.Graph.find.Goals as goal

pub returns-in_err-find-clause-value : goal.returns-in_err-find-clause-value
returns-in_err-find-clause-value c =
    rw (names_are c.self.inside.names c.self.inside.nodes.items c.args.self.now c.self.invariant
    c.self.view_is)
    (c.from_residual.ensures ∙ sym (number-missing _ None c.in_err-find.ensures.value refl))

pub returns-in_err-find-clause-named : goal.returns-in_err-find-clause-named
returns-in_err-find-clause-named c =
    rw (names_are c.self.inside.names c.self.inside.nodes.items c.args.self.now c.self.invariant
    c.self.view_is)
    (ap is_some c.from_residual.ensures ∙ c.in_err-find.ensures.held)

pub returns-clause-value : goal.returns-clause-value
returns-clause-value c =
    rw (names_are c.self.inside.names c.self.inside.nodes.items c.args.self.now c.self.invariant
    c.self.view_is)
    (sym (number-found _ _ (sym c.in_ok-find.ensures.value)))

pub returns-clause-named : goal.returns-clause-named
returns-clause-named c =
    rw (names_are c.self.inside.names c.self.inside.nodes.items c.args.self.now c.self.invariant
    c.self.view_is) c.in_ok-find.ensures.held

pub returns-clause-within : goal.returns-clause-within
returns-clause-within c =
    omega (
      arith,
      c.in_ok-find.ensures.within,
      as_many_nodes c.self.inside.names
          c.self.inside.nodes.items c.args.self.now c.self.invariant c.self.view_is,
    )
