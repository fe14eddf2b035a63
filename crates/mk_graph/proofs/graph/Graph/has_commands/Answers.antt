use Rattle.std.proofs.Common.{◌∙◌, ◌==◌, length, not, refl, sym, ap}
use Rattle.mk_graph.specs.Where.{has_commands}
use Rattle.mk_graph.proofs.WhereLemmas.{empty-tells}
use Rattle.mk_graph.proofs.graph.Graph.has_commands.Goals as goal

pub returns-in-Some : goal.returns-in-Some
returns-in-Some c =
    ap not (empty-tells c.is_empty.result c.commands.result.now c.is_empty.ensures)
    ∙ (ap (λ l. not (length l == 0)) c.commands.ensures ∙ c.in-Some.ensures.found.1 has_commands)

pub returns-in-None : goal.returns-in-None
returns-in-None c = sym (c.in-None.ensures.missing refl has_commands)
