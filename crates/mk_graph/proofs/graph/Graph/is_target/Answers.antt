use Rattle.std.proofs.Common.{◌∙◌, refl, sym}
use Rattle.mk_graph.specs.Where.{is_target}
use Rattle.mk_graph.proofs.graph.Graph.is_target.Goals as goal

pub returns-in-Some : goal.returns-in-Some
returns-in-Some c = c.has.ensures ∙ c.in-Some.ensures.found.1 is_target

pub returns-in-None : goal.returns-in-None
returns-in-None c = sym (c.in-None.ensures.missing refl is_target)
