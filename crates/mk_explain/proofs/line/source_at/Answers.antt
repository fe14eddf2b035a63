use Rattle.std.proofs.Common.{◌∙◌, ap}
use Rattle.mk_plan.specs.Plans.{node_at}
use Rattle.mk_explain.proofs.NameLemmas.{name-at, name-behind}
use Rattle.mk_explain.proofs.line.source_at.Goals as goal

pub returns-in-Some : goal.returns-in-Some
returns-in-Some c =
    let nodes = c.args.maker.now.plan.now in
    let places = (node_at nodes c.args.node).sources in
    let found = rw (c.as_slice.ensures.value, c.sources.ensures) at c.in-Some.ensures.lookup in
    c.name_at.ensures ∙ (ap (λ k. (node_at nodes k).name) (found.3.1 0)
    ∙ name-at nodes places c.args.place found.3.0)

pub returns-in-None : goal.returns-in-None
returns-in-None c =
    let nodes = c.args.maker.now.plan.now in
    let places = (node_at nodes c.args.node).sources in
    let found = rw (c.as_slice.ensures.value, c.sources.ensures) at c.in-None.ensures.lookup in
    name-behind nodes places c.args.place found.3
