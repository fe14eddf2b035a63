use Rattle.mk_graph.proofs.MacroLemmas.{before-step, last_within}
use Rattle.mk_graph.proofs.macros.push_all_before.Goals as goal

pub bounds-nodes-n : goal.bounds-nodes-n
bounds-nodes-n c =
    last_within c.args.nodes.now c.macros.rest.now c.in-Some.earlier.now c.in-Some.n.now
    c.in-Some.ensures.cases.0 c.macros.invariant.are

pub macros-preserved : goal.macros-preserved
macros-preserved c =
    let step = before-step c.args.nodes.now c.macros.rest.now c.in-Some.earlier.now
    c.in-Some.n.now c.index-nodes-n.result c.macros.commands c.push_before.new.commands _
    c.in-Some.ensures.cases.0 c.macros.invariant.are c.index-nodes-n.is
    c.in_ok-push_before.ensures c.macros.invariant.so_far in
    record { are = step.0; so_far = step.1 }
