use Rattle.mk_graph.proofs.MacroLemmas.{behind-step, taken_within}
use Rattle.mk_graph.proofs.macros.push_all_behind.Goals as goal

pub bounds-nodes-n : goal.bounds-nodes-n
bounds-nodes-n c =
    taken_within c.args.nodes.now c.args.taken.now c.loop-n.n-index c.loop-n-test.true c.requires

pub loop-n-preserved : goal.loop-n-preserved
loop-n-preserved c =
    behind-step c.args.nodes.now c.args.taken.now c.loop-n.n-index c.index-nodes-n.result
    c.loop-n.commands c.push_behind.new.commands _ c.loop-n-test.true c.requires
    c.index-nodes-n.is c.in_ok-push_behind.ensures c.loop-n.invariant
