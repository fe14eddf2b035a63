use Rattle.mk_graph.proofs.MacroLemmas.{all_marks-step, taken_within}
use Rattle.mk_graph.proofs.macros.marks_with.Goals as goal

pub bounds-nodes-n : goal.bounds-nodes-n
bounds-nodes-n c =
    taken_within c.args.nodes.now c.args.taken.now c.loop-n.n-index c.loop-n-test.true c.requires

pub loop-n-preserved : goal.loop-n-preserved
loop-n-preserved c =
    all_marks-step c.args.nodes.now c.args.taken.now c.loop-n.n-index c.index-nodes-n.result
    c.loop-n.marks c.with_taken-marks.result _ c.loop-n-test.true c.requires c.index-nodes-n.is
    c.with_taken-marks.ensures c.loop-n.invariant
