use Rattle.std.proofs.Common.{◌<◌, [], length, arith, ◌∙◌}
use Rattle.std.proofs.lemmas.Grind.{common_steps}
use Rattle.std.proofs.lemmas.List.{get_or_default}
use Rattle.std.proofs.lemmas.List.Edits.{map_over_more}
use Rattle.mk_graph.specs.Nodes.{new_node, node_at}
use Rattle.mk_rules.proofs.EndLemmas.{target_also-is}
use Rattle.mk_rules.specs.Ends.{node_everywhere}
use Rattle.mk_rules.proofs.end.mark_targets.Goals as goal

pub loop-n-preserved : goal.loop-n-preserved
loop-n-preserved c =
    let l = c.loop-n in
    let marks = c.args.marks in
    let within : l.n < length c.args.graph.now = grind (arith, common_steps) in
    let inside : l.n < length l.graph = grind (arith, common_steps) in
    let at = node_at l.graph l.n in
    record {
      so_far = c.mark_target.ensures.value ∙ target_also-is marks l.graph l.n inside
          ∙ map_over_more (node_everywhere marks) c.args.graph.now l.graph l.n at within
          l.invariant.so_far (get_or_default l.graph l.n (new_node []) at inside);
      same = grind (arith, common_steps);
    }
