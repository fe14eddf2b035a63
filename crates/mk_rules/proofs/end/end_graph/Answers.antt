use Rattle.std.proofs.Common.{◌≡◌, ◌∙◌, length}
use Rattle.std.proofs.lemmas.List.{length-map}
use Rattle.mk_rules.proofs.EndLemmas.{length_macros}
use Rattle.mk_rules.specs.Ends.{node_everywhere}
use Rattle.mk_rules.proofs.end.end_graph.Goals as goal

pub main_targets-requires : goal.main_targets-requires
main_targets-requires c =
    let before = c.args.graph.now in
    let marked : length c.mark_targets.new.graph ≡ length before =
    rw c.mark_targets.ensures (length-map before (node_everywhere c.args.marks)) in
    let same : length c.use_macros.new.self ≡ length before =
    rw c.in_ok-use_macros.ensures (length_macros c.mark_targets.new.graph ∙ marked) in
    rw same c.requires
