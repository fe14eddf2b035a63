use Rattle.std.proofs.Common.{◌≤◌, ◌<◌, length, arith}
use Rattle.mk_rules.proofs.FoldLemmas.{met_pushed}
use Rattle.mk_rules.proofs.source.meet.Goals as goal

pub returns-clause-met : goal.returns-clause-met
returns-clause-met c =
    let le : length c.args.graph.now ≤ length c.order_before.new.graph =
    omega (arith, c.named.ensures.longer, c.order_before.ensures.length) in
    let within : c.in_ok-n.n < length c.order_before.new.graph =
    rw c.order_before.ensures.length c.in_ok-n.ensures.within in
    met_pushed (length c.args.graph.now) (length c.order_before.new.graph) c.in_ok-n.n
    c.args.sources.now c.push.new.self
    (record { nodes = c.requires.nodes; waited = c.requires.waited }) le within
    c.in_ok-push.ensures.ok
