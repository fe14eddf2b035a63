use Rattle.std.proofs.Common.{rules}
use Rattle.mk_suffix.proofs.TableLemmas.{are_all}
use Rattle.mk_suffix.proofs.table.SuffixRules.new.Goals as goal

pub invariant_of-result-2 : goal.invariant_of-result-2
invariant_of-result-2 c =
    let all = are_all c.args.graph.now c.args.suffixes.now c.loop-n.n c.loop-n.rows.entries
    (search rules) c.loop-n.invariant in
    (rw (← c.rows-2.view_is) at all, c.in_ok-new.ensures.empty)
