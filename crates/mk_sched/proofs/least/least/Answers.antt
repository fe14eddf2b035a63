use Rattle.std.proofs.Common.{◌≡◌, ◌∙◌, ◌<◌, ◌≤◌, Some, sym, ap, arith, length}
use Rattle.std.proofs.lemmas.Grind.{common_steps}
use Rattle.mk_sched.specs.Least.{entry}
use Rattle.mk_sched.proofs.CountLemmas.{least_is, least_none}
use Rattle.mk_sched.proofs.least.least.Goals as goal

pub returns-then-node-count : goal.returns-then-node-count
returns-then-node-count c = λ before nodes counts entered are count_is many.
    let is : c.in_ok-node.field-0.now ≡ entry c.args.entries.now 1 = grind (arith, common_steps) in
    let lt : entry c.args.entries.now 1 < length nodes = omega (arith, c.if-node-count.true, is, count_is, many) in
    ap Some is ∙ sym (least_is nodes counts c.args.entries.now before entered are many lt)

pub returns-else-node-count : goal.returns-else-node-count
returns-else-node-count c = λ before nodes counts entered are count_is many.
    let is : c.in_ok-node.field-0.now ≡ entry c.args.entries.now 1 = grind (arith, common_steps) in
    let le : length nodes ≤ entry c.args.entries.now 1 = omega (arith, c.if-node-count.false, is, count_is, many) in
    sym (least_none nodes counts c.args.entries.now before entered are many le)
