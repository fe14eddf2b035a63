use Rattle.std.proofs.Common.{◌∙◌, sym}
use Rattle.mk_graph.proofs.ClosedLemmas.{first_cycle-closed}
use Rattle.mk_graph.proofs.DoneLemmas.{first_cycle-none, cycle-order, cycle-cycle}
use Rattle.mk_graph.proofs.walk.cycle.Goals as goal

pub returns-in-Order-clause-first : goal.returns-in-Order-clause-first
returns-in-Order-clause-first c =
    sym (cycle-order c.args.preds.now c.args.from.now c.in-Order.field-0
    (sym c.in_ok-depth_first.ensures.value ∙ c.in-Order.is))

pub returns-in-Order-clause-none : goal.returns-in-Order-clause-none
returns-in-Order-clause-none c =
    first_cycle-none c.args.preds.now c.args.from.now c.requires.preds c.requires.from
    (cycle-order c.args.preds.now c.args.from.now c.in-Order.field-0
    (sym c.in_ok-depth_first.ensures.value ∙ c.in-Order.is))

pub returns-clause-first : goal.returns-clause-first
returns-clause-first c =
    sym (cycle-cycle c.args.preds.now c.args.from.now c.in-Cycle.nodes
    (sym c.in_ok-depth_first.ensures.value ∙ c.in-Cycle.is))

pub returns-clause-closed : goal.returns-clause-closed
returns-clause-closed c =
    first_cycle-closed c.args.preds.now c.args.from.now c.in-Cycle.nodes
    (cycle-cycle c.args.preds.now c.args.from.now c.in-Cycle.nodes
    (sym c.in_ok-depth_first.ensures.value ∙ c.in-Cycle.is))
