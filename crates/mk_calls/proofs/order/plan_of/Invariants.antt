use Rattle.std.proofs.Common.{◌≡◌, true, length}
use Rattle.mk_plan.specs.Plans.{are_ordered, are_sourced}
use Rattle.mk_calls.proofs.order.plan_of.Given as goal

abbrev pub invariant-loop-n : goal.invariant-loop-n
invariant-loop-n l = record {
  long : length l.nodes ≡ l.n;
  ordered : are_ordered 0 l.nodes ≡ true;
  sourced : are_sourced l.nodes ≡ true;
}
