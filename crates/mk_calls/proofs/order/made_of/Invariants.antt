use Rattle.std.proofs.Common.{◌≡◌, ◌<◌, ◌≤◌, ℕ, get_or}
use Rattle.mk_plan.specs.declared.plan.NodeState.TheVariants.{Undecided, Open}
use Rattle.mk_calls.proofs.order.made_of.Given as goal

abbrev pub invariant-loop : goal.invariant-loop
invariant-loop l = record {
  few : l.started ≤ l.counter;
  first : l.ended ≤ l.started;
  open_ones : (node : ℕ) → l.ended ≤ node → node < l.started
      → get_or l.sched.nodes node Undecided ≡ Open;
}
