use Rattle.std.proofs.Common.{◌≡◌, length, take}
use Rattle.mk_world.specs.History.{timed_effects}
use Rattle.mk_commands.specs.Changes.{HaveEffects}
use Rattle.mk_commands.proofs.change.changes_of.Given as goal

abbrev pub invariant-loop-step : goal.invariant-loop-step
invariant-loop-step l = record {
  effects : HaveEffects l.changes.items (timed_effects (take l.step-index l.steps));
  count : length l.changes.items ≡ l.step-index;
}
