use Rattle.std.proofs.Common.{◌≡◌, take}
use Rattle.mk_memworld.specs.Endings.{steps_of}
use Rattle.mk_memworld.proofs.chronicle.last_events.Given as goal

abbrev pub invariant-loop-step : goal.invariant-loop-step
invariant-loop-step l = l.events.items ≡ steps_of l.child (take l.step-index l.steps)
