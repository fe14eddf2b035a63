use Rattle.std.proofs.Common.{◌≡◌, drop}
use Rattle.mk_recorder.specs.States.{birth_of}
use Rattle.mk_recorder.proofs.state.birth_of.Given as goal

-- no birth so far
abbrev pub invariant-loop-event : goal.invariant-loop-event
invariant-loop-event l =
    birth_of l.process (drop l.event-index l.events) ≡ birth_of l.process l.events
