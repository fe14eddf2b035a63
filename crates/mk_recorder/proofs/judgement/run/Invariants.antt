use Rattle.std.proofs.Common.{◌≡◌, length}
use Rattle.mk_recorder.specs.Held.{state_in}
use Rattle.mk_recorder.specs.States.{run}
use Rattle.mk_recorder.proofs.judgement.run.Given as goal

-- what is left of the events leads on from here
abbrev pub invariant-events : goal.invariant-events
invariant-events l = run l.rest (state_in l.state) ≡ run l.events (state_in l.initial.state)

abbrev pub decreases-events : goal.decreases-events
decreases-events l = length l.rest
