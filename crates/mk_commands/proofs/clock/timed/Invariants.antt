use Rattle.std.proofs.Common.{◌≡◌, ◌+◌, ◌++◌, drop}
use Rattle.mk_commands.specs.Clock.{numbers, timed}
use Rattle.mk_commands.proofs.clock.timed.Given as goal

-- the steps so far have their times, and the rest follow
abbrev pub invariant-loop-deed : goal.invariant-loop-deed
invariant-loop-deed l = record {
  steps : l.steps ++ timed l.time (drop l.deed-index l.deeds) ≡ timed l.clock l.deeds;
  time : l.time + numbers (drop l.deed-index l.deeds) ≡ l.clock + numbers l.deeds;
}
