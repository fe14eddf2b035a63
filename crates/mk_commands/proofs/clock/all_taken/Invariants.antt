use Rattle.std.proofs.Common.{◌≡◌, ◌+◌, ◌≤◌, drop}
use Rattle.mk_commands.specs.Clock.{numbers}
use Rattle.mk_commands.proofs.clock.all_taken.Given as goal

abbrev pub invariant-loop-deed : goal.invariant-loop-deed
invariant-loop-deed l = record {
  taken : l.taken + numbers (drop l.deed-index l.deeds) ≡ numbers l.deeds;
  few : l.taken ≤ l.deed-index;
}
