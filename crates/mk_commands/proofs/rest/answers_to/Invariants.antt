use Rattle.std.proofs.Common.{◌≡◌, map, take}
use Rattle.mk_world.specs.Talks.{answer}
use Rattle.mk_commands.proofs.rest.answers_to.Given as goal

abbrev pub invariant-loop-deed : goal.invariant-loop-deed
invariant-loop-deed l = l.answers ≡ map answer (take l.deed-index l.deeds)
