use Rattle.std.proofs.Common.{◌≡◌, ◌++◌, map, take}
use Rattle.mk_world.specs.Records.{op_of}
use Rattle.mk_commands.proofs.rest.add_records.Given as goal

abbrev pub invariant-loop-deed : goal.invariant-loop-deed
invariant-loop-deed l = l.records ≡ l.initial.records ++ map op_of (take l.deed-index l.deeds)
