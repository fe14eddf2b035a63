use Rattle.std.proofs.Common.{◌≡◌, drop}
use Rattle.mk_commands.specs.Commands.{exported_in}
use Rattle.mk_commands.proofs.command.exported_in.Given as goal

-- the variables that are left have its value
abbrev pub invariant-loop-pair : goal.invariant-loop-pair
invariant-loop-pair l =
    exported_in (drop l.pair-index l.exports) l.name ≡ exported_in l.exports l.name
