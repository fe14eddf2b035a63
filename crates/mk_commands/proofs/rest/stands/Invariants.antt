use Rattle.std.proofs.Common.{◌≡◌, take}
use Rattle.std.specs.Option.{option_copied}
use Rattle.mk_world.specs.Deeds.{after_deeds}
use Rattle.mk_world.specs.History.{contents}
use Rattle.mk_commands.specs.Files.{files_in}
use Rattle.mk_commands.specs.Steps.{after_step}
use Rattle.mk_commands.proofs.rest.stands.Given as goal

abbrev pub invariant-loop-deed : goal.invariant-loop-deed
invariant-loop-deed l =
    option_copied l.found
    ≡ after_deeds (after_step (contents (files_in l.files)) (option_copied l.step))
    (take l.deed-index l.deeds) l.path
