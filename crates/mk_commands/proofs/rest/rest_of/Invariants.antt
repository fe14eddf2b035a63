use Rattle.std.proofs.Common.{◌-◌, length}
use Rattle.std.specs.Option.{option_copied}
use Rattle.mk_world.specs.History.{contents}
use Rattle.mk_commands.specs.Files.{files_in}
use Rattle.mk_commands.specs.Language.{language_next, most_answers}
use Rattle.mk_commands.specs.Steps.{after_step}
use Rattle.mk_commands.proofs.RestLemmas.{Completes}
use Rattle.mk_commands.proofs.rest.rest_of.Given as goal

-- whatever completes the steps so far is the rest
abbrev pub invariant-steps : goal.invariant-steps
invariant-steps l =
    Completes language_next l.cmd l.fn.seen
    (after_step (contents (files_in l.files)) (option_copied l.step)) l.answers l.deeds

abbrev pub decreases-steps : goal.decreases-steps
decreases-steps l = most_answers l.cmd - length l.answers
