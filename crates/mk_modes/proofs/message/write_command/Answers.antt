use Rattle.mk_modes.proofs.MessageLemmas.{command-line}
use Rattle.mk_modes.proofs.message.write_command.Goals as goal

pub returns-clause-done : goal.returns-clause-done
returns-clause-done g c =
    rw (command-line c.args.name.now c.args.number.now c.args.before.now c.args.middle.now
    c.args.after.now) c.write_all.ensures.done
