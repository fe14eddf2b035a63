use Rattle.std.proofs.lemmas.List.{append-nil}
use Rattle.mk_modes.proofs.message.write_line.Goals as goal

pub returns-in-NoRule-clause-done : goal.returns-in-NoRule-clause-done
returns-in-NoRule-clause-done g c =
    rw c.in-NoRule.is (rw (c.bytes-in-NoRule.ensures.value, append-nil c.in-NoRule.name)
    at c.write_text-in-NoRule.ensures.done)

pub returns-in-WorldFault-clause-done : goal.returns-in-WorldFault-clause-done
returns-in-WorldFault-clause-done g c = rw c.in-WorldFault.is c.write_text-in-WorldFault.ensures.done
