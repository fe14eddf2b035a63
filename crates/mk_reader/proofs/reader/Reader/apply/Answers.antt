use Rattle.mk_reader.proofs.reader.Reader.apply.Goals as goal

pub returns-in-Command : goal.returns-in-Command
returns-in-Command g c = rw (c.in-Command.is, ← c.bytes-name.ensures.value, ← c.bytes-value.ensures.value) c.assign.ensures

pub returns-in-Global : goal.returns-in-Global
returns-in-Global g c = rw (c.in-Global.is, ← c.bytes-name.ensures.value, ← c.bytes-value.ensures.value) c.set_by.ensures
