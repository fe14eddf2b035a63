use Rattle.mk_reader.proofs.reader.Reader.set_by.Goals as goal

pub returns-in-Plain : goal.returns-in-Plain
returns-in-Plain g c = rw c.in-Plain.is c.set.ensures

pub returns-in-Append : goal.returns-in-Append
returns-in-Append g c = rw c.in-Append.is c.append.ensures

pub returns-in-Default : goal.returns-in-Default
returns-in-Default g c = rw c.in-Default.is c.default.ensures

pub returns-in-Now : goal.returns-in-Now
returns-in-Now g c = rw c.in-Now.is c.set_value.ensures

pub returns-in-Shell : goal.returns-in-Shell
returns-in-Shell g c = rw c.in-Shell.is c.set_output.ensures
