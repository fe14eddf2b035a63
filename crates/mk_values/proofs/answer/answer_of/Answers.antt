use Rattle.mk_values.proofs.FactLemmas.{agrees_progress}
use Rattle.mk_values.specs.Calls.{at}
use Rattle.mk_values.proofs.answer.answer_of.Goals as goal

pub returns-in-Make-clause-value : goal.returns-in-Make-clause-value
returns-in-Make-clause-value g c = λ answers by.
    let told = rw (c.in-Make.is, c.trimmed.ensures) at (c.ask.ensures.value answers by) in
    rw c.in-Make.is
    (agrees_progress (at c.args.run.now (g.F.Facts.asked c.args.facts.now)) _ _ _ told)

pub returns-in-Exists-clause-value : goal.returns-in-Exists-clause-value
returns-in-Exists-clause-value g c = λ answers by.
    let told = rw (c.in-Exists.is, c.trimmed-in-Exists.ensures) at (c.ask_path.ensures.value answers by) in
    rw c.in-Exists.is
    (agrees_progress (at c.args.run.now (g.F.Facts.asked c.args.facts.now)) _ _ _ told)

pub returns-in-Target-clause-value : goal.returns-in-Target-clause-value
returns-in-Target-clause-value g c = λ answers by.
    let told = rw (c.in-Target.is, c.trimmed-in-Target.ensures) at (c.ask_path-in-Target.ensures.value answers by) in
    rw c.in-Target.is
    (agrees_progress (at c.args.run.now (g.F.Facts.asked c.args.facts.now)) _ _ _ told)

pub returns-in-Commands-clause-value : goal.returns-in-Commands-clause-value
returns-in-Commands-clause-value g c = λ answers by.
    let told = rw (c.in-Commands.is, c.trimmed-in-Commands.ensures) at (c.ask_path-in-Commands.ensures.value answers by) in
    rw c.in-Commands.is
    (agrees_progress (at c.args.run.now (g.F.Facts.asked c.args.facts.now)) _ _ _ told)
