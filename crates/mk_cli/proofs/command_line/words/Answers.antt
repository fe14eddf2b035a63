use Rattle.std.proofs.Common.{Err, arith}
use Rattle.std.proofs.lemmas.Grind.{common_steps}
use Rattle.mk_bytes.specs.Agrees.{Agrees}
use Rattle.mk_bytes.proofs.AgreesLemmas.{AgreesErr-bind}
use Rattle.mk_cli.proofs.OrderLemmas.{numbers_in_range, refused_place}
use Rattle.mk_cli.proofs.command_line.words.Goals as goal
use Rattle.mk_cli.specs.Words.{finished, order}
use Rattle.mk_cli.specs.declared.order.Usage.TheVariants.{NoMemory}

pub returns-in-Err-clause-place : goal.returns-in-Err-clause-place
returns-in-Err-clause-place c =
    let is : Agrees NoMemory (λ order. order) (Err c.in-Err.usage)
    (order c.args.cwd.now c.args.words.now) =
    rw c.new-reading.ensures at
    (AgreesErr-bind NoMemory c.in-Err.usage _ (λ r. finished r r.expected) c.in-Err.ensures)
    in
    refused_place c.args.cwd.now c.args.words.now (Err c.in-Err.usage) is

pub returns-in-Ok-clause-numbers : goal.returns-in-Ok-clause-numbers
returns-in-Ok-clause-numbers c =
    let is : Agrees NoMemory (λ order. order) c.finish.result
    (order c.args.cwd.now c.args.words.now) =
    grind (arith, common_steps)
    in
    numbers_in_range c.args.cwd.now c.args.words.now c.finish.result is

pub returns-in-Ok-clause-place : goal.returns-in-Ok-clause-place
returns-in-Ok-clause-place c =
    let is : Agrees NoMemory (λ order. order) c.finish.result
    (order c.args.cwd.now c.args.words.now) =
    grind (arith, common_steps)
    in
    refused_place c.args.cwd.now c.args.words.now c.finish.result is
