use Rattle.std.proofs.Common.{◌≡◌, ℕ, List, Result, Ok, Err, IfOk}
use Rattle.mk_bytes.specs.declared.fault.NoMemory.{NoMemory}
use Rattle.mk_world.specs.declared.step.Op.{Op}
use Rattle.fmrun.specs.Logs.{log}
use Rattle.fmrun.specs.Readings.{IsReadAs}
use Rattle.fmrun.proofs.ReadLemmas.{log-again}
use Rattle.fmrun.proofs.log.log_of.Goals as goal

read : (directory : List ℕ) (ops : List Op) (result : Result (List ℕ) NoMemory)
    → IfOk result (λ text. text ≡ log directory ops)
    → IfOk result (λ text. IsReadAs directory ops text)
read directory ops (Ok text) is = rw is (log-again directory ops)
read directory ops (Err fault) is = tt

pub returns-clause-read : goal.returns-clause-read
returns-clause-read c = read c.args.directory.now c.args.ops.now c.written.result c.written.ensures
