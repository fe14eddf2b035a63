use Rattle.mk_filemon.proofs.LookLemmas.{tell_looks, tell_written}
use Rattle.mk_filemon.proofs.StepLemmas.{tell_outer_reads}
use Rattle.mk_filemon.proofs.law.records_tell_of_steps.Goals as goal

pub returns-clause-outer : goal.returns-clause-outer
returns-clause-outer c = tell_outer_reads

pub returns-clause-looks : goal.returns-clause-looks
returns-clause-looks c = tell_looks

pub returns-clause-written : goal.returns-clause-written
returns-clause-written c = tell_written
