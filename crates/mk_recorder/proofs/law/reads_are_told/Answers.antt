use Rattle.mk_recorder.proofs.SoundnessLemmas.{reads-found, runs-keep, found-recorded}
use Rattle.mk_recorder.proofs.law.reads_are_told.Goals as goal

pub returns-clause-found : goal.returns-clause-found
returns-clause-found c = reads-found

pub returns-clause-kept : goal.returns-clause-kept
returns-clause-kept c = runs-keep

pub returns-clause-recorded : goal.returns-clause-recorded
returns-clause-recorded c = found-recorded
