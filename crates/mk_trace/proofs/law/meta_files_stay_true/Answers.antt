use Rattle.mk_trace.proofs.TrueLemmas.{meta_files_true}
use Rattle.mk_trace.proofs.law.meta_files_stay_true.Goals as goal

pub returns : goal.returns
returns c = meta_files_true
