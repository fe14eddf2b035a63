use Rattle.mk_trace.proofs.QuestionLemmas.{questions-keep-truth}
use Rattle.mk_trace.proofs.law.questions_keep_meta_files_true.Goals as goal

pub returns : goal.returns
returns c = questions-keep-truth
