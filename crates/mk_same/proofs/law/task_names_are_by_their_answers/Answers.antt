use Rattle.mk_same.proofs.TaskLemmas.{task_names_are_by_answers}
use Rattle.mk_same.proofs.law.task_names_are_by_their_answers.Goals as goal

pub returns : goal.returns
returns c = task_names_are_by_answers
