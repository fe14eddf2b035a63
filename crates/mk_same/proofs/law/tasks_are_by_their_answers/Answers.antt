use Rattle.mk_same.proofs.TaskLemmas.{tasks_are_by_answers}
use Rattle.mk_same.proofs.law.tasks_are_by_their_answers.Goals as goal

pub returns : goal.returns
returns c = tasks_are_by_answers
