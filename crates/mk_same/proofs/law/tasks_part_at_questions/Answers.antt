use Rattle.mk_same.proofs.TaskLemmas.{tasks_part_at_questions}
use Rattle.mk_same.proofs.law.tasks_part_at_questions.Goals as goal

pub returns : goal.returns
returns c = tasks_part_at_questions
