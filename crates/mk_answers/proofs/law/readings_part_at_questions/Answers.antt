use Rattle.mk_answers.proofs.ReadingLemmas.{readings_part_at_questions}
use Rattle.mk_answers.proofs.law.readings_part_at_questions.Goals as goal

pub returns : goal.returns
returns c = readings_part_at_questions
