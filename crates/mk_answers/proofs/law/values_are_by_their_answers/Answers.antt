use Rattle.mk_answers.proofs.AnswerLemmas.{conditions_are_by_answers, trees_are_by_answers}
use Rattle.mk_answers.proofs.law.values_are_by_their_answers.Goals as goal

pub returns : goal.returns
returns c = (trees_are_by_answers, conditions_are_by_answers)
