use Rattle.mk_clean.proofs.StepLemmas.{steps_clean}
use Rattle.mk_clean.proofs.law.steps_are_those_of_the_clean_build.Goals as goal

pub returns : goal.returns
returns c = steps_clean
