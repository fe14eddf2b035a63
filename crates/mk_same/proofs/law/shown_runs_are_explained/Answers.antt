use Rattle.mk_same.proofs.RunLemmas.{shown-runs}
use Rattle.mk_same.proofs.law.shown_runs_are_explained.Goals as goal

pub returns : goal.returns
returns c = shown-runs
