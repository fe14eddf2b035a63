use Rattle.mk_dry.proofs.TruthLemmas.{dry-runs-stay-true}
use Rattle.mk_dry.proofs.law.dry_runs_stay_true.Goals as goal

pub returns : goal.returns
returns c = dry-runs-stay-true
