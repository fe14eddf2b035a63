use Rattle.mk_dirs.proofs.LookLemmas.{OnErr-looked, ByLooks-none}
use Rattle.mk_dirs.proofs.places.found_below.Goals as goal

pub returns-in_err-path-clause-refused : goal.returns-in_err-path-clause-refused
returns-in_err-path-clause-refused g c =
    OnErr-looked _ _ _ (ByLooks-none _ (λ files. Unit {0}) (λ files. tt))
