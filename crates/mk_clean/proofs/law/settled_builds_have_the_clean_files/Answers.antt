use Rattle.mk_clean.proofs.BesideLemmas.{builds_clean}
use Rattle.mk_clean.proofs.law.settled_builds_have_the_clean_files.Goals as goal

pub returns : goal.returns
returns c = builds_clean
