use Rattle.mk_looks.proofs.LookLemmas.{trees_are_by_names, conditions_are_by_names}
use Rattle.mk_looks.proofs.NewerLemmas.{newer_do_not_count}
use Rattle.mk_looks.proofs.law.values_are_by_names.Goals as goal

pub returns-clause-trees : goal.returns-clause-trees
returns-clause-trees c = trees_are_by_names

pub returns-clause-conditions : goal.returns-clause-conditions
returns-clause-conditions c = conditions_are_by_names

pub returns-clause-newer : goal.returns-clause-newer
returns-clause-newer c = newer_do_not_count
