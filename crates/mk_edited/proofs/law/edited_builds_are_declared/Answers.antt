use Rattle.mk_edited.proofs.EditedLemmas.{edited_builds_are_declared}
use Rattle.mk_edited.proofs.law.edited_builds_are_declared.Goals as goal

pub returns : goal.returns
returns c = edited_builds_are_declared
