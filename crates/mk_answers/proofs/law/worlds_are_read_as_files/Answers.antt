use Rattle.mk_answers.proofs.FileLemmas.{worlds_are_read_as_files}
use Rattle.mk_answers.proofs.law.worlds_are_read_as_files.Goals as goal

pub returns : goal.returns
returns c = worlds_are_read_as_files
