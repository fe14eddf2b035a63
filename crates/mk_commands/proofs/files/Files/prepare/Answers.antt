use Rattle.mk_commands.specs.declared.files.Files.{Files}
use Rattle.mk_commands.proofs.FileLemmas.{files_in-entries}
use Rattle.mk_commands.proofs.files.Files.prepare.Goals as goal

pub returns-clause-same : goal.returns-clause-same
returns-clause-same c =
    let old = c.args.self.now in
    let roomy : Files = record old { stored = c.reserve.new.self } in
    files_in-entries old roomy c.in_ok-reserve.ensures.entries
