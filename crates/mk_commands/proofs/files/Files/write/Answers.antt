use Rattle.mk_commands.proofs.FileLemmas.{files_in-written}
use Rattle.mk_commands.proofs.files.Files.write.Goals as goal

pub returns-clause-ok : goal.returns-clause-ok
returns-clause-ok c =
    files_in-written c.args.self.now (record c.args.self.now { stored = c.insert.new.self })
    c.in_ok-path.path.items c.args.path.now c.in_ok-bytes.bytes c.args.bytes.now c.args.time
    c.in_ok-path.ensures.items c.in_ok-bytes.ensures c.in_ok-insert.ensures.updates
