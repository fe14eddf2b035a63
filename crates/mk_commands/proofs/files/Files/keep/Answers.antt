use Rattle.std.proofs.Common.{refl}
use Rattle.mk_commands.proofs.FileLemmas.{files_in-written}
use Rattle.mk_commands.proofs.files.Files.keep.Goals as goal

pub returns-clause-files : goal.returns-clause-files
returns-clause-files c =
    let inserted = rw c.unwrap.ensures at c.insert.ensures.updates in
    files_in-written c.args.self.now (record c.args.self.now { stored = c.insert.new.self })
    c.args.path.items c.args.path.items c.args.file.bytes c.args.file.bytes c.args.file.time refl
    refl inserted
