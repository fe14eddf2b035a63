use Rattle.std.proofs.Common.{None, refl}
use Rattle.mk_commands.proofs.FileLemmas.{files_in-updates}
use Rattle.mk_commands.proofs.files.Files.remove.Goals as goal

pub returns-clause-files : goal.returns-clause-files
returns-clause-files c = λ time.
    files_in-updates c.args.self.now (record c.args.self.now { stored = c.swap_remove.new.self })
    c.args.path.now None None time c.swap_remove.ensures.updates refl
