use Rattle.std.proofs.Common.{◌∙◌, ap}
use Rattle.mk_filemon.specs.Held.{directories_in}
use Rattle.mk_filemon.specs.Log.{with_directory}
use Rattle.mk_filemon.proofs.DirectoryLemmas.{directories_in-updates}
use Rattle.mk_filemon.proofs.directory.Directories.set.Goals as goal

pub returns : goal.returns
returns c =
    directories_in-updates c.args.self.now
    (record c.args.self.now { directories = c.insert.new.self })
    c.in_ok-process.process.items c.args.directory c.in_ok-insert.ensures.updates
    ∙ ap (λ process. with_directory (directories_in c.args.self.now) process c.args.directory)
    c.in_ok-process.ensures.items
