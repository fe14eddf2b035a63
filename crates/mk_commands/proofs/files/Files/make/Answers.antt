use Rattle.std.proofs.Common.{◌∙◌, ap, sym}
use Rattle.mk_commands.specs.Changes.{changed, deleted, written}
use Rattle.mk_commands.specs.Files.{files_in}
use Rattle.mk_commands.proofs.files.Files.make.Goals as goal

pub returns-in-Delete-clause-files : goal.returns-in-Delete-clause-files
returns-in-Delete-clause-files c =
    let old = files_in c.args.self.now in
    c.remove.ensures.files 0 ∙ ap (deleted old) c.bytes.ensures.value
    ∙ ap (changed old) (sym c.in-Delete.is)

pub returns-in-Move-clause-files : goal.returns-in-Move-clause-files
returns-in-Move-clause-files c =
    let old = files_in c.args.self.now in
    c.keep-in-Move.ensures.files
    ∙ ap (λ files. written files c.in-Move.to.items c.in-Move.file)
    (c.remove-in-Move.ensures.files 0 ∙ ap (deleted old) c.bytes-in-Move.ensures.value)
    ∙ ap (changed old) (sym c.in-Move.is)
