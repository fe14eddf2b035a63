use Rattle.std.proofs.Common.{◌∙◌, ap}
use Rattle.mk_commands.specs.Changes.{changed_all}
use Rattle.mk_commands.specs.Files.{files_in}
use Rattle.mk_commands.specs.declared.files.Files.{Files}
use Rattle.mk_commands.proofs.FileLemmas.{files_in-entries}
use Rattle.mk_commands.proofs.files.Files.apply_all.Goals as goal

pub returns-clause-ok : goal.returns-clause-ok
returns-clause-ok c =
    let old = c.args.self.now in
    let roomy : Files = record old { stored = c.reserve.new.self } in
    c.make_all.ensures
    ∙ ap (λ files. changed_all files c.in_ok-changes.changes.items)
    (files_in-entries old roomy c.in_ok-reserve.ensures.entries)
    ∙ c.in_ok-changes.ensures.effects (files_in old)
