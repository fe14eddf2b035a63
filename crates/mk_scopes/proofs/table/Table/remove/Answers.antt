use Rattle.std.proofs.Common.{◌∙◌, ap}
use Rattle.mk_scopes.specs.Entries.{pairs_of}
use Rattle.mk_scopes.specs.Tables.{without}
use Rattle.mk_scopes.proofs.PlaceLemmas.{without-removed}
use Rattle.mk_scopes.proofs.table.Table.remove.Goals as goal

pub returns : goal.returns
returns c =
    ap pairs_of c.swap_remove.ensures.entries
    ∙ without-removed c.args.name.now c.self.inside.values.entries
    ∙ ap (λ pairs. without pairs c.args.name.now) c.self.view_is
