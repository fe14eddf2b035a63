use Rattle.std.proofs.Common.{◌∙◌, ap}
use Rattle.mk_scopes.specs.Tables.{value_in}
use Rattle.mk_scopes.proofs.TableLemmas.{lookup-pairs}
use Rattle.mk_scopes.proofs.table.Table.get.Goals as goal

pub returns : goal.returns
returns c =
    c.get.ensures.value ∙ lookup-pairs c.args.name.now c.self.inside.values.entries
    ∙ ap (λ pairs. value_in pairs c.args.name.now) c.self.view_is
