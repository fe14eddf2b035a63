use Rattle.std.proofs.Common.{◌∙◌, ap}
use Rattle.mk_scopes.specs.Entries.{pairs_of}
use Rattle.mk_scopes.specs.Tables.{assigned}
use Rattle.mk_scopes.proofs.TableLemmas.{insert_entry-pairs}
use Rattle.mk_scopes.proofs.table.Table.assign.Goals as goal

pub returns-clause-ok : goal.returns-clause-ok
returns-clause-ok c =
    ap pairs_of c.in_ok-insert.ensures.entries
    ∙ insert_entry-pairs c.in_ok-name.name c.in_ok-value.value c.self.inside.values.entries
    ∙ rw (c.in_ok-name.ensures.items, c.in_ok-value.ensures)
    (ap (λ pairs. assigned pairs c.args.name.now c.args.value.now) c.self.view_is)
