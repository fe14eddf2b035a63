use Rattle.std.proofs.Common.{sym, ◌∙◌}
use Rattle.mk_scopes.specs.Tables.{value_in}
use Rattle.mk_scopes.proofs.PlaceLemmas.{appended_there, appended_first}
use Rattle.mk_scopes.proofs.table.Table.append.Goals as goal

pub returns-in-Some-clause-ok : goal.returns-in-Some-clause-ok
returns-in-Some-clause-ok c =
    appended_there c.args.name.now c.args.value.now (value_in c.args.below.now c.args.name.now)
    c.self.inside.values.entries c.in-Some.place c.args.self.now c.append_at.new.self
    c.append_at.result (sym c.get_index_of.ensures.index ∙ c.in-Some.is) c.self.view_is
    c.append_at.ensures.ok

pub returns-in-None-clause-ok : goal.returns-in-None-clause-ok
returns-in-None-clause-ok c =
    appended_first c.args.name.now c.args.value.now (value_in c.args.below.now c.args.name.now)
    c.self.inside.values.entries c.args.self.now c.append_first.new.self
    c.append_first.result (sym c.get_index_of.ensures.index ∙ c.in-None.is) c.self.view_is
    c.append_first.ensures.ok
