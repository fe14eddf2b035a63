use Rattle.std.proofs.Common.{◌≡◌, Some, None, ◌∷◌, slice_get, sym, ◌∙◌, ap, refl}
use Rattle.std.specs.Map.{values_of}
use Rattle.mk_bytes.specs.Bytes.{space}
use Rattle.mk_scopes.specs.Tables.{appended_at}
use Rattle.mk_scopes.proofs.PlaceLemmas.{pushed_at, refused_at, appended_at-behind}
use Rattle.mk_scopes.proofs.table.Table.append_at.Goals as goal

pub returns-clause-ok : goal.returns-clause-ok
returns-clause-ok c =
    let there : slice_get (values_of c.self.inside.values.entries) c.args.place
    ≡ Some c.in-Some.text.now =
    sym c.get_index_mut.ensures.value ∙ rw c.in-Some.is refl in
    pushed_at c.self.inside.values.entries c.args.place c.in-Some.text.now c.args.value.now
    c.push_both.new.self (space ∷ c.args.value.now) c.args.self.now c.push_both.result there
    refl c.self.view_is c.push_both.ensures.ok

pub returns-clause-err : goal.returns-clause-err
returns-clause-err c =
    let there : slice_get (values_of c.self.inside.values.entries) c.args.place
    ≡ Some c.in-Some.text.now =
    sym c.get_index_mut.ensures.value ∙ rw c.in-Some.is refl in
    refused_at c.self.inside.values.entries c.args.place c.in-Some.text.now
    c.push_both.new.self c.args.self.now c.push_both.result there c.self.view_is
    c.push_both.ensures.err

pub returns-in_default-clause-ok : goal.returns-in_default-clause-ok
returns-in_default-clause-ok c =
    let behind : slice_get (values_of c.self.inside.values.entries) c.args.place ≡ None =
    sym c.get_index_mut.ensures.value ∙ rw c.in_default.is refl in
    sym (appended_at-behind c.self.inside.values.entries c.args.place c.args.value.now behind)
    ∙ ap (λ pairs. appended_at pairs c.args.place c.args.value.now) c.self.view_is
