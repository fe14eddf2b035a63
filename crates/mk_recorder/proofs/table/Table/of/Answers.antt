use Rattle.std.proofs.Common.{◌≡◌, ◌∙◌, Some, None, ap}
use Rattle.std.specs.Map.{lookup}
use Rattle.std.specs.Option.{unwrap_or}
use Rattle.std.specs.Str.{bytes_eq}
use Rattle.mk_recorder.specs.Known.{not_known}
use Rattle.mk_recorder.specs.Tables.{known_in}
use Rattle.mk_recorder.proofs.TableLemmas.{known_in-lookup}
use Rattle.mk_recorder.proofs.table.Table.of.Goals as goal

pub returns-in-Some : goal.returns-in-Some
returns-in-Some c =
    let path = c.args.path.now in
    let entries = c.self.inside.known.entries in
    let found : Some c.in-Some.known.now ≡ lookup (λ key. bytes_eq path key.items) entries =
    c.in-Some.ensures.value in
    ap (λ known. unwrap_or known not_known) found
    ∙ known_in-lookup path entries
    ∙ ap (λ table. known_in table path) c.self.view_is

pub returns-in-None : goal.returns-in-None
returns-in-None c =
    let path = c.args.path.now in
    let entries = c.self.inside.known.entries in
    let none : None ≡ lookup (λ key. bytes_eq path key.items) entries = c.in-None.ensures.value in
    c.not_known.ensures
    ∙ ap (λ known. unwrap_or known not_known) none
    ∙ known_in-lookup path entries
    ∙ ap (λ table. known_in table path) c.self.view_is
