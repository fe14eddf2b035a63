use Rattle.std.proofs.Common.{◌≡◌, ◌∙◌, ap₂, rules}
use Rattle.std.specs.Option.{unwrap_or}
use Rattle.std.specs.Map.{lookup}
use Rattle.std.specs.Str.{bytes_eq}
use Rattle.mk_recorder.specs.Known.{not_known}
use Rattle.mk_recorder.specs.Tables.{noted}
use Rattle.mk_recorder.proofs.TableLemmas.{insert_entry-lookup}
use Rattle.mk_recorder.proofs.table.Table.note.Goals as goal

pub returns : goal.returns
returns c =
    let entries = c.self.inside.known.entries in
    let key = c.in_ok-key.key in
    let written = c.in_ok-self-inside.ensures.update.1 c.after.result in
    let found = c.in_ok-self-inside.ensures.value in
    let old = c.or_insert-known.ensures.value in
    let before : c.or_insert-known.result.now
    ≡ unwrap_or (lookup (λ other. bytes_eq key.items other.items) entries) not_known = cc in
    insert_entry-lookup _ key c.args.touch entries c.or_insert-known.result.now before
    (search (rules, written, c.after.ensures))
    ∙ ap₂ (λ table path. noted table path c.args.touch) c.self.view_is c.in_ok-key.ensures.items
