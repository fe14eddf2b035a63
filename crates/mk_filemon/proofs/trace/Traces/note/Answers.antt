use Rattle.std.proofs.Common.{◌≡◌, ◌∙◌, ap₂, rules}
use Rattle.std.specs.Option.{unwrap_or}
use Rattle.std.specs.Map.{lookup}
use Rattle.std.specs.Str.{bytes_eq}
use Rattle.mk_filemon.specs.Entries.{noted, no_trace}
use Rattle.mk_filemon.proofs.TableLemmas.{insert_entry-lookup}
use Rattle.mk_filemon.proofs.trace.Traces.note.Goals as goal

pub returns : goal.returns
returns c =
    let entries = c.self.inside.traces.entries in
    let key = c.bytes.result in
    let written = c.in_ok-self-inside.ensures.update.1 c.after.result in
    let found = c.in_ok-self-inside.ensures.value in
    let old = c.or_insert-trace.ensures.value in
    let before : c.or_insert-trace.result.now
    ≡ unwrap_or (lookup (λ other. bytes_eq key.now other.now) entries) no_trace = cc in
    insert_entry-lookup _ key c.args.touch entries c.or_insert-trace.result.now before
    (search (rules, written, c.after.ensures))
    ∙ ap₂ (λ table path. noted table path c.args.touch) c.self.view_is c.bytes.ensures.value
