use Rattle.std.proofs.Common.{Ok, sym, ap, ◌∙◌}
use Rattle.std.proofs.lemmas.Result.{err_from_is_err_and}
use Rattle.mk_turns.specs.OpenLoops.{turns_in}
use Rattle.mk_turns.specs.Texts.{text_or}
use Rattle.mk_blocks.proofs.AskLemmas.{asked-ok, asked-err, asked-long}
use Rattle.mk_blocks.proofs.line.included.Goals as goal

pub returns-in_err-changed : goal.returns-in_err-changed
returns-in_err-changed g c = λ count.
    let p = err_from_is_err_and c.from_residual.result c.from_residual.ensures.1 in
    rw (p.1, p.2) (asked-long g.L.Language.ties c.args.language.now (λ m. m.included)
    c.args.file.now.name.now (turns_in c.args.loops.now) c.args.line.now count
    c.in_err-changed.field-0.0 c.in_err-changed.ensures)

pub returns-in-Ok : goal.returns-in-Ok
returns-in-Ok g c = λ count.
    let text = c.in_ok-changed.ensures
    ∙ ap Ok (sym (c.text_or-text.ensures ∙ ap (text_or c.in_ok-changed.changed) c.bytes.ensures)) in
    asked-ok g.L.Language.ties (λ m. m.included) (λ given. given) c.args.file.now.name.now
    (turns_in c.args.loops.now)
    c.args.line.now count c.first.result _ _ c.first.ensures text c.in-Ok.ensures

pub returns : goal.returns
returns g c = λ count.
    let text = c.in_ok-changed.ensures
    ∙ ap Ok (sym (c.text_or-text.ensures ∙ ap (text_or c.in_ok-changed.changed) c.bytes.ensures)) in
    asked-err g.L.Language.ties (λ m. m.included) (λ given. given) c.args.file.now.name.now
    (turns_in c.args.loops.now)
    c.args.line.now count c.first.result _ c.in-Err.fault c.placed.result c.first.ensures
    text
    c.in-Err.ensures (rw (c.first.ensures, ← c.first-in-Err.ensures) c.placed.ensures)
