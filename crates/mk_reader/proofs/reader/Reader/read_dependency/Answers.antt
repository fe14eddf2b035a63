use Rattle.std.specs.Option.{option_copied}
use Rattle.std.proofs.lemmas.Result.{err_from_is_err_and}
use Rattle.mk_makefile.specs.Steps.{line_added}
use Rattle.mk_reader.proofs.DependencyLemmas.{part-refused, parts-read}
use Rattle.mk_reader.proofs.StepLemmas.{given-as, then-fault, then-given}
use Rattle.mk_reader.proofs.reader.Reader.read_dependency.Goals as goal

pub returns-in_err-text : goal.returns-in_err-text
returns-in_err-text g c =
    let p = err_from_is_err_and c.from_residual.result c.from_residual.ensures.1 in
    rw (p.1, p.2) (part-refused _ _ _ c.args.line.now _ c.in_err-text.ensures)

pub returns-in_err-value : goal.returns-in_err-value
returns-in_err-value g c =
    let p = err_from_is_err_and c.from_residual-in_err-value.result
    c.from_residual-in_err-value.ensures.1 in
    rw (p.1, p.2)
    (given-as _ _ _ _ _ _ (λ answers. parts-read answers c.args.line.now _ _ c.in_ok-text.ensures)
    (then-fault _
    (λ answers shown. line_added answers (option_copied c.in_ok-text.command) shown.0 shown.1)
    c.in_err-value.ensures))

pub returns : goal.returns
returns g c =
    given-as _ _ _ _ _ _ (λ answers. parts-read answers c.args.line.now _ _ c.in_ok-text.ensures)
    (then-given _
    (λ answers shown. line_added answers (option_copied c.in_ok-text.command) shown.0 shown.1)
    c.in_ok-value.ensures (rw (← c.bytes.ensures.value) c.add_line.ensures))
