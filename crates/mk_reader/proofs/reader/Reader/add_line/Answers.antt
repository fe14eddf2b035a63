use Rattle.std.specs.Option.{option_copied}
use Rattle.std.proofs.lemmas.Result.{err_from_is_err_and}
use Rattle.mk_makefile.specs.Steps.{line_opened}
use Rattle.mk_reader.proofs.DependencyLemmas.{line-parsed, line-refused}
use Rattle.mk_reader.proofs.StepLemmas.{given-as, then-fault, then-given}
use Rattle.mk_reader.proofs.reader.Reader.add_line.Goals as goal

pub returns-in_err-line : goal.returns-in_err-line
returns-in_err-line g c =
    let p = err_from_is_err_and c.from_residual.result c.from_residual.ensures.1 in
    rw (p.1, p.2)
    (line-refused _ _ _ (option_copied c.args.command) c.args.text.now _
    (rw (c.cwd.ensures.value, c.suffixes.ensures) at c.in_err-line.ensures))

pub returns-in_err-list_line : goal.returns-in_err-list_line
returns-in_err-list_line g c =
    let p = err_from_is_err_and c.from_residual-in_err-list_line.result
    c.from_residual-in_err-list_line.ensures.1 in
    rw (p.1, p.2)
    (given-as _ _ _ _ _ _
    (λ answers. line-parsed answers (option_copied c.args.command) c.args.text.now _ _
    (rw (c.cwd.ensures.value, c.suffixes.ensures) at c.in_ok-line.ensures))
    (then-fault _ (λ answers found. line_opened (option_copied c.args.command) found.0 found.1)
    c.in_err-list_line.ensures))

pub returns : goal.returns
returns g c =
    given-as _ _ _ _ _ _
    (λ answers. line-parsed answers (option_copied c.args.command) c.args.text.now _ _
    (rw (c.cwd.ensures.value, c.suffixes.ensures) at c.in_ok-line.ensures))
    (then-given _ (λ answers found. line_opened (option_copied c.args.command) found.0 found.1)
    c.in_ok-list_line.ensures c.add_listed.ensures)
