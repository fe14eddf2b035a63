use Rattle.std.proofs.Common.{◌++◌, refl, ap, ◌∙◌}
use Rattle.std.proofs.lemmas.Result.{err_from_is_err_and}
use Rattle.mk_makefile.specs.Moments.{given}
use Rattle.mk_reader.proofs.StepLemmas.{here-given, here-want, then-fault, then-given}
use Rattle.mk_wild.specs.Wild.{taken}
use Rattle.mk_reader.proofs.reader.Reader.push_matches.Goals as goal

pub returns-in_err-dir : goal.returns-in_err-dir
returns-in_err-dir g c =
    let p = err_from_is_err_and c.from_residual.result c.from_residual.ensures.1 in
    rw (p.1, p.2) (here-want _ _ _ _)

pub returns-in_err-names : goal.returns-in_err-names
returns-in_err-names g c =
    let p = err_from_is_err_and c.from_residual-in_err-names.result
    c.from_residual-in_err-names.ensures.1 in
    rw (p.1, p.2)
    (then-fault _
    (λ answers names. given (c.args.paths.now ++ taken c.args.pattern.now names.0) names.1)
    (rw (c.in_ok-dir.ensures, c.directory_of.ensures) at c.in_err-names.ensures))

pub returns-in_err-push_taken : goal.returns-in_err-push_taken
returns-in_err-push_taken g c =
    let p = err_from_is_err_and c.from_residual-in_err-push_taken.result
    c.from_residual-in_err-push_taken.ensures.1 in
    rw (p.1, p.2)
    (then-given _
    (λ answers names. given (c.args.paths.now ++ taken c.args.pattern.now names.0) names.1)
    (rw (c.in_ok-dir.ensures, c.directory_of.ensures) at c.in_ok-names.ensures)
    (here-want _ _ _ _))

pub returns : goal.returns
returns g c =
    then-given _
    (λ answers names. given (c.args.paths.now ++ taken c.args.pattern.now names.0) names.1)
    (rw (c.in_ok-dir.ensures, c.directory_of.ensures) at c.in_ok-names.ensures)
    (here-given _ _ _ _ _ (λ answers. rw (c.in_ok-push_taken.ensures, c.as_ref.ensures.value) refl))
