use Rattle.std.proofs.Common.{refl}
use Rattle.std.proofs.lemmas.Result.{err_from_is_err_and}
use Rattle.mk_makefile.specs.Modes.{mode_at}
use Rattle.mk_reader.proofs.StepLemmas.{here-given, then-fault, then-given}
use Rattle.mk_reader.proofs.reader.Reader.mode_exporting.Goals as goal

pub returns-in_err-exports : goal.returns-in_err-exports
returns-in_err-exports g c =
    let p = err_from_is_err_and c.from_residual.result c.from_residual.ensures.1 in
    rw (p.1, p.2)
    (then-fault _ (λ answers exports. mode_at c.args.words.now c.args.ignored exports.0 exports.1)
    c.in_err-exports.ensures)

pub returns : goal.returns
returns g c =
    then-given _ (λ answers exports. mode_at c.args.words.now c.args.ignored exports.0 exports.1)
    c.in_ok-exports.ensures
    (here-given _ _ _ _ _
    (λ answers. rw (c.mode_by.ensures, c.one_job.ensures, c.delete_on_error.ensures) refl))
