use Rattle.std.proofs.Common.{refl}
use Rattle.std.proofs.lemmas.Result.{err_from_is_err_and}
use Rattle.mk_blocks.specs.Outcomes.{refused}
use Rattle.mk_makefile.specs.declared.fault.What.TheVariants.{Error}
use Rattle.mk_reader.proofs.StepLemmas.{here-wrong, then-fault, then-given}
use Rattle.mk_reader.proofs.reader.Reader.stop.Goals as goal

pub returns-in_err-shown : goal.returns-in_err-shown
returns-in_err-shown g c =
    let p = err_from_is_err_and c.from_residual.result c.from_residual.ensures.1 in
    rw (p.1, p.2) (then-fault _ (λ answers shown. refused (Error shown.0)) c.in_err-shown.ensures)

pub returns : goal.returns
returns g c =
    then-given _ (λ answers shown. refused (Error shown.0)) c.in_ok-shown.ensures
    (here-wrong _ _ _ _ _ (λ answers. refl))
