use Rattle.std.proofs.Common.{refl}
use Rattle.std.proofs.lemmas.Result.{err_from_is_err_and}
use Rattle.mk_reader.proofs.StepLemmas.{given-as, here-want}
use Rattle.mk_reader.proofs.reader.Reader.read_line.Goals as goal

pub returns-in-Some : goal.returns-in-Some
returns-in-Some g c =
    given-as _ _ _ _ _ _ (λ answers. rw (← c.command_in.ensures, c.in-Some.is) refl)
    c.read_command.ensures

pub returns-in_err-line : goal.returns-in_err-line
returns-in_err-line g c =
    let p = err_from_is_err_and c.from_residual.result c.from_residual.ensures.1 in
    rw (p.1, p.2) (here-want _ _ _ _)
