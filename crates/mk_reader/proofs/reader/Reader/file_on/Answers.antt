use Rattle.std.proofs.Common.{refl}
use Rattle.std.proofs.lemmas.Result.{err_from_is_err_and}
use Rattle.mk_makefile.specs.Inclusions.{may_miss, wanted_read}
use Rattle.mk_reader.proofs.StepLemmas.{left-changed, left-given, then-fault, then-given}
use Rattle.mk_reader.proofs.reader.Reader.file_on.Goals as goal

pub returns-in_err-text : goal.returns-in_err-text
returns-in_err-text g c =
    let p = err_from_is_err_and c.from_residual.result c.from_residual.ensures.1 in
    rw (p.1, p.2)
    (left-given _
    (left-changed _ _ _ (record { world = refl; err = refl; state = refl; order = refl; same = refl }) _ _ refl refl (λ answers. refl))
    (then-fault _
    (λ answers text. wanted_read answers c.args.file.now (may_miss c.args.line.now) text.0 text.1)
    (rw c.argument_on.ensures at c.in_err-text.ensures)))

pub returns : goal.returns
returns g c =
    left-given _
    (left-changed _ _ _ (record { world = refl; err = refl; state = refl; order = refl; same = refl }) _ _ refl refl (λ answers. refl))
    (then-given _
    (λ answers text. wanted_read answers c.args.file.now (may_miss c.args.line.now) text.0 text.1)
    (rw c.argument_on.ensures at c.in_ok-text.ensures)
    (rw (← c.bytes.ensures.value, ← c.may_miss.ensures) c.find.ensures))
