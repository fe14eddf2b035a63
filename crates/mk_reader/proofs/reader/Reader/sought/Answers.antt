use Rattle.std.proofs.Common.{refl}
use Rattle.std.proofs.lemmas.Result.{err_from_is_err_and}
use Rattle.mk_makefile.specs.ReadFaults.{of_what, sorted}
use Rattle.mk_makefile.specs.Refusals as refusals
use Rattle.mk_reader.proofs.TieLemmas.{seen-given, seen-refused, still-want}
use Rattle.mk_reader.proofs.ReadLemmas.{sorted-refusal}
use Rattle.mk_reader.proofs.reader.Reader.sought.Goals as goal

pub returns-in_err-path : goal.returns-in_err-path
returns-in_err-path g c =
    let p = err_from_is_err_and c.from_residual.result c.from_residual.ensures.1 in
    rw (p.1, p.2) (still-want _ sorted _ _ _ refl)

pub returns-in-Ok : goal.returns-in-Ok
returns-in-Ok g c =
    seen-given _ of_what refusals.sorted sorted _ (λ answers. refl)
    (rw (c.in_ok-path.ensures, c.cwd.ensures.value) at c.in-Ok.ensures)

pub returns : goal.returns
returns g c =
    rw c.refused.ensures
    (seen-refused _ of_what refusals.sorted sorted _ (sorted-refusal _)
    (rw (c.in_ok-path.ensures, c.cwd.ensures.value) at c.in-Err.ensures))
