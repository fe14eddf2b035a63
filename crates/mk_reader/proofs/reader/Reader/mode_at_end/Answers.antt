use Rattle.std.proofs.Common.{refl}
use Rattle.std.proofs.lemmas.Result.{err_from_is_err_and}
use Rattle.mk_makefile.specs.ReadFaults.{of_end, sorted}
use Rattle.mk_makefile.specs.Refusals as refusals
use Rattle.mk_reader.proofs.ReadLemmas.{sorted-end}
use Rattle.mk_reader.proofs.TieLemmas.{seen-given, seen-refused, still-want}
use Rattle.mk_reader.proofs.reader.Reader.mode_at_end.Goals as goal

pub returns-in_err-file : goal.returns-in_err-file
returns-in_err-file g c =
    let p = err_from_is_err_and c.from_residual.result c.from_residual.ensures.1 in
    rw (p.1, p.2) (still-want _ sorted _ _ _ refl)

pub returns-in-Ok : goal.returns-in-Ok
returns-in-Ok g c =
    seen-given _ (of_end c.args.self.now.state.now.made.file) refusals.sorted sorted _
    (λ answers. refl) c.in-Ok.ensures

pub returns-in-Err : goal.returns-in-Err
returns-in-Err g c =
    rw (c.refused_at_end.ensures, c.in_ok-file.ensures)
    (seen-refused _ (of_end c.args.self.now.state.now.made.file) refusals.sorted sorted _
    (sorted-end _ _) c.in-Err.ensures)
