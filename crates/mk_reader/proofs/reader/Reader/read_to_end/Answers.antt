use Rattle.std.proofs.lemmas.Result.{err_from_is_err_and}
use Rattle.mk_makefile.specs.ReadFaults.{sorted}
use Rattle.mk_makefile.specs.Reading.{mode_ended}
use Rattle.mk_reader.proofs.TieLemmas.{first-refused, first-then}
use Rattle.mk_reader.proofs.reader.Reader.read_to_end.Goals as goal

pub returns-in_err-read_all : goal.returns-in_err-read_all
returns-in_err-read_all g c =
    let p = err_from_is_err_and c.from_residual.result c.from_residual.ensures.1 in
    rw (p.1, p.2)
    (first-refused _ sorted (λ answers last. mode_ended answers last.state) c.in_err-read_all.ensures)

pub returns : goal.returns
returns g c =
    first-then _ sorted (λ answers last. mode_ended answers last.state) c.in_ok-read_all.ensures
    c.mode_at_end.ensures
