use Rattle.std.proofs.lemmas.Result.{err_from_is_err_and}
use Rattle.mk_reader.proofs.CondLemmas.{cond-refused}
use Rattle.mk_reader.proofs.reader.Reader.judge.Goals as goal

pub returns-in_err-cond : goal.returns-in_err-cond
returns-in_err-cond g c =
    let p = err_from_is_err_and c.from_residual.result c.from_residual.ensures.1 in
    rw (p.1, p.2) (cond-refused _ _ _ _ _ c.in_err-cond.ensures.exact)
