use Rattle.mk_for.proofs.LimitLemmas.{length-written}
use Rattle.mk_for.proofs.form.written_len.Goals as goal

pub returns : goal.returns
returns c =
    rw (c.opening.ensures, c.special_count.ensures.count, c.closing.ensures)
    (length-written c.args.form c.args.word.now)
