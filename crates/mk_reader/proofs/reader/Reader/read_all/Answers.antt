use Rattle.std.proofs.Common.{refl}
use Rattle.std.proofs.lemmas.Result.{err_from_is_err_and}
use Rattle.mk_blocks.specs.Runs.{run_at}
use Rattle.mk_makefile.specs.ReadFaults.{sorted}
use Rattle.mk_makefile.specs.Reading.{makefiles_read}
use Rattle.mk_reader.proofs.TieLemmas.{does-as, first-refused, first-then}
use Rattle.mk_reader.proofs.reader.Reader.read_all.Goals as goal

pub returns-in_err-apply_words : goal.returns-in_err-apply_words
returns-in_err-apply_words g c =
    let p = err_from_is_err_and c.from_residual.result c.from_residual.ensures.1 in
    rw (p.1, p.2)
    (first-refused _ sorted
    (λ answers first. makefiles_read answers first.1.order.files (run_at first.1 c.args.count.now))
    c.in_err-apply_words.ensures)

pub returns : goal.returns
returns g c =
    first-then _ sorted
    (λ answers first. makefiles_read answers first.1.order.files (run_at first.1 c.args.count.now))
    c.in_ok-apply_words.ensures
    (does-as _ sorted _ _ _ _ (λ answers. rw c.in_ok-apply_words.ensures.leads.order refl)
    c.read_makefiles.ensures)
