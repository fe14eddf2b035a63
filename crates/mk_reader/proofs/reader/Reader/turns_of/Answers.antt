use Rattle.std.proofs.lemmas.Result.{err_from_is_err_and}
use Rattle.mk_directive.specs.Words.{words_of}
use Rattle.mk_makefile.specs.Blocks.{divided}
use Rattle.mk_makefile.proofs.LineLemmas.{divided-err, divided-ok}
use Rattle.mk_reader.proofs.StepLemmas.{here-given, here-want, here-wrong, then-fault, then-given}
use Rattle.mk_reader.proofs.reader.Reader.turns_of.Goals as goal

pub returns-in_err-text : goal.returns-in_err-text
returns-in_err-text g c =
    let p = err_from_is_err_and c.from_residual.result c.from_residual.ensures.1 in
    rw (p.1, p.2) (then-fault _ (λ answers shown. divided c.args.names (words_of shown.0) shown.1) c.in_err-text.ensures)

pub returns-in_err-words : goal.returns-in_err-words
returns-in_err-words g c =
    let p = err_from_is_err_and c.from_residual-in_err-words.result c.from_residual-in_err-words.ensures.1 in
    rw (p.1, p.2) (then-given _ (λ answers shown. divided c.args.names (words_of shown.0) shown.1) c.in_ok-text.ensures (here-want _ _ _ _))

pub returns-in-Ok : goal.returns-in-Ok
returns-in-Ok g c =
    then-given _ (λ answers shown. divided c.args.names (words_of shown.0) shown.1) c.in_ok-text.ensures
    (here-given _ _ _ _ _ (λ answers.
    rw (← c.bytes.ensures.value, ← c.in_ok-words.ensures)
    (divided-ok c.args.names c.in_ok-words.words c.in-Ok.turns _ c.in-Ok.ensures)))

pub returns : goal.returns
returns g c =
    then-given _ (λ answers shown. divided c.args.names (words_of shown.0) shown.1) c.in_ok-text.ensures
    (here-wrong _ _ _ _ _ (λ answers.
    rw (← c.bytes.ensures.value, ← c.in_ok-words.ensures)
    (divided-err c.args.names c.in_ok-words.words c.in-Err.what _ c.in-Err.ensures)))
