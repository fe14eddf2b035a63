use Rattle.std.proofs.Common.{sym, ◌∙◌}
use Rattle.std.proofs.lemmas.Result.{err_from_is_err_and}
use Rattle.mk_makefile.specs.Wildcards.{sources_listed}
use Rattle.mk_reader.proofs.StepLemmas.{given-as, here-given, then-fault, then-given}
use Rattle.mk_reader.proofs.WildcardLemmas.{listed-other, listed-rule}
use Rattle.mk_reader.proofs.reader.Reader.list_line.Goals as goal

pub returns-then-is_some : goal.returns-then-is_some
returns-then-is_some g c =
    here-given _ _ _ _ _ (λ answers. listed-rule answers c.args.line.now _
    (sym c.is_some.ensures ∙ c.if-is_some.true))

pub returns-in_err-list_targets : goal.returns-in_err-list_targets
returns-in_err-list_targets g c =
    let p = err_from_is_err_and c.from_residual.result c.from_residual.ensures.1 in
    rw (p.1, p.2)
    (given-as _ _ _ _ _ _ (λ answers. listed-other answers c.args.line.now _
    (sym c.is_some.ensures ∙ c.if-is_some.false))
    (then-fault _ (λ answers next. sources_listed answers next.0 next.1) c.in_err-list_targets.ensures))

pub returns : goal.returns
returns g c =
    given-as _ _ _ _ _ _ (λ answers. listed-other answers c.args.line.now _
    (sym c.is_some.ensures ∙ c.if-is_some.false))
    (then-given _ (λ answers next. sources_listed answers next.0 next.1) c.in_ok-list_targets.ensures
    c.list_sources.ensures)
