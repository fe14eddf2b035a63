use Rattle.std.proofs.Common.{◌∙◌, sym, ap}
use Rattle.std.proofs.lemmas.Result.{err_from_is_err_and}
use Rattle.std.specs.List.{list_any}
use Rattle.mk_wild.specs.Names.{is_pattern}
use Rattle.mk_reader.proofs.StepLemmas.{here-given}
use Rattle.mk_reader.proofs.WildcardLemmas.{all-plain}
use Rattle.mk_reader.proofs.reader.Reader.list_names.Goals as goal

pub returns-then-not-has_pattern : goal.returns-then-not-has_pattern
returns-then-not-has_pattern g c =
    here-given _ _ _ _ _
    (λ answers. all-plain answers _ c.args.names.now _
    (ap (list_any is_pattern) (sym c.as_slice.ensures.value) ∙ sym c.has_pattern.ensures
    ∙ c.if-not-has_pattern.true))

pub returns-in_err-paths : goal.returns-in_err-paths
returns-in_err-paths g c =
    let p = err_from_is_err_and c.from_residual.result c.from_residual.ensures.1 in
    rw (p.1, p.2) (record {
      leads = c.in_err-paths.ensures.leads;
      gives = λ answers agrees. c.in_err-paths.ensures.gives answers agrees;
    })

pub returns : goal.returns
returns g c = record {
  leads = c.in_ok-paths.ensures.leads;
  gives = λ answers agrees. c.in_ok-paths.ensures.gives answers agrees;
}
