use Rattle.std.proofs.Common.{◌∙◌, refl}
use Rattle.std.proofs.lemmas.Result.{IfOk-weaker}
use Rattle.mk_filemon.specs.Outer.{all_touches, ops_of}
use Rattle.mk_filemon.specs.declared.trace.Asked.TheVariants.{Found}
use Rattle.mk_filemon.proofs.TableLemmas.{paths_that-noted}
use Rattle.mk_filemon.proofs.outer.outer_found.Goals as goal

pub returns : goal.returns
returns c =
    IfOk-weaker c.paths_by.result _ _
    (λ paths is. is ∙ paths_that-noted Found (all_touches (ops_of c.args.records.now)) _ refl)
    c.paths_by.ensures
