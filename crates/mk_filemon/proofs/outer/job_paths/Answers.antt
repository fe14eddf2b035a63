use Rattle.std.proofs.Common.{◌∙◌, ap}
use Rattle.std.proofs.lemmas.Result.{IfOk-weaker}
use Rattle.mk_filemon.specs.Entries.{paths_that}
use Rattle.mk_filemon.specs.Outer.{all_touches, ops_of}
use Rattle.mk_filemon.specs.declared.trace.Asked.TheVariants.{Found, Missed, Written}
use Rattle.mk_filemon.proofs.TableLemmas.{paths_that-counted}
use Rattle.mk_filemon.proofs.outer.job_paths.Goals as goal

pub returns-clause-found : goal.returns-clause-found
returns-clause-found c =
    IfOk-weaker c.paths_in-paths.result _ _
    (λ paths told. told
    ∙ ap (λ words. paths_that words Found c.in_ok-traces.traces) c.as_slice.ensures.value
    ∙ paths_that-counted c.args.ignored.now Found (all_touches (ops_of c.args.records.now))
    c.in_ok-traces.traces c.in_ok-traces.ensures)
    c.paths_in-paths.ensures.found

pub returns-clause-missed : goal.returns-clause-missed
returns-clause-missed c =
    IfOk-weaker c.paths_in-paths.result _ _
    (λ paths told. told
    ∙ ap (λ words. paths_that words Missed c.in_ok-traces.traces) c.as_slice.ensures.value
    ∙ paths_that-counted c.args.ignored.now Missed (all_touches (ops_of c.args.records.now))
    c.in_ok-traces.traces c.in_ok-traces.ensures)
    c.paths_in-paths.ensures.missed

pub returns-clause-left : goal.returns-clause-left
returns-clause-left c =
    IfOk-weaker c.paths_in-paths.result _ _
    (λ paths told. told
    ∙ ap (λ words. paths_that words Written c.in_ok-traces.traces) c.as_slice.ensures.value
    ∙ paths_that-counted c.args.ignored.now Written (all_touches (ops_of c.args.records.now))
    c.in_ok-traces.traces c.in_ok-traces.ensures)
    c.paths_in-paths.ensures.left
