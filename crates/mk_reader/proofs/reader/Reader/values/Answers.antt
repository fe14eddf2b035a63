use Rattle.std.proofs.Common.{◌∙◌}
use Rattle.std.proofs.lemmas.Result.{err_from_is_err_and}
use Rattle.mk_export.proofs.ListLemmas.{named-exports}
use Rattle.mk_makefile.specs.Refusals.{sorted}
use Rattle.mk_reader.proofs.StepLemmas.{here-want}
use Rattle.mk_reader.proofs.TieLemmas.{left-then}
use Rattle.mk_reader.proofs.reader.Reader.values.Goals as goal

pub returns-in_err-names : goal.returns-in_err-names
returns-in_err-names g c =
    let p = err_from_is_err_and c.from_residual.result c.from_residual.ensures.1 in
    rw (p.1, p.2) (here-want _ _ _ _)

pub returns-in_err-new : goal.returns-in_err-new
returns-in_err-new g c =
    let p = err_from_is_err_and c.from_residual-in_err-new.result
    c.from_residual-in_err-new.ensures.1 in
    rw (p.1, p.2)
    (left-then _ sorted (rw c.in_ok-names.ensures.names at c.in_ok-pairs.ensures.pairs)
    (here-want _ _ _ _))

pub new-requires : goal.new-requires
new-requires g c =
    named-exports _ _ (c.in_ok-pairs.ensures.named ∙ c.in_ok-names.ensures.names)
    c.in_ok-names.ensures.lawful
