use Rattle.std.proofs.Common.{rules}
use Rattle.std.proofs.lemmas.Result.{err_from_is_err_and}
use Rattle.mk_makefile.specs.Wildcards.{with_targets}
use Rattle.mk_reader.proofs.StepLemmas.{here-given, here-wrong, then-fault, then-given}
use Rattle.mk_reader.proofs.WildcardLemmas.{targets-left, targets-none}
use Rattle.mk_reader.proofs.reader.Reader.list_targets.Goals as goal

pub returns-in_err-list_names : goal.returns-in_err-list_names
returns-in_err-list_names g c =
    let p = err_from_is_err_and c.from_residual.result c.from_residual.ensures.1 in
    rw (p.1, p.2)
    (then-fault _ (λ answers found. with_targets c.args.line.now found.0 found.1)
    c.in_err-list_names.ensures)

pub returns-then-is_empty : goal.returns-then-is_empty
returns-then-is_empty g c =
    then-given _ (λ answers found. with_targets c.args.line.now found.0 found.1)
    c.in_ok-list_names.ensures
    (here-wrong _ _ _ _ _
    (λ answers. targets-none c.args.line.now c.list_names.new.names _
    (search rules)))

pub returns : goal.returns
returns g c =
    then-given _ (λ answers found. with_targets c.args.line.now found.0 found.1)
    c.in_ok-list_names.ensures
    (here-given _ _ _ _ _
    (λ answers. targets-left c.args.line.now c.list_names.new.names _
    (λ none. absurd (search rules))))
