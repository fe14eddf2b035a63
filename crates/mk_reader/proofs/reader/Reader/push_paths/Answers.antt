use Rattle.std.proofs.Common.{refl, ◌∙◌}
use Rattle.std.proofs.lemmas.Result.{err_from_is_err_and}
use Rattle.mk_reader.proofs.StepLemmas.{given-as, here-given, here-want}
use Rattle.mk_reader.proofs.WildcardLemmas.{with-pattern, with-plain}
use Rattle.mk_reader.proofs.reader.Reader.push_paths.Goals as goal

pub returns-then-is_pattern : goal.returns-then-is_pattern
returns-then-is_pattern g c =
    given-as _ _ _ _ _ _
    (λ answers. with-pattern answers c.args.paths.now c.args.name.now _
    (rw (c.is_pattern.ensures, c.bytes.ensures.value) at c.if-is_pattern.true))
    (rw c.bytes-then-is_pattern.ensures.value at c.push_matches.ensures)

pub returns-in_err-copy : goal.returns-in_err-copy
returns-in_err-copy g c =
    let p = err_from_is_err_and c.from_residual.result c.from_residual.ensures.1 in
    rw (p.1, p.2) (here-want _ _ _ _)

pub returns-in_err-push : goal.returns-in_err-push
returns-in_err-push g c =
    let p = err_from_is_err_and c.from_residual-in_err-push.result
    c.from_residual-in_err-push.ensures.1 in
    rw (p.1, p.2) (here-want _ _ _ _)

pub returns : goal.returns
returns g c =
    given-as _ _ _ _ _ _
    (λ answers. with-plain answers c.args.paths.now c.args.name.now _
    (rw (c.is_pattern.ensures, c.bytes.ensures.value) at c.if-is_pattern.false))
    (here-given _ _ _ _ _ (λ answers. rw (c.in_ok-push.ensures.ok, c.in_ok-copy.ensures) refl))
