use Rattle.std.proofs.Common.{Some, None, is_some, ap, ◌∙◌}
use Rattle.mk_pool.proofs.KeyLemmas.{name_of-index, is_held-contains}
use Rattle.mk_pool.proofs.pool.Pool.find.Goals as goal

pub returns-in_err-place-clause-value : goal.returns-in_err-place-clause-value
returns-in_err-place-clause-value c =
    c.from_residual.ensures
    ∙ name_of-index c.args.bytes.now _ _ None c.self.view_is c.in_err-place.ensures.index

pub returns-in_err-place-clause-held : goal.returns-in_err-place-clause-held
returns-in_err-place-clause-held c =
    ap is_some c.from_residual.ensures
    ∙ is_held-contains c.args.bytes.now _ _ _ c.self.view_is c.in_err-place.ensures.found

pub returns-clause-value : goal.returns-clause-value
returns-clause-value c =
    let place = Some c.in_ok-place.place in
    name_of-index c.args.bytes.now _ _ place c.self.view_is c.in_ok-place.ensures.index

pub returns-clause-held : goal.returns-clause-held
returns-clause-held c =
    is_held-contains c.args.bytes.now _ _ _ c.self.view_is c.in_ok-place.ensures.found
