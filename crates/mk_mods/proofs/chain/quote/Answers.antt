use Rattle.mk_pieces.proofs.PieceLemmas.{Begins-refl}
use Rattle.mk_bytes.proofs.RefusalLemmas.{refused_if}
use Rattle.mk_mods.proofs.chain.quote.Goals as goal

pub returns-in_err-text-clause-shown : goal.returns-in_err-text-clause-shown
returns-in_err-text-clause-shown c = refused_if _ _ c.from_residual.result c.from_residual.ensures.1

pub returns-in_err-text-clause-begins : goal.returns-in_err-text-clause-begins
returns-in_err-text-clause-begins c = Begins-refl _

pub returns-in_err-text-2-clause-shown : goal.returns-in_err-text-2-clause-shown
returns-in_err-text-2-clause-shown c = refused_if _ _ c.from_residual-in_err-text-2.result c.from_residual-in_err-text-2.ensures.1

pub returns-in_err-text-2-clause-begins : goal.returns-in_err-text-2-clause-begins
returns-in_err-text-2-clause-begins c = Begins-refl _

pub returns-in_err-quoted-clause-shown : goal.returns-in_err-quoted-clause-shown
returns-in_err-quoted-clause-shown c = refused_if _ _ c.from_residual-in_err-quoted.result c.from_residual-in_err-quoted.ensures.1

pub returns-in_err-quoted-clause-begins : goal.returns-in_err-quoted-clause-begins
returns-in_err-quoted-clause-begins c = Begins-refl _

pub returns-in_err-place-clause-shown : goal.returns-in_err-place-clause-shown
returns-in_err-place-clause-shown c = refused_if _ _ c.from_residual-in_err-place.result c.from_residual-in_err-place.ensures.1

pub returns-in_err-place-clause-begins : goal.returns-in_err-place-clause-begins
returns-in_err-place-clause-begins c = c.in_err-place.ensures.begins

pub returns-in_err-push-clause-shown : goal.returns-in_err-push-clause-shown
returns-in_err-push-clause-shown c = refused_if _ _ c.from_residual-in_err-push.result c.from_residual-in_err-push.ensures.1

pub returns-in_err-push-clause-begins : goal.returns-in_err-push-clause-begins
returns-in_err-push-clause-begins c = c.in_ok-place.ensures.begins
