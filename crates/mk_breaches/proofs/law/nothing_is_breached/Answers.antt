use Rattle.mk_breaches.proofs.DeclaredLemmas.{nothing_is_breached}
use Rattle.mk_breaches.proofs.law.nothing_is_breached.Goals as goal

pub returns : goal.returns
returns c = nothing_is_breached
