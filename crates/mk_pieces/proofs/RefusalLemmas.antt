-- What is known of an answer that is a refusal.
use Rattle.std.proofs.Common.{◌≡◌, Result, Ok, Err, IsErrAnd, IfErr}
use Rattle.mk_pieces.specs.Limits.{IsEarly}
use Rattle.mk_pieces.specs.declared.fault.ModFault.{ModFault}

module _ {A : Type 0} where
  -- a refusal with a fault that may come early
  pub early_as : (fault : ModFault) (answer : Result A ModFault)
      → IsErrAnd answer (λ one. one ≡ fault) → IsEarly fault → IfErr answer IsEarly
  early_as fault (Ok given) is early = absurd is
  early_as fault (Err one) is early = rw is early
