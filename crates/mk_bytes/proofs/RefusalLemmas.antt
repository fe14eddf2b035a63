-- What is known of an answer that is a refusal.
use Rattle.std.proofs.Common.{Result, Ok, Err, IsErrAnd, IfOk, OnOk}

module _ {A E : Type 0} where
  -- what is said of what is given
  pub refused_if : (Q : E → Type 0) (P : A → Type 0) (answer : Result A E)
      → IsErrAnd answer Q → IfOk answer P
  refused_if Q P (Ok given) is = absurd is
  refused_if Q P (Err fault) is = tt

  -- what is said where a call went well
  pub refused : (Q : E → Type 0) (P : Type 0) (answer : Result A E)
      → IsErrAnd answer Q → OnOk answer P
  refused Q P (Ok given) is = absurd is
  refused Q P (Err fault) is = tt

  -- what holds whatever the answer is
  pub holds : {P : Type 0} (answer : Result A E) → P → OnOk answer P
  holds (Ok given) is = is
  holds (Err fault) is = tt
