-- Causes of faults, through several calls.
use Rattle.std.proofs.Common.{◌≡◌, ℕ, Result, Ok, Err, IsErrAnd, arith}
use Rattle.mk_world.specs.Causes.{HasCause}

-- a call that went well, and behind it an answer that is no failure of the same object
pub HasCause-behind_ok : {A B E F : Type 0} (failed : E) (other : F) (before after : ℕ) (given : A)
    (answer : Result B F)
    → HasCause failed before after (Ok given) → (answer ≡ Err other → ⊥)
    → HasCause other before after answer
HasCause-behind_ok failed other before after given answer cause never = record {
  kept = cause.kept;
  answered = λ rose. let is = cause.answered rose in cc;
  rose = λ is. absurd (never is);
}

module _ {A E : Type 0} (failed : E) where
  -- where no call was done, and an answer is given
  pub HasCause-stays : (count : ℕ) (given : A) → HasCause failed count count (Ok given)
  HasCause-stays count given = record {
    kept = omega arith;
    answered = λ rose. absurd (omega (arith, rose));
    rose = λ is. absurd cc;
  }

  -- where no call was done, and there is another fault
  pub HasCause-other : (fault : E) → (fault ≡ failed → ⊥) → (count : ℕ) (answer : Result A E)
      → IsErrAnd answer (λ one. one ≡ fault) → HasCause failed count count answer
  HasCause-other fault never count (Ok given) is = absurd is
  HasCause-other fault never count (Err one) is = record {
    kept = omega arith;
    answered = λ rose. absurd (omega (arith, rose));
    rose = λ same. let other : fault ≡ failed = cc in absurd (never other);
  }

  -- a fault that is passed on has its cause
  pub HasCause-passed_on : {B : Type 0} {fault : E} (before after : ℕ) (answer : Result B E)
      → IsErrAnd answer (λ one. one ≡ fault) → HasCause {T = A} failed before after (Err fault)
      → HasCause failed before after answer
  HasCause-passed_on before after (Ok given) is cause = absurd is
  HasCause-passed_on before after (Err one) is cause = rw is (record {
    kept = cause.kept;
    answered = λ rose. let passed = cause.answered rose in cc;
    rose = λ is_failed. let same = is_failed in cause.rose cc;
  })

  -- another fault behind a call that went well
  pub HasCause-behind : {B : Type 0} (fault : E) → (fault ≡ failed → ⊥) → (before after : ℕ)
      {given : A} (answer : Result B E) → IsErrAnd answer (λ one. one ≡ fault)
      → HasCause failed before after (Ok given) → HasCause failed before after answer
  HasCause-behind fault never before after (Ok done) is cause = absurd is
  HasCause-behind fault never before after (Err one) is cause = record {
    kept = cause.kept;
    answered = λ rose. let none = cause.answered rose in absurd cc;
    rose = λ same. let other : fault ≡ failed = cc in absurd (never other);
  }
