-- The cause of a fault behind a call that went well.
use Rattle.std.proofs.Common.{◌≡◌, ◌<◌, ◌⊎◌, inl, inr, ℕ, Result, Ok, Err, IsErrAnd}
use Rattle.std.proofs.Math.Nat.{eq-or-lt_of_le}
use Rattle.mk_world.specs.Causes.{HasCause}

-- where a call went well, the count has not risen in it
behind-by : {A B C E : Type 0} (failed : E) {fault : E} (before mid after : ℕ) {given : A}
    → (before ≡ mid) ⊎ (before < mid) → HasCause {T = A} failed before mid (Ok given)
    → HasCause {T = B} failed mid after (Err fault)
    → HasCause {T = C} failed before after (Err fault)
behind-by failed before mid after (inl is) first second = rw is (record {
  kept = second.kept;
  answered = λ rose. let passed = second.answered rose in cc;
  rose = λ is_failed. let same = is_failed in second.rose cc;
})
behind-by failed before mid after (inr less) first second =
    let never = first.answered less in absurd cc

pub cause-behind : {A B C E : Type 0} (failed : E) {fault : E} (before mid after : ℕ) {given : A}
    (answer : Result C E) → HasCause {T = A} failed before mid (Ok given)
    → HasCause {T = B} failed mid after (Err fault) → IsErrAnd answer (λ one. one ≡ fault)
    → HasCause failed before after answer
cause-behind failed before mid after (Ok done) first second is = absurd is
cause-behind failed before mid after (Err one) first second is =
    rw is (behind-by failed before mid after (eq-or-lt_of_le first.kept) first second)
