use Rattle.std.proofs.Common.{◌≡◌, ℕ, [], length, get_or}
use Rattle.mk_sched.proofs.start.no_followers.Given as goal

abbrev pub invariant-loop : goal.invariant-loop
invariant-loop l = record {
  long : length l.followers.items ≡ l.counter;
  none : (node : ℕ) → get_or l.followers.items node [] ≡ [];
}
