use Rattle.std.proofs.Common.{◌≡◌}
use Rattle.mk_realworld.proofs.write.write_until.Given as goal

-- nothing comes to be known of times
abbrev pub invariant-loop-tries : goal.invariant-loop-tries
invariant-loop-tries g l = l.system.times ≡ l.fn.system.times
