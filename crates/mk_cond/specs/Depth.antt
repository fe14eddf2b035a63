-- How deep conditions stand in one another.
use Rattle.std.specs.Prelude.{ℕ, suc, nat_le, if◌then◌else◌}
use Rattle.mk_cond.specs.Cond.{Cond, Conds, any, all, negate, test, alone, both, no_more, cond_then}

abbrev pub larger : ℕ → ℕ → ℕ
larger m n = if nat_le m n then n else m

-- how many conditions lie round a condition that has none inside, at most
unfoldable mutual
  pub depth : Cond → ℕ
  depth (any conds) = suc (depth_among conds)
  depth (all conds) = suc (depth_among conds)
  depth (negate c) = suc (depth c)
  depth (test fun text) = 0
  depth (alone side) = 0
  depth (both left op right) = 0

  pub depth_among : Conds → ℕ
  depth_among no_more = 0
  depth_among (cond_then c conds) = larger (depth c) (depth_among conds)
