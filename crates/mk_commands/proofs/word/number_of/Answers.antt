use Rattle.std.proofs.Common.{ℕ, ◌<◌, ◌≤◌, ◌^◌, lit<, arith}
use Rattle.std.proofs.Math.Nat.{pow-le-pow_right}
use Rattle.mk_commands.proofs.word.number_of.Goals as goal

-- so many digits write no more than this
at_most : (i : ℕ) → i < 9 → 10 ^ i ≤ 100000000
at_most i few = let within : i ≤ 8 = omega arith in pow-le-pow_right {n = 10} (lit< tt) within

pub overflow_mul-number : goal.overflow_mul-number
overflow_mul-number c =
    let most = at_most c.loop-byte.byte-index (omega arith) in omega (arith, most)

pub overflow_add-number : goal.overflow_add-number
overflow_add-number c =
    let most = at_most c.loop-byte.byte-index (omega arith) in omega (arith, most)
