use Rattle.std.proofs.Common.{◌≡◌, ◌++◌, drop}
use Rattle.mk_values.specs.Locals.{spaced, behind_spaces}
use Rattle.mk_values.proofs.local.spaced.Given as goal

-- the texts so far, and the texts that are left
abbrev pub invariant-loop-text : goal.invariant-loop-text
invariant-loop-text l = l.out ++ behind_spaces (drop l.text-index l.rest) ≡ spaced l.texts
