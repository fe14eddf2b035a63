use Rattle.std.proofs.Common.{◌≡◌, ◌++◌, drop}
use Rattle.mk_values.specs.Locals.{spaced, behind_spaces}
use Rattle.mk_makefile.proofs.order.spaced.Given as goal

-- the texts so far, and then the rest
abbrev pub invariant-loop-one : goal.invariant-loop-one
invariant-loop-one l = l.text ++ behind_spaces (drop l.one-index l.rest) ≡ spaced l.texts
