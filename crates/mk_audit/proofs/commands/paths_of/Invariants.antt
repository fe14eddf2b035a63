use Rattle.std.proofs.Common.{◌≡◌, map, take}
use Rattle.mk_values.specs.declared.facts.Asked.{Asked}
use Rattle.mk_audit.proofs.commands.paths_of.Given as goal

-- the paths so far
abbrev pub invariant-loop-one : goal.invariant-loop-one
invariant-loop-one l = l.paths ≡ map (λ (one : Asked). one.path) (take l.one-index l.asked)
