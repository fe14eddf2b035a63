use Rattle.std.proofs.Common.{◌≡◌, ◌++◌, drop}
use Rattle.mk_closure.specs.Members as spec
use Rattle.mk_closure.proofs.closure.Closure.numbers.Given as goal

-- the numbers so far, and those of the other names
abbrev pub invariant-loop-name : goal.invariant-loop-name
invariant-loop-name l =
    spec.numbers_in l.self l.names
    ≡ l.numbers ++ spec.numbers_in l.self (drop l.name-index l.names)
