use Rattle.std.proofs.Common.{◌≡◌, ◌++◌, drop}
use Rattle.mk_wild.specs.Wild.{taken_of}
use Rattle.mk_wild.proofs.paths.push_paths.Given as goal

-- the paths so far, and those of the names that are left
abbrev pub invariant-loop-name : goal.invariant-loop-name
invariant-loop-name l =
    l.paths ++ taken_of l.pattern (drop l.name-index l.names)
    ≡ l.initial.paths ++ taken_of l.pattern l.names
