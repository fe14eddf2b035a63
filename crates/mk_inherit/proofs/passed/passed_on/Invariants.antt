use Rattle.std.proofs.Common.{◌≡◌, ◌++◌, drop}
use Rattle.mk_inherit.specs.Passed as spec
use Rattle.mk_inherit.proofs.passed.passed_on.Given as goal

-- what was passed on, with what the words that are left give
abbrev pub invariant-loop-word : goal.invariant-loop-word
invariant-loop-word l =
    l.out ++ spec.passed_from l.expected (drop l.word-index l.words) ≡ spec.passed l.words
