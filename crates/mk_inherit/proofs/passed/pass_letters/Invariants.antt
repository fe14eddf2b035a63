use Rattle.std.proofs.Common.{◌≡◌, ◌++◌, length}
use Rattle.mk_inherit.specs.Passed as spec
use Rattle.mk_inherit.proofs.passed.pass_letters.Given as goal

-- what was passed on, with what the letters that are left give
abbrev pub invariant-loop-rest : goal.invariant-loop-rest
invariant-loop-rest l = record {
  out : l.out ++ spec.letters_passed l.rest ≡ l.fn.out ++ spec.letters_passed l.letters;
  expected : spec.behind_letters l.rest ≡ spec.behind_letters l.letters;
}

abbrev pub decreases-loop-rest : goal.decreases-loop-rest
decreases-loop-rest l = length l.rest
