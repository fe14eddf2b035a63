use Rattle.std.proofs.Common.{◌≡◌, ◌∷◌, codes, map}
use Rattle.mk_generate.specs.Input as spec
use Rattle.mk_generate.proofs.input.files.Given as goal

abbrev pub invariant-loop-i : goal.invariant-loop-i
invariant-loop-i l =
    l.files ≡ spec.file (codes "makefile") (spec.makefile_of l.n) ∷ map spec.source_file (spec.below l.i)
