use Rattle.std.proofs.Common.{◌-◌, length}
use Rattle.mk_makefile.proofs.SemicolonLemmas.{IsLeft}
use Rattle.mk_makefile.proofs.dependency.first_semicolon.Given as goal

abbrev pub decreases-loop-at : goal.decreases-loop-at
decreases-loop-at l = length l.line - l.at

abbrev pub invariant-loop-at : goal.invariant-loop-at
invariant-loop-at l = IsLeft l.line l.at
