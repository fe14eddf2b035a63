use Rattle.std.proofs.Common.{length}
use Rattle.mk_lines.specs.Faults.{NoneTooLong}
use Rattle.mk_lines.proofs.fault.falls_into_short_pieces.Given as goal

-- no line of the text is too long where none of the rest is
abbrev pub invariant-loop-rest : goal.invariant-loop-rest
invariant-loop-rest l = NoneTooLong l.rest → NoneTooLong l.text

abbrev pub decreases-loop-rest : goal.decreases-loop-rest
decreases-loop-rest l = length l.rest
