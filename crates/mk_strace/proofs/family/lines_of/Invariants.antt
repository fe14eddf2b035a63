use Rattle.std.proofs.Common.{◌≡◌, ◌++◌, length}
use Rattle.mk_strace.specs.Families.{lines_of}
use Rattle.mk_strace.specs.Held.{texts_in}
use Rattle.mk_strace.proofs.family.lines_of.Given as goal

-- the lines so far, and those that are left
abbrev pub invariant-each : goal.invariant-each
invariant-each l =
    l.lines ++ lines_of (texts_in l.family) l.rest ≡ lines_of (texts_in l.family) l.trace

abbrev pub decreases-each : goal.decreases-each
decreases-each l = length l.rest
