use Rattle.std.proofs.Common.{◌≡◌, ◌++◌, length}
use Rattle.mk_filemon.specs.Escapes.{escaped}
use Rattle.mk_filemon.proofs.escape.push_part.Given as goal

-- what is written so far, and the rest as it is written
abbrev pub invariant-runs : goal.invariant-runs
invariant-runs l =
    l.text ++ escaped l.quoted l.rest ≡ l.fn.text ++ escaped l.quoted l.bytes

abbrev pub decreases-runs : goal.decreases-runs
decreases-runs l = length l.rest
