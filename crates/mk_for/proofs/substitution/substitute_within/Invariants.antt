use Rattle.std.proofs.Common.{◌≡◌, ◌≤◌, ◌++◌, length}
use Rattle.mk_for.specs.Substitution.{replaced}
use Rattle.mk_for.proofs.substitution.substitute_within.Given as goal

-- what is written, and what the rest of the line becomes
abbrev pub invariant-loop-place : goal.invariant-loop-place
invariant-loop-place l =
    (l.text ++ replaced l.names l.words l.rest ≡ replaced l.names l.words l.line)
    × (length l.text ≤ l.limit)

abbrev pub decreases-loop-place : goal.decreases-loop-place
decreases-loop-place l = length l.rest
