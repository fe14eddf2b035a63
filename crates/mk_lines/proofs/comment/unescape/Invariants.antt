use Rattle.std.proofs.Common.{◌≡◌, ◌++◌, length}
use Rattle.mk_lines.specs.Comment as spec
use Rattle.mk_lines.proofs.comment.unescape.Given as goal

-- the text so far goes before what the rest of the line gives
abbrev pub invariant-loop-place : goal.invariant-loop-place
invariant-loop-place l = l.text.items ++ spec.unescaped l.rest ≡ spec.unescaped l.line

abbrev pub decreases-loop-place : goal.decreases-loop-place
decreases-loop-place l = length l.rest
