use Rattle.std.proofs.Common.{◌≡◌, take, drop}
use Rattle.mk_filemon.specs.Log.{cut_at_gap}
use Rattle.mk_filemon.proofs.EscapeLemmas.{with_bytes}
use Rattle.mk_filemon.proofs.line.cut_at_gap.Given as goal

-- the bytes so far stand before it
abbrev pub invariant-loop-place : goal.invariant-loop-place
invariant-loop-place l =
    with_bytes (take l.place l.text) (cut_at_gap (drop l.place l.text)) ≡ cut_at_gap l.text
