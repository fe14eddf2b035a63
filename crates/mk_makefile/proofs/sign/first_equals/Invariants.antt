use Rattle.std.proofs.Common.{◌≡◌, ◌+◌, ◌≤◌, drop}
use Rattle.std.specs.Option.{option_map}
use Rattle.mk_makefile.specs.Assignments.{equals_at}
use Rattle.mk_makefile.proofs.sign.first_equals.Given as goal

-- the first place is in the rest, which is read with the brackets that are open by then
abbrev pub invariant-loop-at : goal.invariant-loop-at
invariant-loop-at l = record {
  same : option_map (λ k. k + l.at) (equals_at l.depth (drop l.at l.line)) ≡ equals_at 0 l.line;
  small : l.depth ≤ l.at;
}
