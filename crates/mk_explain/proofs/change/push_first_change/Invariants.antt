use Rattle.std.proofs.Common.{◌≡◌, ◌+◌, drop}
use Rattle.mk_explain.specs.Changes.{first_change}
use Rattle.mk_explain.proofs.change.push_first_change.Given as goal

-- the first change is among the lines that are left
abbrev pub invariant-loop-place : goal.invariant-loop-place
invariant-loop-place l = record {
  text : l.text ≡ l.fn.text;
  left : first_change (l.place + 1) (drop l.place l.lines) l.behind
      ≡ first_change 1 l.lines l.others;
}
