use Rattle.std.proofs.Common.{◌≡◌, ◌≤◌, length, take}
use Rattle.mk_decision.specs.Rising.{rise_below}
use Rattle.mk_decision.proofs.wanted.rise_below.Given as goal

-- the places that are left rise below the next one exactly where all rise
abbrev pub invariant-loop-left : goal.invariant-loop-left
invariant-loop-left l = record {
  within : l.left ≤ length l.places;
  rest : rise_below l.places l.bound ≡ rise_below (take l.left l.places) l.next;
}

abbrev pub decreases-loop-left : goal.decreases-loop-left
decreases-loop-left l = l.left
