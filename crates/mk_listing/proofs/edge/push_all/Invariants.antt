use Rattle.std.proofs.Common.{◌≡◌, ◌++◌, drop, flat_map}
use Rattle.mk_listing.proofs.edge.push_all.Given as goal

-- the lines so far, and those that are left
abbrev pub invariant-loop-line : goal.invariant-loop-line
invariant-loop-line l =
    l.out ++ flat_map (λ line. line) (drop l.line-index l.lines)
    ≡ l.initial.out ++ flat_map (λ line. line) l.lines
