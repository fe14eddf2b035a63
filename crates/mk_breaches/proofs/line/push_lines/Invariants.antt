use Rattle.std.proofs.Common.{◌≡◌, ◌++◌, drop, flat_map}
use Rattle.mk_breaches.specs.Lines.{line_of}
use Rattle.mk_breaches.proofs.line.push_lines.Given as goal

-- the lines so far, and those of the breaches that are left
abbrev pub invariant-loop-breach : goal.invariant-loop-breach
invariant-loop-breach l =
    l.out ++ flat_map (line_of l.nodes) (drop l.breach-index l.all)
    ≡ l.initial.out ++ flat_map (line_of l.nodes) l.all
