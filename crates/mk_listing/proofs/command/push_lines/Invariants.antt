use Rattle.std.proofs.Common.{◌≡◌, ◌++◌, drop, flat_map}
use Rattle.mk_listing.specs.Commands as spec
use Rattle.mk_listing.proofs.command.push_lines.Given as goal

-- the objects so far, and those of the lines that are left
abbrev pub invariant-loop-line : goal.invariant-loop-line
invariant-loop-line l =
    l.objects ++ flat_map (λ line. spec.objects_on l.meta line.text) (drop l.line-index l.lines)
    ≡ l.initial.objects ++ flat_map (λ line. spec.objects_on l.meta line.text) l.lines
