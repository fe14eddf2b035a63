use Rattle.std.proofs.Common.{◌≡◌, ◌∷◌, length}
use Rattle.mk_lines.specs.Lines.{physical_lines, line_groups, lines_of}
use Rattle.mk_lines.proofs.ReadLemmas.{reading}
use Rattle.mk_lines.proofs.line.join.Given as goal

-- the text so far, the piece and the lines that are left give the same logical lines
abbrev pub invariant-loop-text : goal.invariant-loop-text
invariant-loop-text l =
    reading l.initial.lines.done l.text.items l.piece l.lines.done
    (physical_lines l.lines.rest.now)
    ≡ lines_of l.initial.lines.done (line_groups (l.first ∷ physical_lines l.initial.lines.rest.now))

abbrev pub decreases-loop-text : goal.decreases-loop-text
decreases-loop-text l = length l.lines.rest.now
