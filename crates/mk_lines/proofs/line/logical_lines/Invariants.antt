use Rattle.std.proofs.Common.{◌≡◌, ◌++◌, length}
use Rattle.mk_lines.specs.Lines.{lines_from}
use Rattle.mk_lines.proofs.line.logical_lines.Given as goal

-- the lines so far go before those that the cursor has left
abbrev pub invariant-lines : goal.invariant-lines
invariant-lines l = l.lines ++ l.cursor ≡ lines_from 1 l.text

abbrev pub decreases-lines : goal.decreases-lines
decreases-lines l = length l.cursor
