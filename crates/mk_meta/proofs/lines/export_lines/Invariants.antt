use Rattle.std.proofs.Common.{length}
use Rattle.mk_meta.specs.Reading.{line_read, export_in}
use Rattle.mk_meta.proofs.ManyLemmas.{IsGoing}
use Rattle.mk_meta.proofs.lines.export_lines.Given as goal

-- the lines so far, and those that the rest begins with
abbrev pub invariant-lines : goal.invariant-lines
invariant-lines l = IsGoing (line_read export_in) l.text l.exports l.rest

abbrev pub decreases-lines : goal.decreases-lines
decreases-lines l = length l.rest
