use Rattle.std.proofs.Common.{length}
use Rattle.mk_meta.specs.Reading.{line_read, record_of}
use Rattle.mk_meta.proofs.ManyLemmas.{IsGoing}
use Rattle.mk_meta.proofs.lines.record_lines.Given as goal

-- the lines so far, and those that the rest begins with
abbrev pub invariant-lines : goal.invariant-lines
invariant-lines l = IsGoing (line_read (record_of l.count)) l.text l.records l.rest

abbrev pub decreases-lines : goal.decreases-lines
decreases-lines l = length l.rest
