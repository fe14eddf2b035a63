use Rattle.std.proofs.Common.{◌≡◌, length}
use Rattle.std.specs.List.{slice_split}
use Rattle.mk_filemon.specs.Parts.{is_newline}
use Rattle.mk_strace.specs.Held.{texts_in}
use Rattle.mk_strace.specs.Traces.{behind, read_from}
use Rattle.mk_strace.proofs.trace.read_lines.Given as goal

-- the events so far, and those of the lines that are left
abbrev pub invariant-lines : goal.invariant-lines
invariant-lines l =
    behind l.events (read_from (texts_in l.begun) (slice_split is_newline l.rest))
    ≡ behind l.initial.events (read_from (texts_in l.initial.begun) (slice_split is_newline l.trace))

abbrev pub decreases-lines : goal.decreases-lines
decreases-lines l = length l.rest
