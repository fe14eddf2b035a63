use Rattle.std.proofs.Common.{◌≡◌, ◌-◌}
use Rattle.std.specs.List.{slice_get}
use Rattle.mk_commands.specs.Words as spec
use Rattle.mk_commands.proofs.word.line_at.Given as goal

-- the line that is sought stands in the rest, after as many lines fewer
abbrev pub invariant-loop : goal.invariant-loop
invariant-loop l =
    slice_get (spec.lines_of l.rest) (l.place - l.counter)
    ≡ slice_get (spec.lines_of l.text) l.place
