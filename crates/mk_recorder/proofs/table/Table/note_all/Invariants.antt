use Rattle.std.proofs.Common.{◌≡◌, drop}
use Rattle.mk_recorder.specs.Tables.{all_noted}
use Rattle.mk_recorder.proofs.table.Table.note_all.Given as goal

-- the touches so far are in the table, and the rest follow
abbrev pub invariant-loop-touched : goal.invariant-loop-touched
invariant-loop-touched l =
    all_noted l.self (drop l.touched-index l.touches) ≡ all_noted l.initial.self l.touches
