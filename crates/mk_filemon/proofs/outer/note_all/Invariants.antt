use Rattle.std.proofs.Common.{◌≡◌, drop}
use Rattle.mk_filemon.specs.Entries.{all_noted}
use Rattle.mk_filemon.specs.Outer.{all_touches, ops_of}
use Rattle.mk_filemon.proofs.outer.note_all.Given as goal

-- the records so far are in the table, and the rest follow
abbrev pub invariant-loop-one : goal.invariant-loop-one
invariant-loop-one l =
    all_noted l.traces (all_touches (ops_of (drop l.one-index l.one-items)))
    ≡ all_noted l.initial.traces (all_touches (ops_of l.one-items))
