use Rattle.std.proofs.Common.{◌≡◌, drop}
use Rattle.mk_filemon.specs.Outer.{ops_of}
use Rattle.mk_breaches.specs.Held.{rows_in}
use Rattle.mk_breaches.specs.Rows.{noted_ops}
use Rattle.mk_breaches.proofs.table.Table.note_ops.Given as goal

-- the records so far are in the table, and the rest follow
abbrev pub invariant-loop-one : goal.invariant-loop-one
invariant-loop-one l =
    noted_ops l.n (rows_in l.self) (ops_of (drop l.one-index l.records))
    ≡ noted_ops l.n (rows_in l.initial.self) (ops_of l.records)
