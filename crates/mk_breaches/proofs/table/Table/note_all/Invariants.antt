use Rattle.std.proofs.Common.{◌≡◌, drop}
use Rattle.mk_breaches.specs.Held.{rows_in}
use Rattle.mk_breaches.specs.Rows.{noted_from}
use Rattle.mk_breaches.proofs.table.Table.note_all.Given as goal

-- the nodes so far are in the table, and the rest follow
abbrev pub invariant-loop-n : goal.invariant-loop-n
invariant-loop-n l =
    noted_from l.n (rows_in l.self) (drop l.n l.nodes) ≡ noted_from 0 (rows_in l.initial.self) l.nodes
