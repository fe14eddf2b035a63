use Rattle.std.proofs.Common.{◌≡◌, ◌++◌}
use Rattle.mk_recorder.specs.Records.{records_of}
use Rattle.mk_recorder.specs.Tables.{entries_of}
use Rattle.mk_recorder.proofs.table.Table.add_records.Given as goal

-- the records so far, and those of the entries that are left
abbrev pub invariant-loop-path : goal.invariant-loop-path
invariant-loop-path l =
    l.records ++ records_of (entries_of l.path-iterator)
    ≡ l.initial.records ++ records_of l.self
