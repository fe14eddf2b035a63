use Rattle.std.proofs.Common.{◌≡◌, ◌++◌}
use Rattle.mk_recorder.specs.Tables.{paths_below, entries_of}
use Rattle.mk_recorder.proofs.table.Table.add_below.Given as goal

-- the paths so far, and those of the entries that are left
abbrev pub invariant-loop-path : goal.invariant-loop-path
invariant-loop-path l =
    l.paths ++ paths_below l.directory (entries_of l.path-iterator)
    ≡ l.initial.paths ++ paths_below l.directory l.self
