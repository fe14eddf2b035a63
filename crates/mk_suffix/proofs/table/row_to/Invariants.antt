use Rattle.std.proofs.Common.{◌≡◌, ◌++◌, drop}
use Rattle.mk_suffix.specs.Table.{row_over, row, seen_row}
use Rattle.mk_suffix.proofs.table.row_to.Given as goal

-- the rules so far, and those of the suffixes that are left
abbrev pub invariant-loop-suffix : goal.invariant-loop-suffix
invariant-loop-suffix l =
    seen_row l.row ++ row_over l.graph l.known l.to (drop l.suffix-index l.known)
    ≡ row l.graph l.known l.to
