use Rattle.std.proofs.Common.{◌≡◌, length}
use Rattle.std.specs.Prelude.{◌↔◌}
use Rattle.mk_scopes.specs.Entries.{pairs_of}
use Rattle.mk_scopes.proofs.table.Table.is_same.Given as goal

-- what is left is the same exactly where all of them are
abbrev pub invariant-entries : goal.invariant-entries
invariant-entries l = (pairs_of l.rest ≡ pairs_of l.behind) ↔ (l.self ≡ l.other)

abbrev pub decreases-entries : goal.decreases-entries
decreases-entries l = length l.rest
