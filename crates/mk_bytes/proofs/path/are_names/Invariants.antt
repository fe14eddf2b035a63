use Rattle.std.proofs.Common.{◌≡◌, length}
use Rattle.std.specs.List.{list_all}
use Rattle.mk_bytes.specs.Paths.{is_name, names_on}
use Rattle.mk_bytes.proofs.path.are_names.Given as goal

-- the names so far are names, so the rest decides
abbrev pub invariant-names : goal.invariant-names
invariant-names l = list_all is_name (names_on l.rest) ≡ list_all is_name (names_on l.path)

abbrev pub decreases-names : goal.decreases-names
decreases-names l = length l.rest
