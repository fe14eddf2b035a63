-- Exported variables with their values.
use Rattle.std.specs.Prelude.{◌≡◌, true, List}
use Rattle.std.specs.List.{AllByRecursion}
use Rattle.mk_bytes.specs.declared.pair.Pair.{Pair}
use Rattle.mk_meta.specs.Lawful.{are_sorted, is_export_name}

-- Each has a name of letters, digits and `_`, with no digit first. They stand in the order of their
-- names, each name once.
pub record AreExports (pairs : List Pair) : Type 0 where
  pub names : AllByRecursion (λ pair. is_export_name pair.name ≡ true) pairs
  pub sorted : are_sorted pairs ≡ true
