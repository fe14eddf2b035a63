use Rattle.std.proofs.Common.{◌≡◌, drop}
use Rattle.std.specs.Option.{option_copied}
use Rattle.mk_scopes.specs.Tables.{or_else}
use Rattle.mk_values.specs.Names.{last_value}
use Rattle.mk_values.proofs.bound.last_value.Given as goal

-- a later binding of the name counts, and else the last of those so far
abbrev pub invariant-loop-binding : goal.invariant-loop-binding
invariant-loop-binding l =
    or_else (last_value (drop l.binding-index l.bound) l.name) (option_copied l.found)
    ≡ last_value l.bound l.name
