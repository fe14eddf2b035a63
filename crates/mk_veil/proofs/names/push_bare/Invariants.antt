use Rattle.std.proofs.Common.{◌≡◌, ◌++◌, drop}
use Rattle.mk_veil.specs.Names.{bare_names}
use Rattle.mk_veil.proofs.names.push_bare.Given as goal

-- the names so far, and those that are left
abbrev pub invariant-loop-name : goal.invariant-loop-name
invariant-loop-name l =
    l.bare ++ bare_names l.hidden l.dir (drop l.name-index l.names)
    ≡ l.initial.bare ++ bare_names l.hidden l.dir l.names
