use Rattle.std.proofs.Common.{◌≡◌, ◌++◌}
use Rattle.mk_export.specs.Names.{texts_of}
use Rattle.mk_export.proofs.exports.Exports.names.Given as goal

-- the names so far, and those that are left
abbrev pub invariant-loop-name : goal.invariant-loop-name
invariant-loop-name l =
    l.names ++ texts_of l.name-iterator ≡ texts_of l.initial.name-iterator
