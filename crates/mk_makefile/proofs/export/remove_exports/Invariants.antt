use Rattle.std.proofs.Common.{◌≡◌, drop}
use Rattle.mk_makefile.specs.Exports.{all_removed}
use Rattle.mk_makefile.proofs.export.remove_exports.Given as goal

-- the names that are left are still to be removed
abbrev pub invariant-loop-name : goal.invariant-loop-name
invariant-loop-name l =
    all_removed l.exports (drop l.name-index l.names) ≡ all_removed l.fn.exports l.names
