use Rattle.std.proofs.Common.{◌≡◌, drop}
use Rattle.mk_makefile.specs.Variables.{without_globals}
use Rattle.mk_makefile.proofs.variable.remove_all.Given as goal

-- the names that are left are still to be removed
abbrev pub invariant-loop-name : goal.invariant-loop-name
invariant-loop-name l =
    without_globals l.scopes (drop l.name-index l.names) ≡ without_globals l.fn.scopes l.names
