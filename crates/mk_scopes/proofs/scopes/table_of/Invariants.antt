use Rattle.std.proofs.Common.{◌≡◌, [], drop}
use Rattle.mk_scopes.specs.Tables.{all_assigned}
use Rattle.mk_scopes.proofs.scopes.table_of.Given as goal

-- the variables so far are in the table, and the rest follow
abbrev pub invariant-loop-var : goal.invariant-loop-var
invariant-loop-var l =
    all_assigned l.table (drop l.var-index l.var-items) ≡ all_assigned [] l.var-items
