use Rattle.std.proofs.Common.{◌≡◌, ◌++◌, take, drop}
use Rattle.mk_depline.specs.Lines.{all_cleaned}
use Rattle.mk_depline.proofs.line.all_cleaned.Given as goal

-- the names so far are cleaned, and the others are as they were
abbrev pub invariant-loop-at : goal.invariant-loop-at
invariant-loop-at l =
    all_cleaned l.cwd (take l.at l.fn.names) ++ drop l.at l.fn.names ≡ l.names
