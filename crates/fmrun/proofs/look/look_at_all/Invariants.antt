use Rattle.std.proofs.Common.{◌≡◌, List, ◌++◌, drop}
use Rattle.fmrun.specs.declared.deed.Sight.{Sight}
use Rattle.fmrun.specs.Deeds.{are_looks}
use Rattle.fmrun.proofs.look.look_at_all.Given as goal

-- all files so far were found, so that it hangs on the looks behind them
abbrev pub invariant-loop-path : goal.invariant-loop-path
invariant-loop-path g l =
    (more : List Sight)
    → are_looks l.looks (l.sights ++ more) ≡ are_looks (drop l.path-index l.looks) more
