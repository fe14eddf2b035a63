use Rattle.std.proofs.Common.{◌≡◌, ◌++◌, drop}
use Rattle.fmrun.specs.Deeds.{looked}
use Rattle.fmrun.proofs.log.push_looks.Given as goal

-- the operations so far, and the looks that are left
abbrev pub invariant-loop-path : goal.invariant-loop-path
invariant-loop-path l =
    l.ops ++ looked (drop l.path-index l.looks) l.rest
    ≡ l.initial.ops ++ looked l.looks l.sights
