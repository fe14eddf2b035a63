use Rattle.std.proofs.Common.{◌≡◌, ◌++◌, drop}
use Rattle.mk_recorder.specs.Touches.{all_moved}
use Rattle.mk_recorder.proofs.touch.push_all_moved.Given as goal

-- the touches so far, and those of the paths that are left
abbrev pub invariant-loop-path : goal.invariant-loop-path
invariant-loop-path l =
    l.out ++ all_moved l.from l.to (drop l.path-index l.paths)
    ≡ l.initial.out ++ all_moved l.from l.to l.paths
