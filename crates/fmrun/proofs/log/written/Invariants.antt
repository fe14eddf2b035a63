use Rattle.std.proofs.Common.{◌≡◌, ◌++◌, drop, flat_map}
use Rattle.fmrun.specs.Logs as spec
use Rattle.fmrun.proofs.log.written.Given as goal

-- the lines so far, and those of the operations that are left
abbrev pub invariant-loop-op : goal.invariant-loop-op
invariant-loop-op l =
    l.log ++ flat_map spec.lines_of (drop l.op-index l.ops) ≡ spec.log l.directory l.ops
