use Rattle.std.proofs.Common.{◌≤◌, ◌-◌, length}
use Rattle.mk_driver.specs.Scenes.{Scene, IsOpenScene, BehindIn}
use Rattle.mk_trace.specs.declared.collected.Collected.{Collected}
use Rattle.mk_driver.proofs.line.pass_lines.Given as goal

-- so many lines have ended, and those behind the first ones were empty
abbrev pub invariant-lines : goal.invariant-lines
invariant-lines l = record {
  from : l.done ≤ l.passed;
  within : l.passed ≤ length l.lines;
  behind : (scene : Scene) → IsOpenScene scene l.node
      → (collected : Collected) → BehindIn scene l.fn.events.items l.node l.lines collected l.done
      → BehindIn scene l.events.items l.node l.lines collected l.passed;
}

abbrev pub decreases-lines : goal.decreases-lines
decreases-lines l = length l.lines - l.passed
