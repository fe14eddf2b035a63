use Rattle.std.proofs.Common.{◌≡◌, map, take}
use Rattle.mk_meta.specs.Jobs as jobs
use Rattle.mk_driver.proofs.meta.kept_lines.Given as goal

-- the lines so far are kept
abbrev pub invariant-loop-line : goal.invariant-loop-line
invariant-loop-line l = l.kept ≡ map jobs.kept_line (take l.line-index l.lines)
