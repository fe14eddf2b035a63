-- The lines that begin branches, as the code has them.
use Rattle.std.specs.Prelude.{ℕ, Option, Some, None}
use Rattle.mk_blocks.specs.Skips as skips
use Rattle.mk_blocks.specs.declared.branch.Branch.{Branch}

abbrev pub seen : Branch → skips.Branch
seen branch = (branch.is_else, branch.line)

-- how many lines were taken
abbrev pub taken : Option Branch → ℕ
taken None = 0
taken (Some branch) = 1
