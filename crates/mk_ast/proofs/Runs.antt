-- Runs of plain bytes, as a loop finds them.
use Rattle.std.proofs.Common.{ℕ, List, ◌++◌}
use Rattle.mk_ast.specs.Text.{Run}

-- a run behind more bytes
abbrev pub behind : List ℕ → Run → Run
behind bytes run = (bytes ++ run.0, run.1, run.2)
