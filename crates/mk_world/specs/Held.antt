-- The running children, as contracts see them.
use Rattle.std.specs.Prelude.{ℕ, List}

-- their tickets and what stands for them, both in the order of start, and for how many there is
-- room
pub record Held (K : Type 0) : Type 0 where
  pub tickets : List ℕ
  pub kids : List K
  pub room : ℕ
