-- A world that tells nothing has no history to be held to.
use Rattle.std.specs.Prelude.{◌≡◌, Option, Some, None}
use Rattle.std.proofs.Common.{subst}
use Rattle.mk_world.specs.declared.history.History.{History}

abbrev IsUntold : Option History → Type 0
IsUntold None = Unit {0}
IsUntold (Some history) = ⊥

pub untold : (Fact : Type 0) (history : History) → None ≡ Some history → Fact
untold Fact history is = absurd (subst IsUntold is tt)
