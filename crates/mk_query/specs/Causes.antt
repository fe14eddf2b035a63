-- Why a query ends with a fault of the outside.
use Rattle.std.specs.Prelude.{◌≡◌, ℕ, ◌<◌, ◌≤◌}
use Rattle.mk_query.specs.declared.result.QueryResult.{QueryResult}
use Rattle.mk_query.specs.declared.result.QueryResult.TheVariants.{World}
use Rattle.mk_world.specs.Causes.{Rose}

-- The world's count of faults over a query: it ends with a fault of the world only where the count
-- rose or is at its end, and a rise is answered so.
pub record EndsBy (before after : ℕ) (result : QueryResult) : Type 0 where
  pub kept : before ≤ after
  pub answered : before < after → result ≡ World
  pub rose : result ≡ World → Rose before after
