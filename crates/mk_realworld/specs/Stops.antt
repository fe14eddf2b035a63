-- A call that is refused is the last one.
use Rattle.std.specs.Prelude.{Option, Result, IsSome, IsErr, OnErr}
use Rattle.mk_world.specs.declared.fault.WorldFault.{WorldFault}
use Rattle.mk_realworld.specs.declared.refusal.Refusal.{Refusal}

-- Why calls were refused before and behind a call. Where one was refused before, this one is
-- refused too, and all is as it was.
pub record Stops {T : Type 0} (was is : Option Refusal) (Same : Type 0) (answer : Result T WorldFault)
    : Type 0
  where
    pub behind : IsSome was → Same × IsErr answer
    pub stops : OnErr answer (IsSome is)
