-- Looks, one behind the other.
use Rattle.std.proofs.Common.{List, Option}
use Rattle.mk_decision.specs.Looks.{LooksAt}
use Rattle.mk_decision.specs.Sights.{SawSome}
use Rattle.mk_world.specs.Looks.{Seen}
use Rattle.mk_world.specs.Talks.{Meaning}
use Rattle.mk_world.specs.declared.history.History.{History}

-- looks are some looks
pub some-of : (meaning : Meaning) (a b : Option History) (seen : List Seen)
    → LooksAt meaning a b seen → SawSome meaning a b
some-of meaning a b seen looked = record { seen = seen; looked = looked }
