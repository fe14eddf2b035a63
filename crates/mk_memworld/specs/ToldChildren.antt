-- The children that a world runs are those of the history that it tells.
use Rattle.std.specs.Prelude.{◌≡◌, ℕ, List, Option, Some, unwrap_or}
use Rattle.std.proofs.Common.{ap, sym, ◌∙◌}
use Rattle.mk_world.specs.History.{state_of, tickets_of}
use Rattle.mk_world.specs.declared.history.History.{History}

pub told_children : (held told : History) (kids : List ℕ)
    → tickets_of (state_of held).children ≡ kids → Some held ≡ Some told
    → tickets_of (state_of told).children ≡ kids
told_children held told kids runs same =
    ap (λ (history : Option History). tickets_of (state_of (unwrap_or history held)).children)
    (sym same)
    ∙ runs
