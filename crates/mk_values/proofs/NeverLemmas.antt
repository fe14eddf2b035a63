-- Answers that are never a certain fault, one step after the other.
use Rattle.std.proofs.Common.{◌≡◌, ℕ, Bool, true, false, List, Option, Some, None, Result, Ok, Err}
use Rattle.std.proofs.Common.{if◌then◌else◌}
use Rattle.mk_values.specs.Names.{or_below}
use Rattle.mk_values.specs.declared.fault.ExpandFault.{ExpandFault}

abbrev pub Never : {A : Type 0} → ExpandFault → Result A ExpandFault → Type 0
Never fault answer = answer ≡ Err fault → ⊥

module _ (fault : ExpandFault) where
  pub where-never : (some : Bool) (raw : Result (Option (List ℕ)) ExpandFault) → Never fault raw
      → Never fault (if some then raw else Ok None)
  where-never true raw never = never
  where-never false raw never = λ is. cc

  pub below-never : (raw : Option (List ℕ)) (below : Result (Option (List ℕ)) ExpandFault)
      → Never fault below → Never fault (or_below raw below)
  below-never None below never = never
  below-never (Some raw) below never = λ is. cc
