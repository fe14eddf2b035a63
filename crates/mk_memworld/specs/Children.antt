-- The running children, by their tickets.
use Rattle.std.specs.Prelude.{◌≡◌, ℕ, zero, suc, ◌==◌, true, false, List, [], ◌∷◌, IsSomeAnd}
use Rattle.std.specs.Prelude.{if◌then◌else◌}
use Rattle.mk_world.specs.History.{child_in}
use Rattle.mk_world.specs.declared.history.Child.{Child}

-- a fact on the running child with a ticket, which there is
abbrev pub OfChild : ℕ → List Child → (Child → Type 0) → Type 0
OfChild ticket children Fact = IsSomeAnd (child_in children ticket) Fact

-- the first child with a ticket stands at this place
abbrev pub StandsAt : ℕ → ℕ → List Child → Type 0
StandsAt ticket place [] = ⊥
StandsAt ticket zero (child ∷ others) = (child.ticket == ticket) ≡ true
StandsAt ticket (suc place) (child ∷ others) =
    ((child.ticket == ticket) ≡ false) × StandsAt ticket place others

-- tickets without the first that is this one
abbrev pub without_first : ℕ → List ℕ → List ℕ
without_first ticket [] = []
without_first ticket (one ∷ others) =
    if one == ticket then others else one ∷ without_first ticket others
