-- Every child that is started is taken in or given up.
use Rattle.std.specs.Prelude.{◌≡◌, ℕ, ◌==◌, ◌+◌, Bool, false, List, [], ◌∷◌, if◌then◌else◌}
use Rattle.mk_world.specs.declared.history.Happening.{Happening}
use Rattle.mk_world.specs.declared.history.Happening.TheVariants.{Edit, Look, Stamp, Put, Gone, Ask}
use Rattle.mk_world.specs.declared.history.Happening.TheVariants.{Start, Step, End, Left}

-- a child was started with this ticket
abbrev pub is_start : ℕ → Happening → Bool
is_start one (Start ticket owner cmd) = ticket == one
is_start one (Edit path bytes time) = false
is_start one (Look path) = false
is_start one (Stamp path bytes time) = false
is_start one (Put path bytes time) = false
is_start one (Gone path time) = false
is_start one (Ask cmd steps) = false
is_start one (Step ticket owner deed time) = false
is_start one (End ticket owner) = false
is_start one (Left ticket owner) = false

-- a child with this ticket was taken in or given up
abbrev pub is_settled : ℕ → Happening → Bool
is_settled one (End ticket owner) = ticket == one
is_settled one (Left ticket owner) = ticket == one
is_settled one (Start ticket owner cmd) = false
is_settled one (Edit path bytes time) = false
is_settled one (Look path) = false
is_settled one (Stamp path bytes time) = false
is_settled one (Put path bytes time) = false
is_settled one (Gone path time) = false
is_settled one (Ask cmd steps) = false
is_settled one (Step ticket owner deed time) = false

abbrev pub times : {A : Type 0} → (A → Bool) → List A → ℕ
times test [] = 0
times test (item ∷ items) = (if test item then 1 else 0) + times test items

-- Under each ticket as many children were taken in or given up as were started.
abbrev pub EachSettled : List Happening → Type 0
EachSettled events = (ticket : ℕ)
    → times (is_start ticket) events ≡ times (is_settled ticket) events
