-- The numbers of the clock: each change takes the next one as its time.
use Rattle.std.specs.Prelude.{ℕ, ◌+◌, ◌-◌, ◌^◌, List, [], ◌∷◌}
use Rattle.mk_world.specs.declared.history.Timed.{Timed}
use Rattle.mk_world.specs.declared.step.Deed.{Deed}
use Rattle.mk_world.specs.declared.step.Deed.TheVariants.{Read, Miss, Write, Delete, Move}

-- the last number
abbrev pub last_number : ℕ
last_number = 2 ^ 64 - 1

-- how many numbers a step takes: one where it changes files
abbrev pub numbers_of : Deed → ℕ
numbers_of (Read path bytes) = 0
numbers_of (Miss path) = 0
numbers_of (Write path bytes) = 1
numbers_of (Delete path) = 1
numbers_of (Move from to bytes) = 1

abbrev pub numbers : List Deed → ℕ
numbers [] = 0
numbers (deed ∷ deeds) = numbers_of deed + numbers deeds

-- the time of a step: the next number where it takes one, and else the present one
abbrev pub time_of : ℕ → Deed → ℕ
time_of clock deed = clock + numbers_of deed

-- steps with their times, where the clock stands at this number before them
abbrev pub timed : ℕ → List Deed → List Timed
timed clock [] = []
timed clock (deed ∷ deeds) =
    record { deed = deed; time = time_of clock deed } ∷ timed (time_of clock deed) deeds
