-- One step that is still to be done, and what is different after it.
use Rattle.std.specs.Prelude.{ℕ, ◌==◌, Bool, true, false, List, [], ◌∷◌, ◌++◌, Option, Some, None}
use Rattle.std.specs.Prelude.{if◌then◌else◌}
use Rattle.mk_world.specs.Deeds.{Store, after_deed}
use Rattle.mk_world.specs.Talks.{deed_on}
use Rattle.mk_world.specs.declared.history.Child.{Child}
use Rattle.mk_world.specs.declared.step.Deed.{Deed}
use Rattle.mk_world.specs.declared.step.Next.{Next}
use Rattle.mk_world.specs.declared.step.Next.TheVariants.{More, Over}
use Rattle.mk_commands.specs.Clock.{numbers_of}

-- the next step of a command, on files with these bytes; at its end it has none
abbrev pub deed_at_next : Store → Next → Option Deed
deed_at_next store (More request) = Some (deed_on request store)
deed_at_next store (Over status output) = None

-- whether this is the end
abbrev pub ends_at : Next → Bool
ends_at (More request) = false
ends_at (Over status output) = true

-- the bytes at each path after a step, where there is one
abbrev pub after_step : Store → Option Deed → Store
after_step store None = store
after_step store (Some deed) = after_deed store deed

-- how many numbers of the clock a step takes, where there is one
abbrev pub numbers_of_step : Option Deed → ℕ
numbers_of_step None = 0
numbers_of_step (Some deed) = numbers_of deed

-- what was done, with a step behind it, where there is one
abbrev pub with_step : List Deed → Option Deed → List Deed
with_step deeds None = deeds
with_step deeds (Some deed) = deeds ++ deed ∷ []

-- the step of the child with a ticket, where the one that goes on with this step is that child
abbrev pub step_of : Option ℕ → Option Deed → ℕ → Option Deed
step_of None deed ticket = None
step_of (Some going) deed ticket = if going == ticket then deed else None

-- a child after the step of the one that goes on
abbrev pub child_after : Option ℕ → Option Deed → Child → Child
child_after going deed child =
    record child { deeds = with_step child.deeds (step_of going deed child.ticket) }
