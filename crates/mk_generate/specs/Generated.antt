-- What a run does that generates a world, and tells what was done there.
use Rattle.std.specs.Prelude.{◌≡◌, ◌⊎◌, ℕ, ◌<◌, ◌≤◌, List, []}
use Rattle.mk_memworld.specs.declared.world.MemWorld.{MemWorld}
use Rattle.mk_modes.specs.Building.{Point}
use Rattle.mk_modes.specs.Modes.{Held}
use Rattle.mk_run.specs.Runs.{Closed}
use Rattle.mk_modes.specs.declared.report.End.{End}
use Rattle.mk_modes.specs.declared.report.End.TheVariants.{Done, SinkFault}
use Rattle.mk_modes.specs.declared.report.Report.{Report}
use Rattle.mk_world.specs.Causes.{Rose}
use Rattle.mk_world.specs.History.{files_of}
use Rattle.mk_world.specs.Sinks.{Gains, GainsPart}
use Rattle.mk_generate.specs.Counts.{told}
use Rattle.mk_generate.specs.Inside.{BothMade, EndsInside}

-- These bytes are on standard output, or a write failed behind a part of them.
abbrev pub Prints : List ℕ → Held → End → Type 0
Prints bytes out end =
    ((end ≡ Done) × Gains out.before out.after bytes)
    ⊎ ((end ≡ SinkFault) × GainsPart out.before out.after bytes)

-- Both runs inside have made all: their counts are told.
pub record Tells (n : ℕ) (out : Held) (end : End) : Type 0 where
  pub world : MemWorld
  pub first : Report
  pub second : Report
  pub both : BothMade n world first second
  pub prints : Prints (told n first second (files_of world.chronicle)) out end

-- the end of what does not come to that, of which nothing is told
pub record TellsNothing (n : ℕ) (out : Held) (end : End) : Type 0 where
  pub ends : EndsInside n end
  pub printed : Gains out.before out.after []

abbrev pub Generates : ℕ → Held → End → Type 0
Generates n out end = TellsNothing n out end ⊎ Tells n out end

-- A run that builds nothing but in a generated world: that which it was given stays as it was.
-- Standard error gains the line of the end.
pub record IsGenerated (n : ℕ) (words : List (List ℕ)) (first last : Point) (err : Held)
    (report : Report) : Type 0
  where
    pub end : End
    pub generates : Generates n (record { before = first.out; after = last.out }) end
    pub closed : Closed words end err report.end
    pub plan : report.plan ≡ []
    pub events : report.events ≡ []
    pub same : last.history ≡ first.history

-- the count of standard output's faults over a run in a generated world
pub record OutCause (n before after : ℕ) (end : End) : Type 0 where
  pub kept : before ≤ after
  pub rose : end ≡ SinkFault → Rose before after ⊎ EndsInside n SinkFault
  pub answered : before < after → end ≡ SinkFault
