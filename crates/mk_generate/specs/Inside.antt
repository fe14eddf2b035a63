-- Runs in a generated world, between which a source is changed.
use Rattle.std.specs.Prelude.{◌≡◌, ◌⊎◌, ℕ, ◌+◌, true, List, [], ◌∷◌, Some, codes}
use Rattle.mk_cli.specs.Orders.{no_flags, no_order}
use Rattle.mk_cli.specs.declared.order.Order.{Order}
use Rattle.mk_commands.specs.Clock.{last_number}
use Rattle.mk_commands.specs.Meaning.{language}
use Rattle.mk_memworld.specs.Base.{base_of}
use Rattle.mk_memworld.specs.Chronicle.{with_event}
use Rattle.mk_memworld.specs.Outages.{first_outages}
use Rattle.mk_memworld.specs.declared.sink.MemSink.{MemSink}
use Rattle.mk_memworld.specs.declared.world.MemWorld.{MemWorld}
use Rattle.mk_modes.specs.Building.{point}
use Rattle.mk_modes.specs.Causes.{WorldCause, SinkCause}
use Rattle.mk_run.specs.TrueRuns.{IsTrueOrderRun}
use Rattle.mk_modes.specs.declared.report.End.{End}
use Rattle.mk_modes.specs.declared.report.End.TheVariants.{Done, WorldFault, NoMemory}
use Rattle.mk_modes.specs.declared.report.Report.{Report}
use Rattle.mk_scopes.specs.declared.scopes.Env.{Env}
use Rattle.mk_world.specs.History.{state_of}
use Rattle.mk_world.specs.declared.history.Happening.TheVariants.{Edit}
use Rattle.mk_generate.specs.Input.{files_of, line}
use Rattle.mk_generate.specs.declared.inside.Request.{Request}

-- What every run inside is asked: all targets, four at once, without printing commands. No variable
-- is set from outside.
abbrev pub words : List (List ℕ)
words = codes "-s" ∷ codes "-j" ∷ codes "4" ∷ codes "all" ∷ []

abbrev pub order : Order
order = record no_order {
  flags = record no_flags {
    jobs = 4;
    silent = true;
    requested = codes "all" ∷ [];
  };
}

abbrev pub env : Env
env = record { vars = []; cwd = codes "/w"; program = codes "bmake" }

abbrev pub request : Request
request = record { words = words; order = order; env = env }

-- A world with the generated files, in which nothing has happened, children run one after the
-- other, and no call is to fail.
pub record IsNew (n : ℕ) (world : MemWorld) : Type 0 where
  pub history : world.chronicle ≡ record { base = base_of (files_of n); events = [] }
  pub outages : world.outages ≡ first_outages []
  pub schedule : world.schedule ≡ record { numbers = []; ended = [] }

-- A run inside, with sinks of its own, which hold nothing before it. It ends with a fault of the
-- outside only where the count of this world or of one of these sinks rose.
pub record RunsInside (old new : MemWorld) (report : Report) : Type 0 where
  pub out : MemSink
  pub err : MemSink
  pub ran : IsTrueOrderRun language words env order
      (point (Some old.chronicle) (Some []))
      (point (Some new.chronicle) (Some out.held.items))
      (record { before = Some []; after = Some err.held.items }) report
  pub world_fault : WorldCause old.outages.faults new.outages.faults report.end
  pub sink_fault : SinkCause 0 out.outages.faults 0 err.outages.faults report.end

-- The first source holds the line `new`, by a change from outside.
pub record IsEdited (old new : MemWorld) : Type 0 where
  pub history : new.chronicle ≡ with_event old.chronicle
      (Edit (codes "s0") (Some (line (codes "new"))) ((state_of old.chronicle).clock + 1))
  pub outages : new.outages ≡ old.outages
  pub schedule : new.schedule ≡ old.schedule

-- a run inside that has not made all, and its end
pub record Unmade (old new : MemWorld) (end : End) : Type 0 where
  pub report : Report
  pub runs : RunsInside old new report
  pub unmade : report.end ≡ Done → ⊥
  pub is : end ≡ report.end

-- the end of what did not come to a run that has made all
abbrev pub Stops : MemWorld → MemWorld → End → Type 0
Stops old new end = (end ≡ NoMemory) ⊎ Unmade old new end

-- The source cannot be changed: no later time is left.
pub record IsLate (world : MemWorld) (end : End) : Type 0 where
  pub late : (state_of world.chronicle).clock ≡ last_number
  pub is : end ≡ WorldFault

-- a first run, in a new world, that has made all
pub record RunsFirst (n : ℕ) (world : MemWorld) (report : Report) : Type 0 where
  pub before : MemWorld
  pub is_new : IsNew n before
  pub runs : RunsInside before world report
  pub made : report.end ≡ Done

-- the world behind it and the change
pub record IsChanged (n : ℕ) (world : MemWorld) (first : Report) : Type 0 where
  pub between : MemWorld
  pub runs : RunsFirst n between first
  pub edited : IsEdited between world

-- Both runs have made all.
pub record BothMade (n : ℕ) (world : MemWorld) (first second : Report) : Type 0 where
  pub before : MemWorld
  pub changed : IsChanged n before first
  pub runs : RunsInside before world second
  pub made : second.end ≡ Done

-- the end of a first run that has not made all
pub record EndsFirst (n : ℕ) (end : End) : Type 0 where
  pub before : MemWorld
  pub after : MemWorld
  pub is_new : IsNew n before
  pub ends : Unmade before after end

-- behind a first run that has made all, the source cannot be changed
pub record EndsBetween (n : ℕ) (end : End) : Type 0 where
  pub world : MemWorld
  pub report : Report
  pub runs : RunsFirst n world report
  pub ends : IsLate world end

-- the end of a second run that has not made all
pub record EndsSecond (n : ℕ) (end : End) : Type 0 where
  pub first : Report
  pub before : MemWorld
  pub after : MemWorld
  pub changed : IsChanged n before first
  pub ends : Unmade before after end

-- the end of what does not come to two runs that have made all
abbrev pub EndsInside : ℕ → End → Type 0
EndsInside n end =
    (end ≡ NoMemory) ⊎ (EndsFirst n end ⊎ (EndsBetween n end ⊎ EndsSecond n end))
