-- How a run ends: the line of its end, and its report.
use Rattle.std.specs.Prelude.{◌≡◌, ◌⊎◌, ℕ, List, Option}
use Rattle.mk_cli.specs.declared.order.Order.{Order}
use Rattle.mk_scopes.specs.declared.scopes.Env.{Env}
use Rattle.mk_world.specs.Sinks.{Gains, GainsPart}
use Rattle.mk_world.specs.Talks.{Meaning}
use Rattle.mk_modes.specs.Building.{Point}
use Rattle.mk_modes.specs.Messages.{line_of}
use Rattle.mk_modes.specs.Modes.{Followed, Held}
use Rattle.mk_modes.specs.declared.building.Went.{Went}
use Rattle.mk_modes.specs.declared.report.End.{End}
use Rattle.mk_modes.specs.declared.report.End.TheVariants.{SinkFault}
use Rattle.mk_modes.specs.declared.report.Report.{Report}

-- The line of an end is written last: standard error has it, or a part of it from its beginning.
abbrev pub Closed : List (List ℕ) → End → Held → End → Type 0
Closed words before err end =
    ((end ≡ before) × Gains err.before err.after (line_of words before))
    ⊎ ((end ≡ SinkFault) × GainsPart err.before err.after (line_of words before))

-- A run of what these words ask for: what it did is in its report. Standard error gains the
-- messages of the reading and then, last, the line of the end.
pub record IsOrderRun (meaning : Meaning) (words : List (List ℕ)) (env : Env) (order : Order)
    (first last : Point) (err : Held) (report : Report) : Type 0
  where
    pub went : Went
    pub err_at : Option (List ℕ)
    pub followed : Followed meaning env order first last
        (record { before = err.before; after = err_at }) went
    pub closed : Closed words went.end (record { before = err_at; after = err.after }) report.end
    pub plan : report.plan ≡ went.plan
    pub events : report.events ≡ went.events
