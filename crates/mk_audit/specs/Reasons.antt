-- Why a node is out of date, as an audit asks it.
use Rattle.std.specs.Prelude.{ℕ, ◌&&◌, not, Bool, true, false, [], Option}
use Rattle.mk_decision.specs.Decisions.{Work, mode_at}
use Rattle.mk_meta.specs.declared.meta.Meta.{Meta}
use Rattle.mk_oodate.specs.Stale.{stale}
use Rattle.mk_oodate.specs.declared.reason.NodeMode.{NodeMode}
use Rattle.mk_oodate.specs.declared.reason.Times.{Times}
use Rattle.mk_oodate.specs.declared.reason.Why.{Why}
use Rattle.mk_plan.specs.Plans.{node_at}
use Rattle.mk_world.specs.declared.command.Task.{Task}
use Rattle.mk_world.specs.declared.time.When.TheVariants.{At, Unknown}

-- What counts for a node, which may be a phony one: it is not made whatever stands there, and a
-- meta file with records must be there, also where the makefiles do not ask for them. Of a phony
-- node the commands count, and not their number alone, whatever it is marked with: of that mark an
-- audit tells only where a node makes a file.
abbrev pub strict : Bool → NodeMode → NodeMode
strict phony mode = record mode {
  always = false;
  missing_meta = true;
  missing_filemon = true;
  nofilemon = false;
  count_only = not phony && mode.count_only;
}

-- A phony node is no file: it counts as one that stands since before its meta file, and has no
-- sources that could be newer.
abbrev pub own_times : Bool → Times → Times
own_times false times = times
own_times true times =
    record times { target = At (record { 0 = 0 }); meta = Unknown; sources = [] }

-- The first reason that makes a node out of date: for one that makes a file, that this is missing,
-- that a source is newer, or what its meta file tells; for a phony one what its meta file tells
-- alone, but for the times of both.
abbrev pub reason_of : Work → ℕ → Task → Option Meta → Times → Option Why
reason_of work node task value times =
    stale value task (strict (node_at work.plan node).marks.phony (mode_at work node))
    (own_times (node_at work.plan node).marks.phony times)
