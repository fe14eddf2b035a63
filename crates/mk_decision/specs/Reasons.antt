-- Why a node is out of date, and what is looked at to know it.
use Rattle.std.specs.Prelude.{◌≡◌, ℕ, Bool, true, false, ◌&&◌, List, [], Option, Some, None}
use Rattle.std.specs.Prelude.{is_some, is_none, if◌then◌else◌}
use Rattle.mk_filemon.specs.declared.record.Rec.{Rec}
use Rattle.mk_meta.specs.declared.meta.Meta.{Meta}
use Rattle.mk_oodate.specs.Stale.{stale}
use Rattle.mk_oodate.specs.declared.reason.Age.{Age}
use Rattle.mk_oodate.specs.declared.reason.NodeMode.{NodeMode}
use Rattle.mk_oodate.specs.declared.reason.Times.{Times}
use Rattle.mk_oodate.specs.declared.reason.Why.{Why}
use Rattle.mk_world.specs.declared.command.Task.{Task}
use Rattle.mk_world.specs.declared.time.When.{When}
use Rattle.mk_world.specs.declared.time.When.TheVariants.{Missing}
use Rattle.mk_decision.specs.Metas.{AreOf, IsValueOf, MetaSight, PathTimes, no_paths, records_in}
use Rattle.mk_decision.specs.Metas.{times_in}

abbrev pub value_in : Option MetaSight → Option Meta
value_in None = None
value_in (Some sight) = sight.value

-- the times that the test goes by, where only the target and the sources were looked at, where the
-- meta file was too, and where paths were
abbrev pub first_times : When → List Age → Times
first_times target ages = record {
  target = target;
  meta = Missing;
  sources = ages;
  reads = [];
  misses = [];
  left = [];
}

abbrev pub with_paths : PathTimes → Times → Times
with_paths paths times = record times {
  reads = times_in paths.reads;
  misses = times_in paths.misses;
  left = times_in paths.left;
}

abbrev pub times_by : When → List Age → Option MetaSight → Times
times_by target ages None = first_times target ages
times_by target ages (Some sight) =
    with_paths sight.paths (record (first_times target ages) { meta = sight.when })

-- Why a node is out of date, by its task, the time of its file, the ages of its sources, and what
-- was seen in meta mode.
abbrev pub reason : NodeMode → Task → When → List Age → Option MetaSight → Option Why
reason mode task target ages meta = stale (value_in meta) task mode (times_by target ages meta)

-- by times alone, as where it is not in meta mode
abbrev pub by_times : NodeMode → Task → When → List Age → Option Why
by_times mode task target ages = reason (record mode { meta = false }) task target ages None

-- by its meta file, without a look at the paths that the records name
abbrev pub by_file : NodeMode → Task → When → List Age → MetaSight → Option Why
by_file mode task target ages sight =
    reason mode task target ages (Some (record sight { paths = no_paths }))

-- A meta file is looked at in meta mode, where times alone give no reason.
abbrev pub is_opened : NodeMode → Task → When → List Age → Bool
is_opened mode task target ages = mode.meta && is_none (by_times mode task target ages)

-- The paths of its records are looked at where the meta file gives no reason.
abbrev pub records_asked : NodeMode → Task → When → List Age → MetaSight → List Rec
records_asked mode task target ages sight =
    if is_some (by_file mode task target ages sight) then [] else records_in mode task sight.value

-- In meta mode this was looked at, and nothing else: nothing, where the meta file is not looked at;
-- else its bytes and its time, and the paths of the records that are asked for, each list in its
-- order.
abbrev pub IsMetaSight : List (List ℕ) → NodeMode → Task → When → List Age → Option MetaSight
    → Type 0
IsMetaSight ignored mode task target ages None = is_opened mode task target ages ≡ false
IsMetaSight ignored mode task target ages (Some sight) =
    (is_opened mode task target ages ≡ true) × IsValueOf sight.bytes sight.value
    × AreOf ignored (records_asked mode task target ages sight) sight.paths
