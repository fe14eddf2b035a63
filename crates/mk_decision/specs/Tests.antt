-- What counts for the test whether a node is out of date, and which of its sources are newer.
use Rattle.std.specs.Prelude.{ℕ, List, [], ◌∷◌, Bool, ◌||◌, if◌then◌else◌}
use Rattle.mk_graph.specs.declared.attr.Marks.{Marks}
use Rattle.mk_graph.specs.declared.mode.Mode.{Mode}
use Rattle.mk_oodate.specs.Stale.{is_newer}
use Rattle.mk_oodate.specs.declared.reason.Age.{Age}
use Rattle.mk_oodate.specs.declared.reason.NodeMode.{NodeMode}
use Rattle.mk_plan.specs.Metas.{is_meta}
use Rattle.mk_world.specs.Looks.{is_missing}
use Rattle.mk_world.specs.declared.time.When.{When}

-- a node that is made whatever stands there: it is phony, marked `.EXEC`, or stood before `!`
abbrev pub is_always : Marks → Bool
is_always marks = marks.phony || marks.exec || marks.remake

-- What counts for a node, by `.MAKE.MODE` and by its marks. With `.NOMETA_CMP` only the number of
-- its commands counts.
abbrev pub node_mode : Mode → Marks → NodeMode
node_mode mode marks = record {
  always = is_always marks;
  meta = is_meta mode marks;
  missing_meta = mode.missing_meta;
  missing_filemon = mode.missing_filemon;
  nofilemon = mode.nofilemon;
  ignore_cmd = mode.ignore_cmd;
  count_only = marks.no_meta_cmp;
}

-- a source is newer than its target, or the target is missing
abbrev pub counts_as_newer : When → Age → Bool
counts_as_newer target source = is_missing target || is_newer target source

-- the names of the sources that are newer than the target, or of all where it is missing
abbrev pub newer_names : When → List (List ℕ) → List Age → List (List ℕ)
newer_names target [] ages = []
newer_names target (name ∷ names) [] = []
newer_names target (name ∷ names) (one ∷ ages) =
    if counts_as_newer target one then name ∷ newer_names target names ages
    else newer_names target names ages
