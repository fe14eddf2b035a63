-- The line of a reason.
use Rattle.std.specs.Prelude.{ℕ, List, [], ◌∷◌, ◌++◌, codes, false, get_or, unwrap_or, Option, Some}
use Rattle.std.specs.Prelude.{None}
use Rattle.mk_bytes.specs.Bytes.{newline}
use Rattle.mk_decision.specs.Decisions.{Work, source_names}
use Rattle.mk_filemon.specs.Escapes.{escaped}
use Rattle.mk_filemon.specs.declared.record.Rec.{Rec}
use Rattle.mk_meta.specs.declared.meta.Meta.{Meta}
use Rattle.mk_oodate.specs.Lists.{left_paths, missed_paths, read_paths}
use Rattle.mk_oodate.specs.declared.reason.Age.TheVariants.{Old}
use Rattle.mk_oodate.specs.declared.reason.Times.{Times}
use Rattle.mk_oodate.specs.declared.reason.Why.{Why}
use Rattle.mk_oodate.specs.declared.reason.Why.TheVariants as why
use Rattle.mk_plan.specs.Plans.{node_at}
use Rattle.mk_world.specs.declared.command.Task.{Task}
use Rattle.mk_world.specs.declared.time.When.{When}
use Rattle.mk_world.specs.declared.time.When.TheVariants.{Missing}
use Rattle.mk_explain.specs.Changes.{command_text}
use Rattle.mk_explain.specs.Pieces.{newer_text, path_text, read_text, touched_text}

-- the names that a line may have: that of the node, those of its sources, and the beginnings of the
-- paths that are ignored
pub record Names : Type 0 where
  pub node : List ℕ
  pub sources : List (List ℕ)
  pub ignored : List (List ℕ)

abbrev pub names_of : Work → ℕ → Names
names_of work node = record {
  node = (node_at work.plan node).name;
  sources = source_names work node;
  ignored = work.mode.ignore_paths;
}

-- the records of a meta file, or none
abbrev pub records_of : Meta → List Rec
records_of meta = unwrap_or meta.records []

-- the path at a place of those that a job found outside, that it missed there, that it left
-- written, by the records of its meta file
abbrev pub changed_text : List (List ℕ) → When → ℕ → Meta → List ℕ
changed_text ignored when place meta =
    read_text (get_or (read_paths ignored (records_of meta)) place []) when meta.stamp.0

abbrev pub appeared_text : List (List ℕ) → ℕ → Meta → List ℕ
appeared_text ignored place meta =
    path_text (codes "appeared ") (get_or (missed_paths ignored (records_of meta)) place [])

abbrev pub left_text : List (List ℕ) → ℕ → Meta → List ℕ
left_text ignored place meta =
    path_text (codes "left ") (get_or (left_paths ignored (records_of meta)) place [])

-- what is told by a meta file; without one there is nothing to tell
abbrev pub by_meta : (Meta → List ℕ) → Option Meta → List ℕ
by_meta text None = []
by_meta text (Some meta) = text meta

-- the reason itself
abbrev pub reason_text : Names → Task → Option Meta → Times → Why → List ℕ
reason_text names task value times why.Always = codes "always"
reason_text names task value times why.Missing = codes "missing"
reason_text names task value times (why.Newer place) =
    newer_text (get_or names.sources place []) (get_or times.sources place Old) times.target
reason_text names task value times why.NoMeta = codes "no meta"
reason_text names task value times why.Touched = touched_text times.target times.meta
reason_text names task value times why.Command = by_meta (command_text task) value
reason_text names task value times why.NoRecords = codes "no records"
reason_text names task value times (why.Read place) =
    by_meta (changed_text names.ignored (get_or times.reads place Missing) place) value
reason_text names task value times (why.Appeared place) =
    by_meta (appeared_text names.ignored place) value
reason_text names task value times (why.Left place) = by_meta (left_text names.ignored place) value

-- The node's name, and its reason.
abbrev pub line_of : Names → Task → Option Meta → Times → Why → List ℕ
line_of names task value times one =
    escaped false names.node ++ codes " " ++ reason_text names task value times one ++ newline ∷ []
