-- A dry run as one list: what its report tells and what happened in the world, woven together.
use Rattle.std.specs.Prelude.{ℕ, List, [], ◌∷◌, ◌++◌, map, get_or, Option, Some, None, Bool, not}
use Rattle.std.specs.Prelude.{◌&&◌, if◌then◌else◌}
use Rattle.mk_bytes.specs.Bytes.{newline}
use Rattle.mk_trace.specs.Items as build
use Rattle.mk_trace.specs.Items.{Item, passes}
use Rattle.mk_trace.specs.Runs.{Tasks, is_empty, line_of}
use Rattle.mk_trace.specs.declared.event.Event.{Event}
use Rattle.mk_trace.specs.declared.event.Event.TheVariants.{Shown}
use Rattle.mk_world.specs.declared.command.TaskLine.{TaskLine}

pub data DryItem : Type 0 where
  -- what may stand in a build, too
  does : (item : Item) → DryItem
  -- a line of a node was shown, which is not started
  shows : (node number : ℕ) → DryItem
  -- a line of a node was shown, which is started next
  announces : (node number : ℕ) → DryItem

-- what the report tells of it
abbrev pub reported : DryItem → List Event
reported (does item) = build.reported item
reported (shows node number) = Shown node number ∷ []
reported (announces node number) = Shown node number ∷ []

abbrev pub reported_all : List DryItem → List Event
reported_all [] = []
reported_all (item ∷ items) = reported item ++ reported_all items

-- What stands for it in a build: a line that is not started begins and ends there without a child,
-- and that a line is shown which is started next is passed over.
abbrev pub in_build : DryItem → List Item
in_build (does item) = item ∷ []
in_build (shows node number) = passes node number ∷ []
in_build (announces node number) = []

abbrev pub in_build_all : List DryItem → List Item
in_build_all [] = []
in_build_all (item ∷ items) = in_build item ++ in_build_all items

-- A dry run starts only lines with `+` that are not empty.
abbrev pub is_started : TaskLine → Bool
is_started one = one.always && not (is_empty one.text)

-- a line as the rules of runs see it: without `+` it has no child
abbrev pub dry_line : TaskLine → TaskLine
dry_line one = record one { text = if one.always then one.text else [] }

abbrev pub dry_tasks : Tasks → Tasks
dry_tasks tasks = λ node. map dry_line (tasks node)

-- the text of a line and a newline, or nothing where it is empty
abbrev pub shown_text : Option TaskLine → List ℕ
shown_text None = []
shown_text (Some one) = if is_empty one.text then [] else one.text ++ newline ∷ []

-- What is printed of it: the text of a line that is shown, and what a child has printed.
abbrev pub printed : Tasks → DryItem → List ℕ
printed tasks (does item) = get_or (build.output_of item) 0 []
printed tasks (shows node number) = shown_text (line_of (tasks node) number)
printed tasks (announces node number) = shown_text (line_of (tasks node) number)

abbrev pub printed_all : Tasks → List DryItem → List ℕ
printed_all tasks [] = []
printed_all tasks (item ∷ items) = printed tasks item ++ printed_all tasks items
