-- A build as turns: what each item of it is beside the clean build.
use Rattle.std.specs.Prelude.{◌≡◌, ◌⊎◌, ℕ, ◌==◌, nat_le, Bool, true, false, List, [], ◌∷◌, ◌++◌}
use Rattle.std.specs.Prelude.{length, Some, if◌then◌else◌}
use Rattle.mk_clean.specs.Turns as turn
use Rattle.mk_clean.specs.Turns.{Turn}
use Rattle.mk_decision.specs.Decisions.{Work}
use Rattle.mk_trace.specs.Builds.{Build, build_after}
use Rattle.mk_trace.specs.Items.{Change, gone, head, whole, cut_head, cut_whole, Item, looks, keeps}
use Rattle.mk_trace.specs.Items.{refuses, starts, passes, waits, steps, ends, changes, leaves}
use Rattle.mk_trace.specs.Items.{path_of}
use Rattle.mk_trace.specs.Runs.{Tasks, fails, line_of}
use Rattle.mk_trace.specs.Together.{HasChild}

-- a job begins with its first line
abbrev pub begun_by : ℕ → ℕ → List Turn
begun_by node number = if number == 1 then turn.begins node ∷ [] else []

-- and its node is settled behind its last one
abbrev pub settled_by : Tasks → ℕ → ℕ → List Turn
settled_by tasks node number =
    if nat_le (length (tasks node)) number then turn.settles node ∷ [] else []

-- a line ends, or fails
abbrev pub ended_by : Tasks → ℕ → ℕ → Bool → List Turn
ended_by tasks node number true = turn.fails node ∷ []
ended_by tasks node number false = turn.ends_line node ∷ settled_by tasks node number

-- what make changes: the target of a node that has failed, and meta files
abbrev pub put_by : ℕ → Change → List Turn
put_by node (gone path time) = turn.removes node ∷ []
put_by node (head path bytes time) = turn.puts_meta path (Some bytes) ∷ []
put_by node (whole path bytes time) = turn.puts_meta path (Some bytes) ∷ []
put_by node (cut_head path part time) = turn.puts_meta path (Some part) ∷ []
put_by node (cut_whole path part time) = turn.puts_meta path (Some part) ∷ []

-- The turns of an item. A look for a decision may count; a step is that of the node whose child
-- does it. A node that is refused and a child that is given up have none.
abbrev pub IsTurned : Tasks → Build → Item → List Turn → Type 0
IsTurned tasks build (looks node seen) turns =
    (turns ≡ []) ⊎ (turns ≡ turn.looks_at node (path_of seen) ∷ [])
IsTurned tasks build (keeps node) turns = turns ≡ turn.keeps node ∷ []
IsTurned tasks build (refuses node number what) turns = turns ≡ []
IsTurned tasks build (starts node number ticket owner cmd) turns =
    turns ≡ begun_by node number ++ turn.starts_line node ∷ []
IsTurned tasks build (passes node number) turns =
    turns ≡ begun_by node number ++ settled_by tasks node number
IsTurned tasks build waits turns = turns ≡ []
IsTurned tasks build (steps ticket owner deed time) turns =
    (node : ℕ) × HasChild build.run node × ((build.own node).ticket ≡ ticket)
    × (turns ≡ turn.steps node deed ∷ [])
IsTurned tasks build (ends node number owner ended) turns =
    turns ≡ ended_by tasks node number (fails (line_of (tasks node) number) ended.status)
IsTurned tasks build (changes node change) turns = turns ≡ put_by node change
IsTurned tasks build (leaves ticket owner) turns = turns ≡ []

-- The turns of a build, item after item.
abbrev pub AreTurned : Work → Tasks → Build → List Item → List Turn → Type 0
AreTurned work tasks build [] turns = turns ≡ []
AreTurned work tasks build (item ∷ items) turns =
    (now : List Turn) × (later : List Turn) × (turns ≡ now ++ later) × IsTurned tasks build item now
    × AreTurned work tasks (build_after work tasks build item) items later
