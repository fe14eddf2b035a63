-- What a build prints.
use Rattle.std.specs.Prelude.{ℕ, ◌+◌, ◌==◌, List, [], ◌∷◌, ◌++◌, Option, Some, None, Bool, false}
use Rattle.std.specs.Prelude.{not, ◌&&◌, if◌then◌else◌, get_or, codes}
use Rattle.mk_bytes.specs.Bytes.{newline}
use Rattle.mk_plan.specs.Plans.{node_at}
use Rattle.mk_plan.specs.declared.plan.PlanNode.{PlanNode}
use Rattle.mk_world.specs.declared.command.TaskLine.{TaskLine}
use Rattle.mk_trace.specs.Runs.{Tasks, line_of, is_empty, has_child}
use Rattle.mk_trace.specs.declared.event.Event.{Event}
use Rattle.mk_trace.specs.declared.event.Event.TheVariants.{Kept, Refused, Shown, Start, End, Wait}

-- what was printed so far: the bytes, the node of the last piece, and how many children have ended
pub record Printed : Type 0 where
  pub bytes : List ℕ
  pub last : Option ℕ
  pub ended : ℕ

abbrev pub nothing_printed : Printed
nothing_printed = record { bytes = []; last = None; ended = 0 }

-- what stands beside the events: the plan, the tasks, and whether there are more jobs than one
pub record Job : Type 0 where
  pub plan : List PlanNode
  pub tasks : Tasks
  pub many : Bool

abbrev pub is_last : ℕ → Option ℕ → Bool
is_last node None = false
is_last node (Some last) = node == last

-- with more jobs than one, a piece of another node than the last begins with a line of its name
abbrev pub marker : List PlanNode → Bool → Option ℕ → ℕ → List ℕ
marker plan many last node =
    if many && not (is_last node last)
    then codes "--- " ++ ((node_at plan node).name ++ (codes " ---" ++ newline ∷ []))
    else []

-- what is printed of a piece, and the node whose piece is then the last
abbrev pub shown : List PlanNode → Bool → Option ℕ → ℕ → List ℕ → List ℕ
shown plan many last node piece =
    if is_empty piece then [] else marker plan many last node ++ piece

abbrev pub last_behind : Option ℕ → ℕ → List ℕ → Option ℕ
last_behind last node piece = if is_empty piece then last else Some node

abbrev pub with_piece : Job → Printed → ℕ → List ℕ → Printed
with_piece job printed node piece = record {
  bytes = printed.bytes ++ shown job.plan job.many printed.last node piece;
  last = last_behind printed.last node piece;
  ended = printed.ended + 1;
}

-- the text of a line that is not silent, and a newline
abbrev pub echo : Option TaskLine → List ℕ
echo None = []
echo (Some one) = if one.silent then [] else one.text ++ newline ∷ []

-- At the end of a line's child its echo and its output are printed.
abbrev pub printed_after : Job → List (List ℕ) → Printed → Event → Printed
printed_after job outputs printed (Kept node) = printed
printed_after job outputs printed (Refused node number) = printed
printed_after job outputs printed (Shown node number) = printed
printed_after job outputs printed (Start node number) = printed
printed_after job outputs printed (End node number status) =
    let one = line_of (job.tasks node) number in
    if has_child one
    then with_piece job printed node (echo one ++ get_or outputs printed.ended [])
    else printed
printed_after job outputs printed Wait = printed

abbrev pub printed_all : Job → List (List ℕ) → Printed → List Event → Printed
printed_all job outputs printed [] = printed
printed_all job outputs printed (event ∷ events) =
    printed_all job outputs (printed_after job outputs printed event) events

-- The bytes that a build prints, by its events and by the outputs of its children in the order of
-- their ends.
abbrev pub output : Job → List (List ℕ) → List Event → List ℕ
output job outputs events = (printed_all job outputs nothing_printed events).bytes
