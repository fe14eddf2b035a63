-- How many steps of a depth-first walk are left.
use Rattle.std.specs.Prelude.{ℕ, ◌+◌, ◌<◌, List, [], ◌∷◌, length}
use Rattle.mk_graph.specs.Steps.{Frame, State}
use Rattle.mk_graph.specs.declared.walk.Mark.{Mark}
use Rattle.mk_graph.specs.declared.walk.Mark.TheVariants.{New, OnPath, Done}
use Rattle.mk_graph.specs.declared.walk.Turn.{Turn}
use Rattle.mk_graph.specs.declared.walk.Turn.TheVariants.{On, Left, Closed, Over}

-- the steps that new nodes and their lists may take
abbrev pub waiting : List Mark → List (List ℕ) → ℕ
waiting [] preds = 0
waiting (mark ∷ marks) [] = 0
waiting (New ∷ marks) (nodes ∷ preds) = 2 + length nodes + waiting marks preds
waiting (OnPath ∷ marks) (nodes ∷ preds) = waiting marks preds
waiting (Done ∷ marks) (nodes ∷ preds) = waiting marks preds

-- and those that the nodes on a path may take
abbrev pub open_steps : List Frame → ℕ
open_steps [] = 0
open_steps (frame ∷ path) = 1 + length frame.rest + open_steps path

-- the most steps that are left
abbrev pub steps_left : List (List ℕ) → State → ℕ
steps_left preds state =
    waiting state.marks preds + length state.rest + open_steps state.path

abbrev pub IsLess : ℕ → ℕ → Turn → Type 0
IsLess new old On = new < old
IsLess new old (Left n) = new < old
IsLess new old (Closed n) = Unit {0}
IsLess new old Over = Unit {0}
