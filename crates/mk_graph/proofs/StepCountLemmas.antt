-- How many steps of a walk are left.
use Rattle.std.proofs.Common.{◌≡◌, ℕ, zero, suc, ◌+◌, ◌<◌, ◌≤◌, List, [], ◌∷◌, length}
use Rattle.std.proofs.Common.{get_or, set, arith}
use Rattle.mk_graph.specs.Steps.{Frame, State, entered, back_to, gone_back, turn_back}
use Rattle.mk_graph.specs.StepCounts.{waiting, steps_left, IsLess}
use Rattle.mk_graph.specs.Walks.{preds_of}
use Rattle.mk_graph.specs.declared.walk.Mark.{Mark}
use Rattle.mk_graph.specs.declared.walk.Turn.{Turn}
use Rattle.mk_graph.specs.declared.walk.Mark.TheVariants.{New, OnPath, Done}

-- a new node waits no more
waiting-entered : (marks : List Mark) (preds : List (List ℕ)) (n : ℕ) → n < length marks
    → n < length preds → get_or marks n New ≡ New
    → waiting (set marks n OnPath) preds + (2 + length (preds_of preds n)) ≡ waiting marks preds
waiting-entered [] preds n less within new = absurd (omega arith)
waiting-entered (mark ∷ marks) [] n less within new = absurd (omega arith)
waiting-entered (mark ∷ marks) (nodes ∷ preds) zero less within new =
    rw new (omega arith)
waiting-entered (New ∷ marks) (nodes ∷ preds) (suc n) less within new =
    let others = waiting-entered marks preds n (omega arith) (omega arith) new in
    omega (arith, others)
waiting-entered (OnPath ∷ marks) (nodes ∷ preds) (suc n) less within new =
    waiting-entered marks preds n (omega arith) (omega arith) new
waiting-entered (Done ∷ marks) (nodes ∷ preds) (suc n) less within new =
    waiting-entered marks preds n (omega arith) (omega arith) new

-- nor does one that is done
waiting-done : (marks : List Mark) (preds : List (List ℕ)) (n : ℕ)
    → waiting (set marks n Done) preds ≤ waiting marks preds
waiting-done [] preds n = omega arith
waiting-done (mark ∷ marks) [] zero = omega arith
waiting-done (mark ∷ marks) [] (suc n) = omega arith
waiting-done (New ∷ marks) (nodes ∷ preds) zero = omega arith
waiting-done (OnPath ∷ marks) (nodes ∷ preds) zero = omega arith
waiting-done (Done ∷ marks) (nodes ∷ preds) zero = omega arith
waiting-done (New ∷ marks) (nodes ∷ preds) (suc n) =
    let others = waiting-done marks preds n in omega (arith, others)
waiting-done (OnPath ∷ marks) (nodes ∷ preds) (suc n) = waiting-done marks preds n
waiting-done (Done ∷ marks) (nodes ∷ preds) (suc n) = waiting-done marks preds n

-- so fewer steps are left
pub fewer-entered : (preds : List (List ℕ)) (marks : List Mark) (path : List Frame) (n : ℕ)
    (more : List ℕ) → n < length marks → n < length preds → get_or marks n New ≡ New
    → steps_left preds (entered preds (record { marks = marks; path = path; rest = more }) n)
    < steps_left preds (record { marks = marks; path = path; rest = n ∷ more })
fewer-entered preds marks path n more less within new =
    omega (arith, waiting-entered marks preds n less within new)

fewer-back : (preds : List (List ℕ)) (marks : List Mark) (path : List Frame)
    → IsLess
    (steps_left preds (back_to (record { marks = marks; path = path; rest = [] }) path))
    (steps_left preds (record { marks = marks; path = path; rest = [] })) (turn_back path)
fewer-back preds marks [] = tt
fewer-back preds marks (frame ∷ path) =
    omega (arith, waiting-done marks preds frame.node)

pub fewer-gone : (preds : List (List ℕ)) (marks : List Mark) (path : List Frame)
    (state new : State) (turn : Turn)
    → state ≡ record { marks = marks; path = path; rest = [] } → new ≡ gone_back state
    → turn ≡ turn_back state.path
    → IsLess (steps_left preds new) (steps_left preds state) turn
fewer-gone preds marks path state new turn is gone turns =
    rw (turns, gone, is) (fewer-back preds marks path)
