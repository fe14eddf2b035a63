-- The steps that the code keeps, as frames and as a path.
use Rattle.std.proofs.Common.{◌≡◌, ℕ, ◌<◌, ◌≤◌, List, [], ◌∷◌, ◌++◌, length, get_or, set}
use Rattle.std.proofs.Common.{drop, map, reverse, refl, sym, ap, ◌∙◌, arith}
use Rattle.std.proofs.lemmas.List.{reverse-append, map-append, get_or_read, drop_all, append-nil}
use Rattle.mk_graph.specs.Steps.{Frame, State, entered, path_of}
use Rattle.mk_graph.specs.StepView.{frame_of, frames_of, nodes_on}
use Rattle.mk_graph.specs.Walks.{preds_of, from_node, closed}
use Rattle.mk_graph.specs.declared.walk.Mark.{Mark}
use Rattle.mk_graph.specs.declared.walk.Step.{Step}
use Rattle.mk_graph.specs.declared.walk.Mark.TheVariants.{New, OnPath}
use Rattle.mk_graph.proofs.ViewLemmas.{node_is}

-- a step pushed onto the path is its last node
frames_of-push : (steps pushed : List Step) (step : Step) → pushed ≡ steps ++ step ∷ []
    → frames_of pushed ≡ frame_of step ∷ frames_of steps
frames_of-push steps pushed step is =
    rw is (ap reverse (map-append frame_of steps (step ∷ []))
    ∙ reverse-append (map frame_of steps) (frame_of step ∷ []))

-- the first frame is the first node
path_of-append : (path : List Frame) (frame : Frame)
    → path_of (path ++ frame ∷ []) ≡ frame.node ∷ path_of path
path_of-append [] frame = refl
path_of-append (one ∷ path) frame = ap (λ nodes. nodes ++ one.node ∷ []) (path_of-append path frame)

-- the path is the nodes of the steps, in order
path_of-frames : (steps : List Step) → path_of (frames_of steps) ≡ nodes_on steps
path_of-frames [] = refl
path_of-frames (step ∷ steps) =
    ap path_of (reverse-append (frame_of step ∷ []) (map frame_of steps))
    ∙ path_of-append (frames_of steps) (frame_of step)
    ∙ ap (λ nodes. step.node ∷ nodes) (path_of-frames steps)

-- a step pushed, its node marked, and the list of its predecessors
pub entered_is : (preds : List (List ℕ)) (state : State) (marks : List Mark)
    (steps pushed : List Step) (step : Step) (rest : List ℕ) (n : ℕ)
    → state ≡ record { marks = marks; path = frames_of steps; rest = step.rest.now }
    → pushed ≡ steps ++ step ∷ [] → rest ≡ preds_of preds n → step.node ≡ n
    → ◌≡◌ {A = State}
    (record { marks = set marks n OnPath; path = frames_of pushed; rest = rest })
    (entered preds state n)
entered_is preds state marks steps pushed step rest n is added list_is node_is =
    rw (is, list_is, frames_of-push steps pushed step added, node_is) refl

-- a list of no nodes
pub empty_list : (nodes : List ℕ) → length nodes ≡ 0 → nodes ≡ []
empty_list [] none = refl
empty_list (n ∷ more) none = absurd (omega (arith, none))

-- a mark that is read
pub mark_is : (marks : List Mark) (n : ℕ) (read mark : Mark) → n < length marks
    → read ≡ get_or marks n read → read ≡ mark → get_or marks n New ≡ mark
mark_is marks n read mark within at is = sym (get_or_read marks n read within at New) ∙ is

-- all nodes of the steps from one node on, and this node
pub closed_is : (steps items : List Step) (nodes : List ℕ) (n k : ℕ) → length items ≤ k
    → nodes ++ nodes_on (drop k items) ≡ nodes_on items
    → nodes_on items ≡ from_node (nodes_on steps) n
    → nodes ++ n ∷ [] ≡ closed (path_of (frames_of steps)) n
closed_is steps items nodes n k past so_far are =
    let none = drop_all k items past in
    let all = rw (none, append-nil) at so_far in
    rw (path_of-frames steps) (ap (λ part. part ++ n ∷ []) (all ∙ are))
