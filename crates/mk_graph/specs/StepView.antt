-- The plain data that a walk's steps stand for.
use Rattle.std.specs.Prelude.{ℕ, List, map, reverse}
use Rattle.mk_graph.specs.Steps.{Frame}
use Rattle.mk_graph.specs.declared.walk.Step.{Step}

abbrev pub frame_of : Step → Frame
frame_of step = record { node = step.node; rest = step.rest.now }

abbrev pub frames_of : List Step → List Frame
frames_of steps = reverse (map frame_of steps)

-- the nodes of steps
abbrev pub nodes_on : List Step → List ℕ
nodes_on steps = map (λ step. step.node) steps
