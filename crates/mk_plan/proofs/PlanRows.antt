-- Worked rows of plans.
use Rattle.std.proofs.Common.{◌≡◌, ℕ, List, [], ◌∷◌, Bool, true, false, Some, None, Result, Ok, Err, codes, refl}
use Rattle.mk_bytes.specs.Agrees.{◌>>=◌}
use Rattle.mk_closure.specs.Deciding.{linked}
use Rattle.mk_closure.specs.Walks.{closed, walked, all_met}
use Rattle.mk_graph.specs.Marks.{marked, no_marks}
use Rattle.mk_graph.specs.Nodes.{Node}
use Rattle.mk_graph.specs.Walks.{visited, all_visited}
use Rattle.mk_graph.specs.declared.attr.Attr.TheVariants.{Rule, Target, Phony, Optional}
use Rattle.mk_graph.specs.declared.attr.Marks.{Marks}
use Rattle.mk_suffix.specs.Chains.{all_extended}
use Rattle.mk_suffix.specs.Found.{seeking_in}
use Rattle.mk_world.specs.Deeds.{Store, put}
use Rattle.mk_plan.specs.Plans.{as_plan, plan_of}
use Rattle.mk_plan.specs.declared.fault.PlanFault.{PlanFault}
use Rattle.mk_plan.specs.declared.fault.PlanFault.TheVariants.{NoRule, Cycle}
use Rattle.mk_plan.specs.declared.plan.PlanNode.{PlanNode}

abbrev node : List ℕ → List ℕ → List (List ℕ) → Marks → Node
node name sources commands marks = record {
  name = name;
  sources = sources;
  ordered = [];
  commands = commands;
  marks = marks;
}

abbrev target : Marks
target = marked no_marks Target

abbrev rule : Marks
rule = marked no_marks Rule

abbrev files : List (List ℕ) → Store
files [] = λ path. None
files (path ∷ more) = put (files more) (record { path = path; bytes = Some [] })

-- the plan of these names with these nodes, where these directories are searched and these are the files
abbrev plan_in : List (List ℕ) → List Node → List (List ℕ) → Bool → List (List ℕ)
    → Result (List PlanNode) PlanFault
plan_in dirs nodes paths query names =
    as_plan (closed (files paths) nodes
    (seeking_in (codes ".o" ∷ codes ".c" ∷ codes ".y" ∷ []) dirs (codes "/w")) names)
    >>= λ s. plan_of query names s

abbrev plan : List Node → List (List ℕ) → Bool → List (List ℕ) → Result (List PlanNode) PlanFault
plan nodes paths query names = plan_in [] nodes paths query names

abbrev planned_node : List ℕ → List ℕ → List ℕ → List (List ℕ) → List ℕ → Marks → PlanNode
planned_node name sources before commands implied marks = record {
  name = name;
  sources = sources;
  before = before;
  commands = commands;
  implied = implied;
  marks = marks;
}

-- a rule, and a source that is a source already
by_rule : plan
    (node (codes ".c.o") [] (codes "cc" ∷ []) rule
    ∷ node (codes "x.o") (2 ∷ []) [] target ∷ node (codes "x.c") [] [] no_marks ∷ [])
    (codes "x.c" ∷ []) false (codes "x.o" ∷ [])
    ≡ Ok (planned_node (codes "x.c") [] [] [] [] no_marks
    ∷ planned_node (codes "x.o") (0 ∷ 0 ∷ []) (0 ∷ 0 ∷ []) (codes "cc" ∷ []) (codes "x.c") target ∷ [])
unfolding all_extended linked walked all_met visited all_visited
by_rule = refl

-- a name that is decided stays so, and a later chain stops there
two_chains : plan
    (node (codes ".c.o") [] [] rule ∷ node (codes ".y.c") [] [] rule
    ∷ node (codes ".o.c") [] [] rule ∷ node (codes "x.o") [] [] target ∷ [])
    (codes "x.y" ∷ []) false (codes "x.c" ∷ codes "x.o" ∷ [])
    ≡ Err (Cycle (codes "x.c" ∷ codes "x.o" ∷ codes "x.c" ∷ []))
unfolding all_extended linked walked all_met visited all_visited
two_chains = refl

-- `.DEFAULT` serves a requested name
default : plan (node (codes ".DEFAULT") [] (codes "put" ∷ []) target ∷ []) [] false (codes "q" ∷ [])
    ≡ Ok (planned_node (codes "q") [] [] (codes "put" ∷ []) (codes "q") no_marks ∷ [])
unfolding all_extended linked walked all_met visited all_visited
default = refl

-- an optional source is dropped, and a phony one that is no target has no rule, with a file too
dropped : plan
    (node (codes "t") (1 ∷ []) [] target ∷ node (codes "o") [] [] (marked no_marks Optional) ∷ [])
    [] false (codes "t" ∷ [])
    ≡ Ok (planned_node (codes "t") [] [] [] [] target ∷ [])
unfolding all_extended linked walked all_met visited all_visited
dropped = refl

phony : plan
    (node (codes "t") (1 ∷ []) [] target ∷ node (codes "p") [] [] (marked no_marks Phony) ∷ [])
    (codes "p" ∷ []) false (codes "t" ∷ [])
    ≡ Err (NoRule (codes "p"))
unfolding all_extended linked walked all_met visited all_visited
phony = refl

-- around a build
abbrev framed : List Node
framed =
    node (codes ".BEGIN") [] (codes "b" ∷ []) target
    ∷ node (codes "t") (0 ∷ []) [] target ∷ node (codes ".END") [] (codes "e" ∷ []) target ∷ []

around : plan framed [] false (codes "t" ∷ [])
    ≡ Ok (planned_node (codes ".BEGIN") [] [] (codes "b" ∷ []) [] (marked no_marks Phony)
    ∷ planned_node (codes "t") [] (0 ∷ []) [] [] target
    ∷ planned_node (codes ".END") [] (0 ∷ 1 ∷ []) (codes "e" ∷ []) [] (marked no_marks Phony) ∷ [])
unfolding all_extended linked walked all_met visited all_visited
around = refl

asked : plan framed [] true (codes "t" ∷ [])
    ≡ Ok (planned_node (codes "t") [] [] [] [] target ∷ [])
unfolding all_extended linked walked all_met visited all_visited
asked = refl

frame_alone : plan (node (codes ".BEGIN") [] (codes "b" ∷ []) target ∷ []) [] false
    (codes ".BEGIN" ∷ [])
    ≡ Ok (planned_node (codes ".BEGIN") [] [] (codes "b" ∷ []) [] (marked no_marks Phony) ∷ [])
unfolding all_extended linked walked all_met visited all_visited
frame_alone = refl

abbrev target_behind : List ℕ → List ℕ → Node
target_behind name others = record {
  name = name;
  sources = [];
  ordered = others;
  commands = [];
  marks = target;
}

-- the node of a place stands for a source, and an order of the old name is lost
by_place : plan_in (codes "src" ∷ [])
    (node (codes "t") (1 ∷ []) [] target ∷ node (codes "q") [] [] no_marks
    ∷ target_behind (codes "r") (1 ∷ []) ∷ [])
    (codes "src/q" ∷ []) false (codes "t" ∷ codes "r" ∷ [])
    ≡ Ok (planned_node (codes "src/q") [] [] [] [] no_marks
    ∷ planned_node (codes "t") (0 ∷ []) (0 ∷ []) [] [] target
    ∷ planned_node (codes "r") [] [] [] [] target ∷ [])
unfolding all_extended linked walked all_met visited all_visited
by_place = refl
