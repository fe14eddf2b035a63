-- What the makefiles leave behind their last line.
use Rattle.std.specs.Prelude.{ℕ, Bool, true, false, List, map, if◌then◌else◌}
use Rattle.mk_graph.specs.Macros.{graph_with_macros}
use Rattle.mk_graph.specs.Marks.{marked}
use Rattle.mk_graph.specs.Nodes.{Node, node_at, with_mark}
use Rattle.mk_graph.specs.declared.attr.Attr.{Attr}
use Rattle.mk_graph.specs.declared.attr.Attr.TheVariants as attr
use Rattle.mk_graph.specs.declared.attr.Marks.{Marks}
use Rattle.mk_rules.specs.Rules.{Ruled, main_targets}
use Rattle.mk_rules.specs.declared.end.Finished.{Finished}
use Rattle.mk_rules.specs.declared.rules.Everywhere.{Everywhere}

-- marks with one more, where this is so
abbrev pub also : Bool → Attr → Marks → Marks
also true attr marks = marked marks attr
also false attr marks = marks

abbrev pub marks_everywhere : Everywhere → Marks → Marks
marks_everywhere all marks =
    also all.ignore attr.Ignore (also all.silent attr.Silent (also all.precious attr.Precious marks))

-- a target takes the marks that all targets have
abbrev pub node_everywhere : Everywhere → Node → Node
node_everywhere all node =
    if node.marks.target then record node { marks = marks_everywhere all node.marks } else node

abbrev pub nodes_everywhere : Everywhere → List Node → List Node
nodes_everywhere all nodes = map (node_everywhere all) nodes

abbrev pub everywhere : Ruled → Ruled
everywhere r = record r { nodes = nodes_everywhere r.everywhere r.nodes }

abbrev pub with_macros : Ruled → Ruled
with_macros r = record r { nodes = graph_with_macros r.nodes }

abbrev pub finished_by : Ruled → Finished
finished_by r = record {
  graph = r.nodes;
  suffixes = r.suffixes;
  paths = r.paths;
  main = main_targets r;
  one_job = r.one_job;
  delete_on_error = r.delete_on_error;
}

-- The marks for every target come first, then the macros, and then the main targets are known.
abbrev pub finished : Ruled → Finished
finished r = finished_by (with_macros (everywhere r))

-- a node of a graph, marked where this is so
abbrev pub node_also : Bool → Attr → List Node → ℕ → List Node
node_also true attr nodes n = with_mark nodes n attr
node_also false attr nodes n = nodes

-- the same of one node of a graph, mark by mark
abbrev pub target_also : Everywhere → List Node → ℕ → List Node
target_also all nodes n =
    if (node_at nodes n).marks.target
    then node_also all.ignore attr.Ignore (node_also all.silent attr.Silent
    (node_also all.precious attr.Precious nodes n) n) n
    else nodes
