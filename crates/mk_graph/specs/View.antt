-- Names and what nodes have beside them, as nodes.
use Rattle.std.specs.Prelude.{◌≡◌, ℕ, List, [], ◌∷◌, length}
use Rattle.mk_graph.specs.Marks.{no_marks}
use Rattle.mk_graph.specs.Nodes.{Node, AreLinked}
use Rattle.mk_graph.specs.declared.links.Links.{Links}

abbrev pub no_links : Links
no_links = record { sources = []; ordered = []; commands = []; marks = no_marks }

abbrev pub named : List ℕ → Links → Node
named name links = record {
  name = name;
  sources = links.sources;
  ordered = links.ordered;
  commands = links.commands;
  marks = links.marks;
}

abbrev pub nodes_of : List (List ℕ) → List Links → List Node
nodes_of [] all = []
nodes_of (name ∷ names) [] = []
nodes_of (name ∷ names) (links ∷ all) = named name links ∷ nodes_of names all

-- as many names as nodes, and what nodes refer to is there
pub record IsHeld (names : List (List ℕ)) (all : List Links) : Type 0 where
  pub as_many : length all ≡ length names
  pub linked : AreLinked (length names) (nodes_of names all)
