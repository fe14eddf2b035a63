-- The nodes that are so, by their names.
use Rattle.std.specs.Prelude.{ℕ, ◌==◌, Bool, not, List, [], ◌∷◌, length, if◌then◌else◌}
use Rattle.std.specs.List.{list_any}
use Rattle.std.specs.Str.{bytes_eq}
use Rattle.mk_graph.specs.Nodes.{Node}

-- whether a name is one of these
abbrev pub is_listed : List (List ℕ) → List ℕ → Bool
is_listed names name = list_any (λ one. bytes_eq one name) names

-- the names of the nodes that are so, in order
abbrev pub names_where : (Node → Bool) → List Node → List (List ℕ)
names_where is_so [] = []
names_where is_so (node ∷ nodes) =
    if is_so node then node.name ∷ names_where is_so nodes else names_where is_so nodes

-- a node that stood as a target
abbrev pub is_target : Node → Bool
is_target node = node.marks.target

abbrev pub has_commands : Node → Bool
has_commands node = not (length node.commands == 0)
