-- The graph of what was read, in the language DOT of Graphviz.
use Rattle.std.specs.Prelude.{ℕ, List, ◌++◌, codes, map, flat_map}
use Rattle.mk_meta.specs.declared.meta.Meta.{Meta}
use Rattle.mk_listing.specs.Lists.{each_once}
use Rattle.mk_listing.specs.Looks.{recorded, reads_in}
use Rattle.mk_listing.specs.Texts.{dot_name}

-- an edge from a target to a path that its job read, on a line of its own
abbrev pub edge : List ℕ → List ℕ → List ℕ
edge target path = codes "  " ++ dot_name target ++ codes " -> " ++ dot_name path ++ codes ";\n"

abbrev pub edges_of : Meta → List (List ℕ)
edges_of meta =
    flat_map (λ one. map (edge meta.target) (reads_in one.op)) (recorded meta.records)

-- The edges, each once.
abbrev pub edges : List Meta → List (List ℕ)
edges metas = each_once (flat_map edges_of metas)

-- The graph.
abbrev pub graph : List Meta → List ℕ
graph metas = codes "digraph {\n" ++ flat_map (λ line. line) (edges metas) ++ codes "}\n"
