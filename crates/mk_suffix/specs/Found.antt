-- At which place a file stands that can be a source.
use Rattle.std.specs.Prelude.{ℕ, ◌&&◌, Bool, false, not, List, Option, Some, None, is_some}
use Rattle.std.specs.Prelude.{if◌then◌else◌}
use Rattle.mk_dirs.specs.Places.{place}
use Rattle.mk_graph.specs.Marks.{has}
use Rattle.mk_graph.specs.Nodes.{Node, node_at, number_of}
use Rattle.mk_graph.specs.declared.attr.Attr.{Attr}
use Rattle.mk_graph.specs.declared.attr.Attr.TheVariants.{Phony, Target}
use Rattle.mk_world.specs.Deeds.{Store}

abbrev pub is_marked_at : List Node → Option ℕ → Attr → Bool
is_marked_at nodes None attr = false
is_marked_at nodes (Some n) attr = has (node_at nodes n).marks attr

-- whether the node of a name is so marked
abbrev pub is_marked : List Node → List ℕ → Attr → Bool
is_marked nodes name attr = is_marked_at nodes (number_of nodes name) attr

-- By what a source is sought: the known suffixes, the directories that are searched, and the
-- current directory.
pub record Seeking : Type 0 where
  pub suffixes : List (List ℕ)
  pub paths : List (List ℕ)
  pub cwd : List ℕ

abbrev pub seeking_in : List (List ℕ) → List (List ℕ) → List ℕ → Seeking
seeking_in suffixes paths cwd = record { suffixes = suffixes; paths = paths; cwd = cwd }

-- The place of a name. A target stands for itself, and a phony name that is no target has no place.
abbrev pub place_of : Store → List Node → Seeking → List ℕ → Option (List ℕ)
place_of files nodes seeking name =
    if not (is_marked nodes name Target) && is_marked nodes name Phony then None
    else place files (is_marked nodes name Target) seeking.paths seeking.cwd name

-- whether a name has a place
abbrev pub is_there : (List ℕ → Option (List ℕ)) → List ℕ → Bool
is_there place name = is_some (place name)
