-- What dependency lines leave.
use denote.Ref.{Bor}
use Rattle.std.specs.Prelude.{◌≡◌, ◌≤◌, take, ℕ, ◌==◌, ◌||◌, ◌&&◌, Bool, false, not, List, [], ◌∷◌}
use Rattle.std.specs.Prelude.{length, Option, Some}
use Rattle.std.specs.Prelude.{None, if◌then◌else◌, nat_eq, nat_le}
use Rattle.std.specs.List.{list_any}
use Rattle.mk_bytes.specs.Bytes.{dot}
use Rattle.mk_bytes.specs.Paths.{is_slash}
use Rattle.mk_graph.specs.Nodes.{Node, node_at, with_command}
use Rattle.mk_graph.specs.Numbers.{AreBelow}
use Rattle.mk_graph.specs.declared.attr.Marks.{Marks}
use Rattle.mk_rules.specs.declared.rules.Everywhere.{Everywhere}
use Rattle.indexmap.specs.IndexSet.{insert_key}

-- The nodes, the known suffixes, the directories of `.PATH` and the sources of `.MAIN` so far; the
-- nodes that stood as targets, in order; which marks go to every target in the end; how a build
-- goes; and the nodes that take the command lines behind the last line.
pub record Ruled : Type 0 where
  pub nodes : List Node
  pub suffixes : List (List ℕ)
  pub paths : List (List ℕ)
  pub main : List (List ℕ)
  pub targets : List ℕ
  pub everywhere : Everywhere
  pub one_job : Bool
  pub delete_on_error : Bool
  pub group : List ℕ

abbrev pub no_rules : Ruled
no_rules = record {
  nodes = [];
  suffixes = [];
  paths = [];
  main = [];
  targets = [];
  everywhere = record { precious = false; silent = false; ignore = false };
  one_job = false;
  delete_on_error = false;
  group = [];
}

-- what is referred to is there
pub record IsRuled (r : Ruled) : Type 0 where
  pub targets : AreBelow (length r.nodes) r.targets
  pub group : AreBelow (length r.nodes) r.group

-- Command lines

abbrev pub has_commands : List Node → ℕ → Bool
has_commands nodes n = not (length (node_at nodes n).commands == 0)

-- a target takes the commands of a group once, where it has none yet
abbrev pub takers_with : List Node → List ℕ → ℕ → List ℕ
takers_with nodes takers n = if has_commands nodes n then takers else insert_key nat_eq takers n

abbrev pub takers_among : List Node → List ℕ → List ℕ → List ℕ
takers_among nodes takers [] = takers
takers_among nodes takers (n ∷ more) = takers_among nodes (takers_with nodes takers n) more

abbrev pub all_commanded : List ℕ → List Node → List ℕ → List Node
all_commanded text nodes [] = nodes
all_commanded text nodes (n ∷ more) = all_commanded text (with_command nodes n text) more

-- A command line goes to the targets of its group.
abbrev pub commanded : Ruled → List ℕ → Ruled
commanded r text = record r { nodes = all_commanded text r.nodes r.group }

-- Main targets

-- an upper-case letter, from `A` to `Z`
abbrev pub is_upper : ℕ → Bool
is_upper byte = nat_le 65 byte && nat_le byte 90

-- A name that make(1) keeps for itself: a dot, an upper-case letter, and no slash.
abbrev pub is_reserved : List ℕ → Bool
is_reserved [] = false
is_reserved (first ∷ []) = false
is_reserved (first ∷ second ∷ rest) =
    first == dot && (is_upper second && not (list_any is_slash rest))

-- a target that is neither a rule nor a macro, nor marked so
abbrev pub is_plain : Marks → Bool
is_plain marks =
    not (marks.rule || (marks.macro_behind || (marks.macro_before || marks.not_main)))

-- a plain target whose name is not reserved
abbrev pub may_be_main : Node → Bool
may_be_main node = is_plain node.marks && not (is_reserved node.name)

-- the first of these nodes that may be a main target
abbrev pub first_main : List Node → List ℕ → List (List ℕ)
first_main nodes [] = []
first_main nodes (n ∷ more) =
    if may_be_main (node_at nodes n) then (node_at nodes n).name ∷ []
    else first_main nodes more

-- none of these nodes may be a main target
abbrev pub ArePassed : List Node → List ℕ → Type 0
ArePassed nodes [] = Unit {0}
ArePassed nodes (n ∷ more) = (may_be_main (node_at nodes n) ≡ false) × ArePassed nodes more

-- nor any of the first ones, so many of them
pub record HavePassed (nodes : List Node) (targets : List ℕ) (count : ℕ) : Type 0 where
  pub within : count ≤ length targets
  pub none : ArePassed nodes (take count targets)

-- a name, if there is one
abbrev pub shown_main : Option (Bor (List ℕ)) → List (List ℕ)
shown_main None = []
shown_main (Some name) = name.now ∷ []

abbrev pub main_by : List Node → List ℕ → List (List ℕ) → List (List ℕ)
main_by nodes targets [] = first_main nodes targets
main_by nodes targets (name ∷ more) = name ∷ more

-- The main targets so far: the sources of `.MAIN`, or else the first target that may be one.
abbrev pub main_targets : Ruled → List (List ℕ)
main_targets r = main_by r.nodes r.targets r.main
