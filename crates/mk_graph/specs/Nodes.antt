-- Nodes, in the order of their first mention, and what adds to them.
use Rattle.std.specs.Prelude.{◌≡◌, ℕ, ◌≤◌, Bool, false, List, [], ◌∷◌, ◌++◌, length, map, set}
use Rattle.std.specs.Prelude.{get_or}
use Rattle.std.specs.Prelude.{Option, position, if◌then◌else◌}
use Rattle.std.specs.Str.{bytes_eq}
use Rattle.std.specs.List.{list_any}
use Rattle.mk_graph.specs.Marks.{no_marks, marked}
use Rattle.mk_graph.specs.Numbers.{AreBelow}
use Rattle.mk_graph.specs.declared.attr.Attr.{Attr}
use Rattle.mk_graph.specs.declared.attr.Marks.{Marks}
use Rattle.mk_pool.specs.Pool.{AreDistinct}
use Rattle.mk_pool.specs.declared.pool.TheConstants.{MAX_NAMES}

-- a node: its sources and the nodes that are ordered before it are numbers of nodes
pub record Node : Type 0 where
  pub name : List ℕ
  pub sources : List ℕ
  pub ordered : List ℕ
  pub commands : List (List ℕ)
  pub marks : Marks

-- a node as it is first mentioned
abbrev pub new_node : List ℕ → Node
new_node name =
    record { name = name; sources = []; ordered = []; commands = []; marks = no_marks }

-- the node of a number
abbrev pub node_at : List Node → ℕ → Node
node_at nodes n = get_or nodes n (new_node [])

abbrev pub names_of : List Node → List (List ℕ)
names_of nodes = map (λ node. node.name) nodes

-- the number of a name is the place of its node
abbrev pub number_of : List Node → List ℕ → Option ℕ
number_of nodes name = position (bytes_eq name) (names_of nodes)

abbrev pub is_named : List Node → List ℕ → Bool
is_named nodes name = list_any (bytes_eq name) (names_of nodes)

-- the nodes once this name is one of them: a new one goes last
abbrev pub with_node : List Node → List ℕ → List Node
with_node nodes name = if is_named nodes name then nodes else nodes ++ new_node name ∷ []

-- the most nodes are there, and none of them has this name
abbrev pub IsFullFor : List Node → List ℕ → Type 0
IsFullFor nodes name = (length nodes ≡ MAX_NAMES) × (is_named nodes name ≡ false)

-- the nodes with one of them changed
abbrev pub changed : (Node → Node) → List Node → ℕ → List Node
changed change nodes n = set nodes n (change (node_at nodes n))

abbrev pub with_source : List Node → ℕ → ℕ → List Node
with_source nodes n source =
    changed (λ node. record node { sources = node.sources ++ source ∷ [] }) nodes n

-- `first` before `n`
abbrev pub with_order : List Node → ℕ → ℕ → List Node
with_order nodes first n =
    changed (λ node. record node { ordered = node.ordered ++ first ∷ [] }) nodes n

abbrev pub with_command : List Node → ℕ → List ℕ → List Node
with_command nodes n text =
    changed (λ node. record node { commands = node.commands ++ text ∷ [] }) nodes n

abbrev pub with_mark : List Node → ℕ → Attr → List Node
with_mark nodes n attr = changed (λ node. record node { marks = marked node.marks attr }) nodes n

-- a node's sources and orders are nodes
abbrev pub AreLinked : ℕ → List Node → Type 0
AreLinked bound [] = Unit {0}
AreLinked bound (node ∷ more) =
    AreBelow bound node.sources × AreBelow bound node.ordered × AreLinked bound more

-- Each name stands once, and what nodes refer to is there.
pub record IsGraph (nodes : List Node) : Type 0 where
  pub limit : length nodes ≤ MAX_NAMES
  pub distinct : AreDistinct (names_of nodes)
  pub linked : AreLinked (length nodes) nodes
