-- The nodes of a closure, and what belongs to each.
use Rattle.std.specs.Prelude.{ℕ, zero, suc, ◌+◌, Bool, not, ◌&&◌, List, [], ◌∷◌, ◌++◌, length, map}
use Rattle.std.specs.Prelude.{filter, codes, unwrap_or, Option, Some, None}
use Rattle.mk_closure.specs.Names.{name_in, number_in}
use Rattle.mk_closure.specs.Parts.{State, part_at, is_left_out_way}
use Rattle.mk_closure.specs.declared.members.Sources.{Sources}
use Rattle.mk_closure.specs.declared.part.Way.{Way}
use Rattle.mk_closure.specs.declared.part.Way.TheVariants.{Open, Own, Rule, Placed, Default}
use Rattle.mk_closure.specs.declared.part.Way.TheVariants.{Dropped}
use Rattle.mk_graph.specs.Nodes.{Node, node_at, number_of}
use Rattle.mk_graph.specs.declared.attr.Marks.{Marks}

-- The source of a rule goes behind a node's own. One that another stands for leads to that alone,
-- and a node that is dropped has none.
abbrev pub sources_by : List ℕ → Way → List ℕ
sources_by own Open = own
sources_by own Own = own
sources_by own (Rule rule source) = own ++ source ∷ []
sources_by own (Placed place) = place ∷ []
sources_by own Default = own
sources_by own Dropped = []

abbrev pub sources_in : State → ℕ → List ℕ
sources_in s n = sources_by (node_at s.nodes n).sources (part_at s n).way

-- the node that stands for a node: that of its place, or the node itself
abbrev pub stands_by : ℕ → Way → ℕ
stands_by n Open = n
stands_by n Own = n
stands_by n (Rule rule source) = n
stands_by n (Placed place) = place
stands_by n Default = n
stands_by n Dropped = n

abbrev pub stands_for : State → ℕ → ℕ
stands_for s n = stands_by n (part_at s n).way

abbrev pub number_onto : Option ℕ → List ℕ → List ℕ
number_onto None numbers = numbers
number_onto (Some n) numbers = n ∷ numbers

-- a node's sources as one list, where those that it has of its own and that of a rule stand apart
abbrev pub listed : Sources → List ℕ
listed sources = sources.own.now ++ number_onto sources.of_rule []

-- the node of `.DEFAULT`
abbrev pub default_of : List Node → ℕ
default_of nodes = unwrap_or (number_of nodes (codes ".DEFAULT")) (length nodes)

-- the node whose commands a node has
abbrev pub maker_by : List Node → ℕ → Way → ℕ
maker_by nodes n Open = n
maker_by nodes n Own = n
maker_by nodes n (Rule rule source) = rule
maker_by nodes n (Placed place) = n
maker_by nodes n Default = default_of nodes
maker_by nodes n Dropped = n

abbrev pub commands_in : State → ℕ → List (List ℕ)
commands_in s n = (node_at s.nodes (maker_by s.nodes n (part_at s n).way)).commands

abbrev pub implied_by : State → ℕ → Way → List ℕ
implied_by s n Open = []
implied_by s n Own = []
implied_by s n (Rule rule source) = name_in s (stands_for s source)
implied_by s n (Placed place) = []
implied_by s n Default = name_in s n
implied_by s n Dropped = []

-- a node's implied source, or nothing where it has none
abbrev pub implied_in : State → ℕ → List ℕ
implied_in s n = implied_by s n (part_at s n).way

abbrev pub marks_in : State → ℕ → Marks
marks_in s n = (node_at s.nodes n).marks

-- a node is planned where it was met, is not dropped, and no other stands for it
abbrev pub is_planned : State → ℕ → Bool
is_planned s n = (part_at s n).met && not (is_left_out_way (part_at s n).way)

abbrev pub planned_of : State → List ℕ → List ℕ
planned_of s nodes = filter (is_planned s) nodes

-- the planned ones of the nodes that stand for these
abbrev pub sourced_of : State → List ℕ → List ℕ
sourced_of s nodes = planned_of s (map (stands_for s) nodes)

-- A node's predecessors: what stands for its sources, and then the nodes that are ordered before
-- it. An order of a name that another one stands for is lost.
abbrev pub preds_in : State → ℕ → List ℕ
preds_in s n = sourced_of s (sources_in s n) ++ planned_of s (node_at s.nodes n).ordered

-- so many numbers, from one on
abbrev pub numbers_from : ℕ → ℕ → List ℕ
numbers_from start zero = []
numbers_from start (suc count) = start ∷ numbers_from (start + 1) count

abbrev pub all_preds : State → List (List ℕ)
all_preds s = map (preds_in s) (numbers_from 0 (length s.parts))

abbrev pub numbers_in : State → List (List ℕ) → List ℕ
numbers_in s [] = []
numbers_in s (name ∷ names) = number_onto (number_in s name) (numbers_in s names)

-- what is planned for the wanted names
abbrev pub roots : State → List (List ℕ) → List ℕ
roots s wanted = sourced_of s (numbers_in s wanted)
