-- Dependency lines, and what each of them adds.
use Rattle.std.specs.Prelude.{ℕ, Bool, true, false, not, ◌&&◌, ◌||◌, List, [], ◌∷◌, ◌++◌, map}
use Rattle.std.specs.Prelude.{Option, Some, None}
use Rattle.std.specs.Prelude.{is_some, Result, Ok, Err, if◌then◌else◌}
use Rattle.std.specs.List.{list_any}
use Rattle.mk_bytes.specs.Agrees.{◌>>=◌}
use Rattle.mk_depline.specs.Names.{is_among, is_attribute}
use Rattle.mk_depline.specs.declared.line.DepLine.{DepLine}
use Rattle.mk_depline.specs.declared.name.Special.{Special}
use Rattle.mk_depline.specs.declared.name.Special.TheVariants as special
use Rattle.mk_graph.specs.Nodes.{Node, node_at, number_of, with_mark}
use Rattle.mk_graph.specs.declared.attr.Attr.{Attr}
use Rattle.mk_graph.specs.declared.attr.Attr.TheVariants as attr
use Rattle.mk_graph.specs.declared.attr.Marks.{Marks}
use Rattle.mk_rules.specs.Names.{all_marked, all_named, all_sourced, neighbours_ordered}
use Rattle.mk_rules.specs.Rules.{Ruled, takers_among}
use Rattle.mk_rules.specs.Sources.{Met, all_met, attributes_taken, none_met}
use Rattle.mk_rules.specs.declared.rules.Everywhere.{Everywhere}
use Rattle.mk_rules.specs.declared.fault.RuleFault.{RuleFault}
use Rattle.mk_rules.specs.declared.fault.RuleFault.TheVariants.{Operators}

-- a target that stood before, with the other operator
abbrev pub is_other : Bool → Marks → Bool
is_other true marks = marks.target && not marks.remake
is_other false marks = marks.target && marks.remake

abbrev pub stood_other : List Node → Bool → Option ℕ → Bool
stood_other nodes remake None = false
stood_other nodes remake (Some n) = is_other remake (node_at nodes n).marks

abbrev pub stood_otherwise : List Node → Bool → List ℕ → Bool
stood_otherwise nodes remake name = stood_other nodes remake (number_of nodes name)

abbrev pub any_otherwise : List Node → Bool → List (List ℕ) → Bool
any_otherwise nodes remake targets = list_any (stood_otherwise nodes remake) targets

-- Nodes stand as targets: those that did not so far are listed in this order.
pub record Stood : Type 0 where
  pub nodes : List Node
  pub targets : List ℕ

abbrev pub is_target : List Node → ℕ → Bool
is_target nodes n = (node_at nodes n).marks.target

-- one that may be a main target is listed
abbrev pub listed_with : Bool → List ℕ → ℕ → List ℕ
listed_with true targets n = targets ++ n ∷ []
listed_with false targets n = targets

abbrev pub stands : Bool → Stood → ℕ → Stood
stands listed s n =
    if is_target s.nodes n then s
    else (record {
      nodes = with_mark s.nodes n attr.Target;
      targets = listed_with listed s.targets n;
    })

abbrev pub all_stand : Bool → Stood → List ℕ → Stood
all_stand listed s [] = s
all_stand listed s (n ∷ more) = all_stand listed (stands listed s n) more

-- nodes marked where this is so
abbrev pub marked_where : Bool → Attr → List Node → List ℕ → List Node
marked_where true attr nodes targets = all_marked attr nodes targets
marked_where false attr nodes targets = nodes

-- the marks of an operator and of a rule
abbrev pub marked_by : DepLine → List Node → List ℕ → List Node
marked_by line nodes targets =
    marked_where (is_some line.rule) attr.Rule (marked_where line.remake attr.Remake nodes targets)
    targets

-- the sources and the attributes of a line go to its targets
abbrev pub with_sources : DepLine → List ℕ → Met → List Node
with_sources line targets m =
    attributes_taken targets (all_sourced m.sources m.nodes targets) line.sources

-- a line of targets: these stand, with the line's marks, sources and attributes; the line opens a
-- group, of those that have no commands yet
abbrev pub with_line : Ruled → DepLine → List ℕ → Stood → Ruled
with_line r line targets stood = record r {
  nodes = marked_by line stood.nodes targets;
  targets = stood.targets;
  group = takers_among stood.nodes [] targets;
}

abbrev pub line_stands : Bool → Ruled → DepLine → List ℕ → Met → Ruled
line_stands listed r line targets m =
    with_line r line targets
    (all_stand listed (record { nodes = with_sources line targets m; targets = r.targets }) targets)

-- A target with both operators is refused before any name of the line is made a node.
abbrev pub targets_read : Bool → Ruled → DepLine → Result Ruled RuleFault
targets_read listed r line =
    if any_otherwise r.nodes line.remake line.targets then Err Operators
    else (all_named r.nodes [] line.targets
    >>= λ targets. all_met (none_met targets.0) line.sources
    >>= λ m. Ok (line_stands listed r line targets.1 m))

-- A special target that is no node: the commands behind it are passed over.
abbrev pub passed_over : Ruled → Ruled
passed_over r = record r { group = [] }

abbrev pub with_nodes : Ruled → List Node → Ruled
with_nodes r nodes = record r { nodes = nodes }

-- a line whose sources are nodes, and what it does with them
abbrev pub sources_read : Ruled → DepLine → (Met → Ruled) → Result Ruled RuleFault
sources_read r line and_then =
    all_met (none_met r.nodes) line.sources >>= λ m. Ok (passed_over (and_then m))

abbrev pub names_at : List Node → List ℕ → List (List ℕ)
names_at nodes numbers = map (λ n. (node_at nodes n).name) numbers

abbrev pub with_names : List (List ℕ) → List Node → List ℕ → List (List ℕ)
with_names names nodes numbers = names ++ names_at nodes numbers

abbrev pub with_main : Ruled → Met → Ruled
with_main r m = record r { nodes = m.nodes; main = with_names r.main m.nodes m.sources }

abbrev pub with_orders : Ruled → Met → Ruled
with_orders r m = with_nodes r (neighbours_ordered m.nodes m.sources)

abbrev pub with_marks : Attr → Ruled → Met → Ruled
with_marks attr r m = with_nodes r (all_marked attr m.nodes m.sources)

abbrev pub is_known : List (List ℕ) → List ℕ → Bool
is_known names name = is_among names name

-- a text goes behind those that were gathered, where it is none of them and no attribute
abbrev pub gathered_with : List (List ℕ) → List ℕ → List (List ℕ)
gathered_with known text =
    if is_attribute text || is_among known text then known else known ++ text ∷ []

abbrev pub all_gathered : List (List ℕ) → List (List ℕ) → List (List ℕ)
all_gathered known [] = known
all_gathered known (text ∷ more) = all_gathered (gathered_with known text) more

-- Without a word behind them `.SUFFIXES` and `.PATH` forget all.
abbrev pub gathered_by : List (List ℕ) → List (List ℕ) → List (List ℕ)
gathered_by known [] = []
gathered_by known (text ∷ more) = all_gathered known (text ∷ more)

abbrev pub with_suffixes : Ruled → DepLine → Ruled
with_suffixes r line = record r { suffixes = gathered_by r.suffixes line.sources }

-- the directories of `.PATH`
abbrev pub with_paths : Ruled → DepLine → Ruled
with_paths r line = record r { paths = gathered_by r.paths line.sources }

abbrev pub with_everywhere : Ruled → Everywhere → Ruled
with_everywhere r marks = record r { everywhere = marks }

-- a mark for the sources of a line, or without a word for every target
abbrev pub marks_read : Attr → Ruled → Ruled → DepLine → List (List ℕ) → Result Ruled RuleFault
marks_read attr everywhere r line [] = Ok (passed_over everywhere)
marks_read attr everywhere r line (source ∷ more) = sources_read r line (with_marks attr r)

-- `.BEGIN`, `.END` and `.DEFAULT` are nodes, and never main targets.
abbrev pub special_read : Special → Ruled → DepLine → Result Ruled RuleFault
special_read special.Main r line = sources_read r line (with_main r)
special_read special.Begin r line = targets_read false r line
special_read special.End r line = targets_read false r line
special_read special.Default r line = targets_read false r line
special_read special.Order r line = sources_read r line (with_orders r)
special_read special.Suffixes r line = Ok (passed_over (with_suffixes r line))
special_read special.Path r line = Ok (passed_over (with_paths r line))
special_read special.NotParallel r line = Ok (passed_over (record r { one_job = true }))
special_read special.DeleteOnError r line = Ok (passed_over (record r { delete_on_error = true }))
special_read special.Phony r line = sources_read r line (with_marks attr.Phony r)
special_read special.Precious r line =
    marks_read attr.Precious (with_everywhere r (record r.everywhere { precious = true })) r line line.sources
special_read special.Silent r line =
    marks_read attr.Silent (with_everywhere r (record r.everywhere { silent = true })) r line line.sources
special_read special.Ignore r line =
    marks_read attr.Ignore (with_everywhere r (record r.everywhere { ignore = true })) r line line.sources

abbrev pub by_special : Option Special → Ruled → DepLine → Result Ruled RuleFault
by_special None r line = targets_read true r line
by_special (Some special) r line = special_read special r line

-- What a dependency line leaves, or its fault.
abbrev pub line_read : Ruled → DepLine → Result Ruled RuleFault
line_read r line = by_special line.special r line
