-- The rules between known suffixes, by the suffixes that they lead to.
use Rattle.std.specs.Prelude.{◌≡◌, ℕ, ◌<◌, true, List, [], ◌∷◌, map}
use Rattle.std.specs.Prelude.{Option, Some, None, is_some}
use Rattle.std.specs.List.{flat_map}
use Rattle.std.specs.Map.{lookup}
use Rattle.std.specs.Str.{bytes_eq}
use Rattle.std.specs.declared.alloc.Global.{Global}
use Rattle.std.specs.declared.vec.Vec.{Vec}
use Rattle.mk_graph.specs.Nodes.{Node}
use Rattle.mk_suffix.specs.Chains.{rule_between}
use Rattle.mk_suffix.specs.Found.{Seeking}
use Rattle.mk_suffix.specs.declared.table.Source.{Source}

-- nodes, and by what sources are sought, the known suffixes among that
pub record Known : Type 0 where
  pub nodes : List Node
  pub seeking : Seeking

-- a rule to a suffix: the one that it leads from, and its node
abbrev pub Rule : Type 0
Rule = List ℕ × ℕ

abbrev pub rule_from : List ℕ → Option ℕ → List Rule
rule_from from None = []
rule_from from (Some n) = (from, n) ∷ []

-- the rules to a suffix from each of these, in their order
abbrev pub row_over : List Node → List (List ℕ) → List ℕ → List (List ℕ) → List Rule
row_over nodes known to froms = flat_map (λ from. rule_from from (rule_between nodes known from to)) froms

abbrev pub row : List Node → List (List ℕ) → List ℕ → List Rule
row nodes known to = row_over nodes known to known

-- the suffixes that rules lead from
abbrev pub froms : List Rule → List (List ℕ)
froms rules = map (λ rule. rule.0) rules

-- What the code keeps: the rules to each suffix to which one leads

abbrev pub Rows : Type 0
Rows = List (Vec ℕ Global × List Source)

abbrev pub seen_row : List Source → List Rule
seen_row sources = map (λ source. (source.suffix.now, source.rule)) sources

abbrev pub row_at : Rows → List ℕ → Option (List Source)
row_at rows to = lookup (λ key. bytes_eq to key.items) rows

abbrev pub IsRow : List Node → List (List ℕ) → List ℕ → Option (List Source) → Type 0
IsRow nodes known to None = [] ≡ row nodes known to
IsRow nodes known to (Some sources) = seen_row sources ≡ row nodes known to

-- each row has all rules, and those that are not there have none
abbrev pub AreAll : List Node → List (List ℕ) → Rows → Type 0
AreAll nodes known rows = (to : List ℕ) → IsRow nodes known to (row_at rows to)

-- each row has all rules, and there is one for each rule among the first nodes
pub record AreBefore (nodes : List Node) (known : List (List ℕ)) (count : ℕ) (rows : Rows) : Type 0
  where
    pub right : (to : List ℕ) (sources : List Source) → row_at rows to ≡ Some sources
        → seen_row sources ≡ row nodes known to
    pub whole : (from to : List ℕ) (n : ℕ) → n < count → rule_between nodes known from to ≡ Some n
        → is_some (row_at rows to) ≡ true
