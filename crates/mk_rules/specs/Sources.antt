-- The sources of a dependency line.
use Rattle.std.specs.Prelude.{◌≡◌, ℕ, Bool, List, [], ◌∷◌, ◌++◌, length, take, Option, Some, None}
use Rattle.std.specs.Prelude.{Result, Ok}
use Rattle.std.specs.Prelude.{if◌then◌else◌, codes}
use Rattle.std.specs.Str.{bytes_eq}
use Rattle.mk_bytes.specs.Agrees.{◌>>=◌}
use Rattle.mk_depline.specs.Names.{is_attribute}
use Rattle.mk_graph.specs.Nodes.{Node}
use Rattle.mk_graph.specs.declared.attr.Attr.{Attr}
use Rattle.mk_rules.specs.Attributes.{attr_named}
use Rattle.mk_rules.specs.Names.{all_marked, named, ordered_before}
use Rattle.mk_rules.specs.declared.fault.RuleFault.{RuleFault}

-- The sources of a line so far, and how many of them stand before its last `.WAIT`.
pub record Met : Type 0 where
  pub nodes : List Node
  pub sources : List ℕ
  pub waited : ℕ

abbrev pub none_met : List Node → Met
none_met nodes = record { nodes = nodes; sources = []; waited = 0 }

abbrev pub is_wait : List ℕ → Bool
is_wait word = bytes_eq word (codes ".WAIT")

abbrev pub with_source_met : Met → List Node × ℕ → Met
with_source_met m one = record {
  nodes = ordered_before one.1 one.0 (take m.waited m.sources);
  sources = m.sources ++ one.1 ∷ [];
  waited = m.waited;
}

-- A word of the sources: behind a `.WAIT` each source is made after all that stand before it;
-- another attribute is no source; every other word is one.
abbrev pub word_met : Met → List ℕ → Result Met RuleFault
word_met m word =
    if is_wait word then Ok (record m { waited = length m.sources })
    else (if is_attribute word then Ok m
    else (named m.nodes word >>= λ one. Ok (with_source_met m one)))

abbrev pub all_met : Met → List (List ℕ) → Result Met RuleFault
all_met m [] = Ok m
all_met m (word ∷ more) = word_met m word >>= λ next. all_met next more

-- nodes marked with an attribute, if this word is one
abbrev pub marked_as : Option Attr → List Node → List ℕ → List Node
marked_as None nodes targets = nodes
marked_as (Some attr) nodes targets = all_marked attr nodes targets

-- The targets of a line are marked with the attributes among its sources.
abbrev pub attributes_taken : List ℕ → List Node → List (List ℕ) → List Node
attributes_taken targets nodes [] = nodes
attributes_taken targets nodes (word ∷ more) =
    attributes_taken targets (marked_as (attr_named word) nodes targets) more

-- the words of a line are these sources, and the nodes are these then
pub record IsMet (before : List Node) (words : List (List ℕ)) (after : List Node) (found : List ℕ)
    : Type 0
  where
    pub met : Met
    pub all : all_met (none_met before) words ≡ Ok met
    pub nodes : met.nodes ≡ after
    pub sources : met.sources ≡ found
