-- Worked rows of suffixes and chains.
use Rattle.std.proofs.Common.{◌≡◌, ℕ, List, [], ◌∷◌, ◌++◌, Option, Some, None, codes, refl}
use Rattle.mk_graph.specs.Marks.{marked, no_marks}
use Rattle.mk_graph.specs.Nodes.{Node}
use Rattle.mk_graph.specs.declared.attr.Attr.{Attr}
use Rattle.mk_graph.specs.declared.attr.Attr.TheVariants.{Rule, Target, Phony}
use Rattle.mk_suffix.specs.Chains.{all_extended, choice, chains_to, rule_between}
use Rattle.mk_suffix.specs.Found.{Seeking, seeking_in}
use Rattle.mk_suffix.specs.Names.{suffix_of, prefix_of}
use Rattle.mk_suffix.specs.declared.chain.Chain.{Chain}
use Rattle.mk_world.specs.Deeds.{Store, put}

-- a node with one mark
abbrev node : List ℕ → Attr → Node
node name attr = record {
  name = name;
  sources = [];
  ordered = [];
  commands = [];
  marks = marked no_marks attr;
}

abbrev rule : List ℕ → Node
rule name = node name Rule

abbrev known : List (List ℕ)
known = codes ".c" ∷ codes ".o" ∷ codes ".y" ∷ []

abbrev rules : List Node
rules = rule (codes ".c.o") ∷ rule (codes ".y.c") ∷ []

abbrev files : List (List ℕ) → Store
files [] = λ path. None
files (path ∷ more) = put (files more) (record { path = path; bytes = Some [] })

-- what is chosen for `x.o` with these nodes, where these are the files
abbrev chosen : List Node → List (List ℕ) → Option Chain
chosen nodes paths = choice (files paths) nodes (seeking_in known [] (codes "/w")) (codes "x.o")

abbrev by_one : ℕ → Option Chain
by_one number =
    Some (record { names = codes "x.c" ∷ codes "x.o" ∷ []; rules = number ∷ [] })

abbrev by_two : Option Chain
by_two = Some (record {
  names = codes "x.y" ∷ codes "x.c" ∷ codes "x.o" ∷ [];
  rules = 1 ∷ 0 ∷ [];
})

one_rule : chosen rules (codes "x.c" ∷ []) ≡ by_one 0
unfolding all_extended
one_rule = refl

no_file : chosen rules [] ≡ None
unfolding all_extended
no_file = refl

two_rules : chosen rules (codes "x.y" ∷ []) ≡ by_two
unfolding all_extended
two_rules = refl

shorter_first : chosen rules (codes "x.y" ∷ codes "x.c" ∷ []) ≡ by_one 0
unfolding all_extended
shorter_first = refl

-- the order of `.SUFFIXES` counts, and not that of the rules
order_of_suffixes :
    chosen (rule (codes ".y.o") ∷ rule (codes ".c.o") ∷ []) (codes "x.y" ∷ codes "x.c" ∷ [])
    ≡ by_one 1
unfolding all_extended
order_of_suffixes = refl

target_without_file : chosen (rules ++ node (codes "x.c") Target ∷ []) [] ≡ by_one 0
unfolding all_extended
target_without_file = refl

phony_file : chosen (rules ++ node (codes "x.c") Phony ∷ []) (codes "x.c" ∷ []) ≡ None
unfolding all_extended
phony_file = refl

node_without_mark : chosen (node (codes ".c.o") Target ∷ []) (codes "x.c" ∷ []) ≡ None
unfolding all_extended
node_without_mark = refl

without_suffix :
    choice (files (codes "x.c" ∷ [])) rules (seeking_in known [] (codes "/w")) (codes "x.h") ≡ None
without_suffix = refl

-- where two directories are searched
abbrev searching : Seeking
searching = seeking_in known (codes "lib" ∷ codes "src" ∷ []) (codes "/w")

abbrev found_in : List (List ℕ) → Option Chain
found_in paths = choice (files paths) rules searching (codes "x.o")

in_second_directory : found_in (codes "src/x.c" ∷ [])
    ≡ Some (record { names = codes "src/x.c" ∷ codes "x.o" ∷ []; rules = 0 ∷ [] })
unfolding all_extended
in_second_directory = refl

first_directory_first : found_in (codes "src/x.c" ∷ codes "lib/x.c" ∷ [])
    ≡ Some (record { names = codes "lib/x.c" ∷ codes "x.o" ∷ []; rules = 0 ∷ [] })
unfolding all_extended
first_directory_first = refl

longer_chain_in_directory : found_in (codes "src/x.y" ∷ [])
    ≡ Some (record { names = codes "src/x.y" ∷ codes "x.c" ∷ codes "x.o" ∷ []; rules = 1 ∷ 0 ∷ [] })
unfolding all_extended
longer_chain_in_directory = refl

each_suffix_once :
    chains_to (rules ++ rule (codes ".o.c") ∷ rule (codes ".c.y") ∷ []) known (codes ".o")
    ≡ (codes ".c" ∷ codes ".o" ∷ []) ∷ (codes ".y" ∷ codes ".c" ∷ codes ".o" ∷ []) ∷ []
unfolding all_extended
each_suffix_once = refl

-- `.a.b.a` is cut behind `.a`, since `.a` is known first
abbrev ambiguous : List (List ℕ)
ambiguous = codes ".a" ∷ codes ".a.b" ∷ codes ".b.a" ∷ []

first_cut : rule_between (rule (codes ".a.b.a") ∷ []) ambiguous (codes ".a") (codes ".b.a") ≡ Some 0
first_cut = refl

other_cut : rule_between (rule (codes ".a.b.a") ∷ []) ambiguous (codes ".a.b") (codes ".a") ≡ None
other_cut = refl

longest_suffix : suffix_of (codes ".c" ∷ codes ".x.c" ∷ []) (codes "a.x.c") ≡ Some (codes ".x.c")
longest_suffix = refl

whole_component : suffix_of (codes ".c" ∷ []) (codes "d/.c") ≡ None
whole_component = refl

suffix_of_directory : suffix_of (codes ".c" ∷ []) (codes "d.c/x") ≡ None
suffix_of_directory = refl

prefix : prefix_of known (codes "d/x.o") ≡ codes "x"
prefix = refl

prefix_without_suffix : prefix_of known (codes "d/x.h") ≡ codes "x.h"
prefix_without_suffix = refl
