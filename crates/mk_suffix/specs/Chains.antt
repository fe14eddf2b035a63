-- Chains of suffix rules, and the chain that is chosen for a name.
use Rattle.std.specs.Prelude.{ℕ, zero, suc, ◌&&◌, Bool, false, not, List, [], ◌∷◌, ◌++◌, length}
use Rattle.std.specs.Prelude.{map, drop}
use Rattle.std.specs.Prelude.{filter, Option, Some, None, is_some, unwrap_or, if◌then◌else◌}
use Rattle.std.specs.List.{find, flat_map}
use Rattle.std.specs.Option.{option_map}
use Rattle.std.specs.Str.{bytes_eq}
use Rattle.mk_depline.specs.Lines.{rule_named}
use Rattle.mk_depline.specs.Names.{is_among}
use Rattle.mk_graph.specs.Nodes.{Node, number_of}
use Rattle.mk_graph.specs.declared.attr.Attr.TheVariants.{Rule}
use Rattle.mk_suffix.specs.Found.{Seeking, is_marked, is_there, place_of}
use Rattle.mk_suffix.specs.Names.{suffix_of, without_end}
use Rattle.mk_suffix.specs.declared.chain.Chain.{Chain}
use Rattle.mk_world.specs.Deeds.{Store}

abbrev pub are_parts : List ℕ → List ℕ → Option (List ℕ × List ℕ) → Bool
are_parts from to None = false
are_parts from to (Some parts) = bytes_eq parts.0 from && bytes_eq parts.1 to

-- The node of the rule from one suffix to another: its name is both together, is cut into these
-- two, and is marked as a rule.
abbrev pub rule_between : List Node → List (List ℕ) → List ℕ → List ℕ → Option ℕ
rule_between nodes known from to =
    if is_marked nodes (from ++ to) Rule && are_parts from to (rule_named known (from ++ to))
    then number_of nodes (from ++ to) else None

-- A chain is a list of suffixes, with a rule from each to the next; the last is the target's own.
abbrev pub Suffixes : Type 0
Suffixes = List (List ℕ)

abbrev pub first_of : Suffixes → List ℕ
first_of [] = []
first_of (suffix ∷ more) = suffix

-- whether a suffix can go before a chain, which has each suffix once
abbrev pub may_precede : List Node → List (List ℕ) → Suffixes → List ℕ → Bool
may_precede nodes known chain suffix =
    is_some (rule_between nodes known suffix (first_of chain)) && not (is_among chain suffix)

-- a chain with one suffix more, for each that can go before it, in the order of the known suffixes
abbrev pub extended : List Node → List (List ℕ) → Suffixes → List Suffixes
extended nodes known chain =
    map (λ suffix. suffix ∷ chain) (filter (may_precede nodes known chain) known)

-- All chains that extend these by one suffix, then all by two, and so on.
unfoldable pub all_extended : ℕ → List Node → List (List ℕ) → List Suffixes → List Suffixes
all_extended zero nodes known chains = []
all_extended (suc room) nodes known chains =
    let longer = flat_map (extended nodes known) chains in
    longer ++ all_extended room nodes known longer

-- All chains to a suffix, the shorter ones first, and those of one length by the places of their
-- suffixes, the one nearest to the target first. None needs more suffixes than are known.
abbrev pub chains_to : List Node → List (List ℕ) → List ℕ → List Suffixes
chains_to nodes known own = all_extended (length known) nodes known ((own ∷ []) ∷ [])

-- the nodes of the rules of a chain
abbrev pub rules_of : List Node → Suffixes → List ℕ
rules_of nodes [] = []
rules_of nodes (from ∷ []) = []
rules_of nodes (from ∷ to ∷ more) =
    unwrap_or (number_of nodes (from ++ to)) 0 ∷ rules_of nodes (to ∷ more)

-- a chain, from the source on, for this base of a name
abbrev pub chain_of : List Node → List ℕ → Suffixes → Chain
chain_of nodes base suffixes = record {
  names = map (λ suffix. base ++ suffix) suffixes;
  rules = rules_of nodes suffixes;
}

-- a chain from this place of its source
abbrev pub with_source : Option (List ℕ) → Chain → Chain
with_source None chain = chain
with_source (Some source) chain =
    record { names = source ∷ drop 1 chain.names; rules = chain.rules }

-- a chain whose source stands at its place
abbrev pub placed_chain : (List ℕ → Option (List ℕ)) → List Node → List ℕ → Suffixes → Chain
placed_chain place nodes base suffixes =
    with_source (place (base ++ first_of suffixes)) (chain_of nodes base suffixes)

-- the first chain to a suffix whose source is found
abbrev pub first_found : (List ℕ → Bool) → List Node → List (List ℕ) → List ℕ → List ℕ
    → Option Suffixes
first_found found nodes known base own =
    find (λ chain. found (base ++ first_of chain)) (chains_to nodes known own)

abbrev pub choice_at : (List ℕ → Option (List ℕ)) → List Node → List (List ℕ) → List ℕ
    → Option (List ℕ) → Option Chain
choice_at place nodes known name None = None
choice_at place nodes known name (Some own) =
    option_map (placed_chain place nodes (without_end name own))
    (first_found (is_there place) nodes known (without_end name own) own)

-- The chain that is chosen for a name, where these are the files: the first whose source has a
-- place.
abbrev pub choice : Store → List Node → Seeking → List ℕ → Option Chain
choice files nodes seeking name =
    choice_at (place_of files nodes seeking) nodes seeking.suffixes name
    (suffix_of seeking.suffixes name)
