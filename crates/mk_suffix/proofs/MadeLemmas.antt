-- Chains whose rules are there.
use Rattle.std.proofs.Common.{◌≡◌, ◌∙◌, ℕ, ◌+◌, ◌<◌, Bool, true}
use Rattle.std.proofs.Common.{false, List, [], ◌∷◌, ◌++◌, length, refl, sym, ap}
use Rattle.std.proofs.Common.{subst, arith, Option, Some, None, unwrap_or}
use Rattle.std.proofs.Common.{cond, suc, drop, map, slice_set}
use Rattle.std.proofs.lemmas.List.{length-map}
use Rattle.mk_graph.specs.Nodes.{Node, number_of}
use Rattle.mk_suffix.specs.Chains.{Suffixes, first_of, rule_between}
use Rattle.mk_suffix.specs.Chains.{rules_of, chain_of, with_source}
use Rattle.mk_suffix.specs.Extends.{IsMade, IsWay, AreWays}
use Rattle.mk_suffix.specs.Search.{Way, way_at, way_by}
use Rattle.mk_suffix.specs.Search.{own_way}
use Rattle.mk_suffix.specs.Made.{IsFor}
use Rattle.mk_suffix.specs.SearchView.{made_by}
use Rattle.mk_suffix.specs.declared.chain.Chain.{Chain}

-- the rule between two suffixes is the node of both
pub rule-number : (nodes : List Node) (known : List (List ℕ)) (from to : List ℕ) (n : ℕ)
    → rule_between nodes known from to ≡ Some n → number_of nodes (from ++ to) ≡ Some n
rule-number nodes known from to n is = either _ (number_of nodes (from ++ to)) is
  where
    either : (b : Bool) (number : Option ℕ) → cond b number None ≡ Some n → number ≡ Some n
    either true number is = is
    either false number is = cc

-- one rule more
pub IsMade-by : (nodes : List Node) (way : Way) (suffix : List ℕ) (rule : ℕ) → IsMade nodes way
    → number_of nodes (suffix ++ first_of way.suffixes) ≡ Some rule → rule < length nodes
    → IsMade nodes (way_by way suffix rule)
IsMade-by nodes way suffix rule made is within = record {
  as_many = omega (arith, made.as_many);
  rules = ap (λ l. rule ∷ l) made.rules ∙ sym (longer way.suffixes made.as_many is);
  below = (within, made.below);
}
  where
    longer : (suffixes : Suffixes) → length suffixes ≡ length way.rules + 1
        → number_of nodes (suffix ++ first_of suffixes) ≡ Some rule
        → rules_of nodes (suffix ∷ suffixes) ≡ rule ∷ rules_of nodes suffixes
    longer [] many is = absurd (omega (arith, many))
    longer (to ∷ more) many is =
        ap (λ number. unwrap_or number 0 ∷ rules_of nodes (to ∷ more)) is

pub AreWays-first : (nodes : List Node) (own : List ℕ) → AreWays nodes (own_way own ∷ [])
AreWays-first nodes own at within =
    let place : at ≡ 0 = omega arith in
    subst (λ i. IsWay nodes (own ∷ []) (way_at (own_way own ∷ []) i)) (sym place)
    (record {
      made = record { as_many = refl; rules = refl; below = tt };
      inner = λ x among. among;
    })

-- a chain as it is answered
pub made_by-chain_of : (nodes : List Node) (base : List ℕ) (way : Way) → IsMade nodes way
    → made_by base way ≡ chain_of nodes base way.suffixes
made_by-chain_of nodes base way made =
    ap (λ rules. record { names = (made_by base way).names; rules = rules }) made.rules

-- and from the place of its source
pub IsFor-placed : (nodes : List Node) (base : List ℕ) (way : Way) (source : List ℕ) (chain : Chain)
    → IsMade nodes way → chain ≡ with_source (Some source) (made_by base way) → IsFor nodes chain
IsFor-placed nodes base way source chain made is =
    subst (IsFor nodes) (sym is)
    (record { rules = made.below; as_many = many way.suffixes made.as_many })
  where
    many : (suffixes : Suffixes) → length suffixes ≡ length way.rules + 1
        → length (source ∷ drop 1 (map (λ suffix. base ++ suffix) suffixes)) ≡ length way.rules + 1
    many [] as_many = absurd (omega (arith, as_many))
    many (suffix ∷ more) as_many =
        ap suc (length-map more (λ one. base ++ one)) ∙ as_many

-- the first of several names is another one
pub set_first : (names : List (List ℕ)) (source : List ℕ) → 0 < length names
    → slice_set names 0 source ≡ source ∷ drop 1 names
set_first [] source some = absurd (omega arith)
set_first (name ∷ names) source some = refl
