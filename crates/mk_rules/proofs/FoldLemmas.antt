-- Lists of nodes while lines are read.
use Rattle.std.proofs.Common.{◌≡◌, ◌<◌, ◌≤◌, ℕ, zero, suc, List, [], ◌∷◌, ◌++◌, length, take, nat_eq, arith}
use Rattle.std.proofs.Common.{Bool, true, false, length-append}
use Rattle.std.proofs.lemmas.Bool.{cond_both}
use Rattle.std.specs.List.{list_any}
use Rattle.indexmap.specs.IndexSet.{insert_key}
use Rattle.mk_graph.proofs.BelowLemmas.{AreBelow-append}
use Rattle.mk_graph.specs.Numbers.{AreBelow}
use Rattle.mk_rules.specs.Lines.{listed_with}
use Rattle.mk_rules.specs.Rules.{IsRuled, Ruled}
use Rattle.mk_rules.specs.SourceView.{AreMet}
use Rattle.mk_rules.specs.declared.source.Sources.{Sources}

-- below a bound, and so below a larger one
pub below_more : (bound larger : ℕ) (nodes : List ℕ) → bound ≤ larger → AreBelow bound nodes
    → AreBelow larger nodes
below_more bound larger [] le below = tt
below_more bound larger (n ∷ more) le below =
    (omega (arith, below.0), below_more bound larger more le below.1)

-- one more, where there are more nodes
pub below_grown : (bound larger n : ℕ) (nodes : List ℕ) → AreBelow bound nodes → bound ≤ larger
    → n < larger → AreBelow larger (nodes ++ n ∷ [])
below_grown bound larger n nodes below le within =
    AreBelow-append larger n nodes (below_more bound larger nodes le below) within

pub below_take : (bound count : ℕ) (nodes : List ℕ) → AreBelow bound nodes
    → AreBelow bound (take count nodes)
below_take bound zero nodes below = tt
below_take bound (suc count) [] below = tt
below_take bound (suc count) (n ∷ more) below = (below.0, below_take bound count more below.1)

pub below_key : (bound n : ℕ) (keys : List ℕ) → AreBelow bound keys → n < bound
    → AreBelow bound (insert_key nat_eq keys n)
below_key bound n keys below within =
    cond_both (list_any (nat_eq n) keys) keys (keys ++ n ∷ []) (λ all. AreBelow bound all)
    (λ held. below) (λ new. AreBelow-append bound n keys below within)

-- a node that is listed or not
pub below_listed : (listed : Bool) (bound n : ℕ) (nodes : List ℕ) → AreBelow bound nodes
    → n < bound → AreBelow bound (listed_with listed nodes n)
below_listed true bound n nodes below within = AreBelow-append bound n nodes below within
below_listed false bound n nodes below within = below

-- a source behind those that were met
pub met_pushed : (bound larger n : ℕ) (sources : Sources) (nodes : List ℕ)
    → AreMet bound sources → bound ≤ larger → n < larger → nodes ≡ sources.nodes ++ n ∷ []
    → AreMet larger (record { nodes = nodes; waited = sources.waited })
met_pushed bound larger n sources nodes met le within is = record {
  nodes = rw is (below_grown bound larger n sources.nodes met.nodes le within);
  waited = rw is (omega (arith, length-append sources.nodes (n ∷ []), met.waited));
}

-- what is referred to is still there where there are more nodes
pub ruled_grown : (r s : Ruled) → IsRuled r → length r.nodes ≤ length s.nodes
    → s.targets ≡ r.targets → s.group ≡ r.group → IsRuled s
ruled_grown r s ruled le targets group = record {
  targets = rw targets (below_more (length r.nodes) (length s.nodes) r.targets le ruled.targets);
  group = rw group (below_more (length r.nodes) (length s.nodes) r.group le ruled.group);
}
