-- What an audit finds is found of the nodes of the clean build's plan.
use Rattle.std.proofs.Common.{◌≡◌, ◌∙◌, ◌⊎◌, inl, inr, ℕ, zero, suc, ◌<◌, ◌||◌, ◌&&◌, Bool, true}
use Rattle.std.proofs.Common.{List, [], ◌∷◌, ◌++◌, length, Some, slice_get, refl, sym, ap, ap₂, arith}
use Rattle.std.proofs.Common.{codes}
use Rattle.std.proofs.lemmas.Bool.{false≢true, or_cases}
use Rattle.std.proofs.lemmas.Bool.Decides.{Decides-eqb}
use Rattle.std.proofs.lemmas.Slice.Eq.{ends_is}
use Rattle.std.specs.List.{list_any}
use Rattle.std.specs.Option.{option_map_or}
use Rattle.std.specs.Str.{bytes_eq}
use Rattle.mk_audit.specs.Laws.{IsOfNode}
use Rattle.mk_breaches.specs.Breaches.{is_own}
use Rattle.mk_breaches.specs.Paths as recorded
use Rattle.mk_breaches.specs.Unbreached.{AreOfPlan, IsJob}
use Rattle.mk_breaches.specs.declared.node.NodeFacts.{NodeFacts}
use Rattle.mk_clean.specs.Clean.{IsAmong}
use Rattle.mk_decision.specs.Decisions.{Work}
use Rattle.mk_filemon.proofs.PathLemmas.{same_bytes}
use Rattle.mk_headline.proofs.DecideLemmas.{makes-job}
use Rattle.mk_headline.proofs.PlanLemmas.{job-among, job-has}
use Rattle.mk_headline.specs.Plans.{clean_plan, is_called, is_meta_path, makes_file}
use Rattle.mk_plan.specs.Plans.{node_at}
use Rattle.mk_plan.specs.declared.plan.PlanNode.{PlanNode}
use Rattle.mk_trace.specs.Runs.{Tasks}

-- meta paths

-- a meta path has something before its end
record HasMetaEnd (path : List ℕ) : Type 0 where
  front : List ℕ
  is : path ≡ front ++ codes ".meta"

meta-end : (path : List ℕ) → is_meta_path path ≡ true → HasMetaEnd path
meta-end [] is = absurd (false≢true is)
meta-end (byte ∷ bytes) is =
    by (or_cases (bytes_eq (byte ∷ bytes) (codes ".meta")) (is_meta_path bytes) is) (meta-end bytes)
  where
    by : (bytes_eq (byte ∷ bytes) (codes ".meta") ≡ true) ⊎ (is_meta_path bytes ≡ true)
        → (is_meta_path bytes ≡ true → HasMetaEnd bytes) → HasMetaEnd (byte ∷ bytes)
    by (inl here) more = record { front = []; is = same_bytes (byte ∷ bytes) (codes ".meta") here }
    by (inr later) more =
        let rest = more later in
        record { front = byte ∷ rest.front; is = ap (λ l. byte ∷ l) rest.is }

pub meta-paths-are : (path : List ℕ) → is_meta_path path ≡ true → recorded.is_meta_path path ≡ true
meta-paths-are path is =
    let end = meta-end path is in
    (ends_is Decides-eqb path (codes ".meta") (recorded.is_meta_path path) refl).1 end.front end.is

-- nodes and what is found of them, place by place

abbrev AreOf : List PlanNode → List NodeFacts → Type 0
AreOf plan nodes =
    (n : ℕ) (facts : NodeFacts) → slice_get nodes n ≡ Some facts → IsOfNode (node_at plan n) facts

of-rest : (node : PlanNode) (plan : List PlanNode) (one : NodeFacts) (nodes : List NodeFacts)
    → AreOf (node ∷ plan) (one ∷ nodes) → AreOf plan nodes
of-rest node plan one nodes are n facts at = are (suc n) facts at

same-any : (test : PlanNode → Bool) (of : NodeFacts → Bool) (plan : List PlanNode) (nodes : List NodeFacts)
    → length nodes ≡ length plan → AreOf plan nodes
    → ((node : PlanNode) (facts : NodeFacts) → IsOfNode node facts → test node ≡ of facts)
    → list_any test plan ≡ list_any of nodes
same-any test of [] [] long are same = refl
same-any test of [] (one ∷ nodes) long are same = absurd (omega (arith, long))
same-any test of (node ∷ plan) [] long are same = absurd (omega (arith, long))
same-any test of (node ∷ plan) (one ∷ nodes) long are same =
    ap₂ (λ a b. a || b) (same node one (are 0 one refl))
    (same-any test of plan nodes (omega (arith, long)) (of-rest node plan one nodes are) same)

-- there is something at each place
record IsAt (nodes : List NodeFacts) (n : ℕ) : Type 0 where
  facts : NodeFacts
  at : slice_get nodes n ≡ Some facts

is-at : (nodes : List NodeFacts) (n : ℕ) → n < length nodes → IsAt nodes n
is-at [] n less = absurd (omega (arith, less))
is-at (one ∷ nodes) zero less = record { facts = one; at = refl }
is-at (one ∷ nodes) (suc n) less =
    let rest = is-at nodes n (omega (arith, less)) in record { facts = rest.facts; at = rest.at }

module _ (work : Work) (lines : Tasks) (nodes : List NodeFacts) (long : length nodes ≡ length work.plan)
    (are : AreOf work.plan nodes)
  where
    jobs : (n : ℕ) → IsAmong n (clean_plan work lines).order → IsJob (clean_plan work lines) nodes n
    jobs n among =
        let has = job-has work n among in
        let less = has.0 in
        let at = is-at nodes n (omega (arith, less, long)) in
        let of = are n at.facts at.at in
        record {
          node = at.facts;
          at = at.at;
          job = of.job ∙ has.1;
          name = sym of.name;
          made = sym of.made;
        }

    makers : (n : ℕ) (facts : NodeFacts) → slice_get nodes n ≡ Some facts → facts.made ≡ true
        → IsAmong n (clean_plan work lines).order
    makers n facts at made =
        let of = are n facts at in job-among work n (makes-job (node_at work.plan n) (sym of.made ∙ made))

    pub are-of-plan : AreOfPlan (clean_plan work lines) nodes
    are-of-plan = record {
      jobs = jobs;
      makers = makers;
      sources = λ n less.
          let at = is-at nodes n less in
          sym (are n at.facts at.at).sources
          ∙ ap (λ found. option_map_or (λ (one : NodeFacts). one.sources) found []) (sym at.at);
      is_node = λ path.
          same-any (is_called path) (λ (one : NodeFacts). bytes_eq one.name path) work.plan nodes long are
          (λ node facts of. ap (λ name. bytes_eq name path) (sym of.name));
      is_made = λ path.
          same-any (λ node. makes_file node && is_called path node) (λ one. is_own one path) work.plan nodes long are
          (λ node facts of. ap₂ (λ made name. made && bytes_eq name path) (sym of.made) (sym of.name));
      is_meta = meta-paths-are;
    }
