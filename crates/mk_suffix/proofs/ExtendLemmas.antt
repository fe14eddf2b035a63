-- Chains with one suffix more, and what they lead to.
use Rattle.std.proofs.Common.{◌≡◌, ◌∙◌, ℕ, not, Bool, true, false, inl, inr}
use Rattle.std.proofs.Common.{List, [], ◌∷◌, ◌++◌, map, filter, is_some, refl, sym, ap}
use Rattle.std.proofs.lemmas.Bool.{and_parts, and_from, cases_Bool, not_from_false, false≢true}
use Rattle.std.proofs.lemmas.List.{append-nil}
use Rattle.std.specs.List.{flat_map}
use Rattle.mk_depline.specs.Names.{is_among}
use Rattle.mk_graph.specs.Nodes.{Node}
use Rattle.mk_suffix.specs.Chains.{Suffixes, first_of, rule_between, may_precede, extended}
use Rattle.mk_suffix.specs.Search.{firsts, fresh}
use Rattle.mk_suffix.proofs.AmongLemmas.{Covers, Covers-append, Covers-then, Covers-more}
use Rattle.mk_suffix.proofs.AmongLemmas.{among-before, among-behind}
use Rattle.mk_suffix.proofs.AmongLemmas.{among-filter, among-filtered, among-either, among-split}
use Rattle.mk_suffix.proofs.FreshLemmas.{fresh-append, fresh-none, fresh-covers}

abbrev pub before_each : List (List ℕ) → Suffixes → List Suffixes
before_each suffixes chain = map (λ suffix. suffix ∷ chain) suffixes

pub firsts-before_each : (suffixes : List (List ℕ)) (chain : Suffixes)
    → firsts (before_each suffixes chain) ≡ suffixes
firsts-before_each [] chain = refl
firsts-before_each (suffix ∷ more) chain =
    ap (λ l. suffix ∷ l) (firsts-before_each more chain)

-- a test that fails is not so
pub fails : (b : Bool) → not b ≡ true → b ≡ false
fails true is = absurd (false≢true is)
fails false is = refl

module _ (nodes : List Node) (known : List (List ℕ)) where
  -- the known suffixes from which a rule leads to this one
  pub leads : List ℕ → List ℕ → Bool
  leads to suffix = is_some (rule_between nodes known suffix to)

  pub sources : List ℕ → List (List ℕ)
  sources to = filter (leads to) known

  pub firsts-extended : (chain : Suffixes)
      → firsts (extended nodes known chain) ≡ filter (may_precede nodes known chain) known
  firsts-extended chain = firsts-before_each (filter (may_precede nodes known chain) known) chain

  pub sources-extended : (chain : Suffixes)
      → Covers (sources (first_of chain)) (firsts (extended nodes known chain))
  unfolding sources leads
  sources-extended chain x among =
      let passes = among-filtered (may_precede nodes known chain) known x
      (rw (firsts-extended chain) at among) in
      among-filter (leads (first_of chain)) known x
      (and_parts (leads (first_of chain) x) (not (is_among chain x)) passes.0).0 passes.1

  -- each of them is in the chain, or can go before it
  pub extended-sources : (chain : Suffixes)
      → Covers (chain ++ firsts (extended nodes known chain)) (sources (first_of chain))
  unfolding sources leads
  extended-sources chain x among =
      let all = firsts (extended nodes known chain) in
      elim (cases_Bool (is_among chain x)) [
        | inl inside ↦ among-before chain all x inside
        | inr outside ↦
            let passes = among-filtered (leads (first_of chain)) known x among in
            among-behind chain all x (rw (firsts-extended chain)
            (among-filter (may_precede nodes known chain) known x
            (and_from (leads (first_of chain) x) (not (is_among chain x)) passes.0
            (not_from_false (is_among chain x) outside)) passes.1))
      ]

  -- where each chain is gone through, its suffixes were reached
  abbrev pub AreInner : List (List ℕ) → List Suffixes → Type 0
  AreInner names [] = Unit {0}
  AreInner names (chain ∷ more) =
      Covers names chain × AreInner (names ++ firsts (extended nodes known chain)) more

  pub AreInner-more : (names others : List (List ℕ)) (chains : List Suffixes)
      → Covers names others → AreInner others chains → AreInner names chains
  AreInner-more names others [] covers inner = tt
  AreInner-more names others (chain ∷ more) covers inner =
      let all = firsts (extended nodes known chain) in (
        Covers-then names others chain covers inner.0,
        AreInner-more (names ++ all) (others ++ all) more (Covers-more names others all covers)
            inner.1,
      )

  -- what is known to lead only to what was reached
  abbrev pub IsClosed : List (List ℕ) → List (List ℕ) → Type 0
  IsClosed names done = (z : List ℕ) → is_among done z ≡ true → Covers names (sources z)

  -- Chains from suffixes that others came to first extend to nothing new.
  pub fresh-flat_map : (done names : List (List ℕ)) (chains : List Suffixes)
      → IsClosed names done → AreInner names chains
      → fresh names (flat_map (extended nodes known) chains)
      ≡ fresh names (flat_map (extended nodes known) (fresh done chains))
  fresh-flat_map done names [] closed inner = refl
  fresh-flat_map done names (chain ∷ more) closed inner =
      let own = extended nodes known chain in
      let others = flat_map (extended nodes known) more in
      elim (cases_Bool (is_among done (first_of chain))) [
        | inl old ↦
            let reached = Covers-then names (sources (first_of chain)) (firsts own)
            (closed (first_of chain) old) (sources-extended chain) in
            let none = fresh-none names own reached in
            let still = Covers-append names names (firsts own) (λ x among. among) reached in
            fresh-append names own others
            ∙ rw (none, old, append-nil names) (fresh-flat_map done names more closed
            (AreInner-more names (names ++ firsts own) more still inner.1))
        | inr new ↦
            let later = fresh (done ++ first_of chain ∷ []) more in
            let now = names ++ firsts (fresh names own) in
            let all = Covers-append now names (firsts own)
            (among-before names (firsts (fresh names own))) (fresh-covers names own) in
            let chain_in = Covers-then now names chain
            (among-before names (firsts (fresh names own))) inner.0 in
            let closed_now : IsClosed now (done ++ first_of chain ∷ []) =
            grown done names chain now closed
            (among-before names (firsts (fresh names own)))
            (Covers-then now (chain ++ firsts own) (sources (first_of chain))
            (Covers-append now chain (firsts own) chain_in (fresh-covers names own))
            (extended-sources chain)) in
            fresh-append names own others
            ∙ (ap (λ l. fresh names own ++ l) (fresh-flat_map (done ++ first_of chain ∷ []) now more
            closed_now (AreInner-more now (names ++ firsts own) more all inner.1))
            ∙ (sym (fresh-append names own (flat_map (extended nodes known) later))
            ∙ rw new refl))
      ]
    where
      grown : (done names : List (List ℕ)) (chain : Suffixes) (now : List (List ℕ))
          → IsClosed names done → Covers now names → Covers now (sources (first_of chain))
          → IsClosed now (done ++ first_of chain ∷ [])
      grown done names chain now closed covers own z among =
          elim (among-either done (first_of chain ∷ []) z among) [
            | inl before ↦ Covers-then now names (sources z) covers (closed z before)
            | inr this ↦
                elim (among-split z (first_of chain) [] this) [
                  | inl same ↦ rw same own
                  | inr none ↦ absurd (false≢true none)
                ]
          ]
