-- All chains to a suffix, length by length.
use Rattle.std.proofs.Common.{◌≡◌, ◌∙◌, ℕ, zero, suc, ◌≤◌, not, true, false, inl, inr}
use Rattle.std.proofs.Common.{List, [], ◌∷◌, ◌++◌, length, filter, is_some, refl, sym, ap, subst}
use Rattle.std.proofs.Common.{arith}
use Rattle.std.proofs.Common.{append_assoc}
use Rattle.std.proofs.lemmas.Bool.{and_parts, cases_Bool, false≢true}
use Rattle.std.proofs.lemmas.Grind.{flat_map-append}
use Rattle.std.proofs.lemmas.List.{append-nil, map-append}
use Rattle.std.specs.List.{flat_map, AllByRecursion}
use Rattle.std.specs.Str.{bytes_eq}
use Rattle.mk_depline.specs.Names.{is_among}
use Rattle.mk_graph.specs.Nodes.{Node}
use Rattle.mk_suffix.specs.Chains.{Suffixes, first_of, rule_between, may_precede, extended}
use Rattle.mk_suffix.specs.Chains.{all_extended, chains_to}
use Rattle.mk_suffix.specs.Search.{firsts, fresh, first_chains, left_over}
use Rattle.mk_suffix.proofs.AmongLemmas.{Covers, Covers-then, Covers-cons}
use Rattle.mk_suffix.proofs.AmongLemmas.{among-before, among-behind, among-head, among-tail}
use Rattle.mk_suffix.proofs.AmongLemmas.{among-filtered, same_bytes}
use Rattle.mk_suffix.proofs.ExtendLemmas.{before_each, firsts-extended, fails}
use Rattle.mk_suffix.proofs.ExtendLemmas.{AreInner, fresh-flat_map}
use Rattle.mk_suffix.proofs.LeftLemmas.{left_over-limit, left_over-less, filter-none}

all-append : (P : Suffixes → Type 0) (a b : List Suffixes) → AllByRecursion P a
    → AllByRecursion P b → AllByRecursion P (a ++ b)
all-append P [] b first second = second
all-append P (chain ∷ more) b first second = (first.0, all-append P more b first.1 second)

all-weaker : (P Q : Suffixes → Type 0) (chains : List Suffixes)
    → ((chain : Suffixes) → P chain → Q chain) → AllByRecursion P chains → AllByRecursion Q chains
all-weaker P Q [] weaken all = tt
all-weaker P Q (chain ∷ more) weaken all =
    (weaken chain all.0, all-weaker P Q more weaken all.1)

pub all-before_each : (P : Suffixes → Type 0) (suffixes : List (List ℕ)) (chain : Suffixes)
    → ((x : List ℕ) → is_among suffixes x ≡ true → P (x ∷ chain))
    → AllByRecursion P (before_each suffixes chain)
all-before_each P [] chain each = tt
all-before_each P (suffix ∷ more) chain each = (
  each suffix (among-head suffix more),
  all-before_each P more chain (λ x among. each x (among-tail x suffix more among)),
)

module _ (nodes : List Node) (known : List (List ℕ)) where
  -- what holds of all chains with one suffix more
  all-extended : (P : Suffixes → Type 0) (chain : Suffixes)
      → ((x : List ℕ) → is_among known x ≡ true → is_among chain x ≡ false → P (x ∷ chain))
      → AllByRecursion P (extended nodes known chain)
  all-extended P chain each =
      all-before_each P (filter (may_precede nodes known chain) known) chain (λ x among.
      let passes = among-filtered (may_precede nodes known chain) known x among in
      let new = and_parts (is_some (rule_between nodes known x (first_of chain)))
      (not (is_among chain x)) passes.0 in
      each x passes.1 (fails (is_among chain x) new.1))

  pub all-flat_map : (P Q : Suffixes → Type 0) (chains : List Suffixes)
      → ((chain : Suffixes) → P chain → AllByRecursion Q (extended nodes known chain))
      → AllByRecursion P chains → AllByRecursion Q (flat_map (extended nodes known) chains)
  all-flat_map P Q [] each all = tt
  all-flat_map P Q (chain ∷ more) each all =
      all-append Q (extended nodes known chain) (flat_map (extended nodes known) more)
      (each chain all.0) (all-flat_map P Q more each all.1)

  -- what each extension keeps holds of all chains
  pub all-levels : (P : Suffixes → Type 0) (room : ℕ) (chains : List Suffixes)
      → ((chain : Suffixes) (x : List ℕ) → is_among chain x ≡ false → P chain → P (x ∷ chain))
      → AllByRecursion P chains → AllByRecursion P (all_extended room nodes known chains)
  unfolding all_extended
  all-levels P zero chains each all = tt
  all-levels P (suc room) chains each all =
      let longer = flat_map (extended nodes known) chains in
      let now : AllByRecursion P longer = all-flat_map P P chains (λ chain holds.
      all-extended P chain (λ x among new. each chain x new holds)) all in
      all-append P longer (all_extended room nodes known longer) now
      (all-levels P room longer each now)

  -- the suffixes of a chain were reached
  AreReached : List (List ℕ) → List Suffixes → Type 0
  AreReached names chains = AllByRecursion (λ chain. Covers names chain) chains

  inner-level : (names : List (List ℕ)) (chains more : List Suffixes) → AreReached names chains
      → AreInner nodes known (names ++ firsts (flat_map (extended nodes known) chains)) more
      → AreInner nodes known names (chains ++ more)
  unfolding AreReached
  inner-level names [] more all inner =
      subst (λ l. AreInner nodes known l more) (append-nil names) inner
  inner-level names (chain ∷ chains) more all inner =
      let own = extended nodes known chain in
      let others = flat_map (extended nodes known) chains in
      let together = ap (λ l. names ++ l) (map-append first_of own others)
      ∙ sym (append_assoc names (firsts own) (firsts others)) in (
        all.0,
        inner-level (names ++ firsts own) chains more
            (all-weaker (λ chain. Covers names chain)
            (λ chain. Covers (names ++ firsts own) chain) chains
            (λ chain covers. Covers-then (names ++ firsts own) names chain
            (among-before names (firsts own)) covers) all.1)
            (subst (λ l. AreInner nodes known l more) together inner),
      )

  reached-level : (names now : List (List ℕ)) (chains : List Suffixes) → AreReached names chains
      → Covers now names → Covers now (firsts (flat_map (extended nodes known) chains))
      → AreReached now (flat_map (extended nodes known) chains)
  unfolding AreReached
  reached-level names now [] all old new = tt
  reached-level names now (chain ∷ chains) all old new =
      let own = extended nodes known chain in
      let others = flat_map (extended nodes known) chains in
      let both : Covers now (firsts own ++ firsts others) =
      rw (map-append first_of own others) at new
      in
      all-append (λ chain. Covers now chain) own others
      (all-before_each (λ chain. Covers now chain) (filter (may_precede nodes known chain) known)
      chain (λ x among. Covers-cons now x chain
      (both x (among-before (firsts own) (firsts others) x (rw (firsts-extended nodes known chain)
      among))) (Covers-then now names chain old all.0)))
      (reached-level names now chains all.1 old (λ x among.
      both x (among-behind (firsts own) (firsts others) x among)))

  inner-levels : (room : ℕ) (names : List (List ℕ)) (chains : List Suffixes)
      → AreReached names chains
      → AreInner nodes known names (chains ++ all_extended room nodes known chains)
  unfolding AreReached all_extended
  inner-levels zero names chains all = inner-level names chains [] all tt
  inner-levels (suc room) names chains all =
      let longer = flat_map (extended nodes known) chains in
      let now = names ++ firsts longer in
      inner-level names chains (longer ++ all_extended room nodes known longer) all
      (inner-levels room now longer (reached-level names now chains all
      (among-before names (firsts longer)) (among-behind names (firsts longer))))

  -- so many known suffixes are not in the chains
  HaveLeft : ℕ → List Suffixes → Type 0
  HaveLeft room chains = AllByRecursion (λ chain. left_over known chain ≤ room) chains

  extended-none : (chains : List Suffixes) → HaveLeft 0 chains
      → flat_map (extended nodes known) chains ≡ []
  unfolding HaveLeft
  extended-none [] all = refl
  extended-none (chain ∷ more) all =
      let none = filter-none (may_precede nodes known chain) (λ x. not (is_among chain x)) known
      (λ x passes. (and_parts (is_some (rule_between nodes known x (first_of chain)))
      (not (is_among chain x)) passes).1) all.0 in
      rw (none, extended-none more all.1) refl

  fewer-left : (room : ℕ) (chain : Suffixes) → left_over known chain ≤ suc room
      → HaveLeft room (extended nodes known chain)
  unfolding HaveLeft
  fewer-left room chain left =
      all-extended (λ chain. left_over known chain ≤ room) chain (λ x among new.
      let less = left_over-less known chain (x ∷ chain) x
      (λ y in_chain. among-tail y x chain in_chain)
      among new (among-head x chain) in
      omega (arith, less, left))

  -- All chains are those, and what extends them all; none is left out.
  flat_map-levels : (room : ℕ) (chains : List Suffixes) → HaveLeft room chains
      → flat_map (extended nodes known) (chains ++ all_extended room nodes known chains)
      ≡ all_extended room nodes known chains
  unfolding HaveLeft all_extended
  flat_map-levels zero chains all =
      ap (flat_map (extended nodes known)) (append-nil chains) ∙ extended-none chains all
  flat_map-levels (suc room) chains all =
      let longer = flat_map (extended nodes known) chains in
      flat_map-append (extended nodes known) chains (longer ++ all_extended room nodes known longer)
      ∙ ap (λ l. longer ++ l) (flat_map-levels room longer
      (all-flat_map (λ chain. left_over known chain ≤ suc room)
      (λ chain. left_over known chain ≤ room)
      chains (fewer-left room) all))

  module _ (own : List ℕ) where
    -- all chains, and that of the target's own suffix alone
    abbrev pub whole : List Suffixes
    whole = (own ∷ []) ∷ chains_to nodes known own

    pub chains_to-extended : flat_map (extended nodes known) whole ≡ chains_to nodes known own
    unfolding HaveLeft
    chains_to-extended =
        flat_map-levels (length known) ((own ∷ []) ∷ [])
        (left_over-limit known (own ∷ []), tt)

    -- The first chains are that of the own suffix, and the first ones that extend them all.
    pub first_chains-extended : first_chains nodes known own
        ≡ (own ∷ []) ∷ fresh (own ∷ []) (flat_map (extended nodes known)
        (first_chains nodes known own))
    unfolding AreReached
    first_chains-extended =
        let inner = inner-levels (length known) (own ∷ []) ((own ∷ []) ∷ [])
        ((λ x among. among), tt) in
        let same = fresh-flat_map nodes known [] (own ∷ []) whole
        (λ z among. absurd (false≢true among)) inner in
        ap (λ l. (own ∷ []) ∷ fresh (own ∷ []) l) (sym chains_to-extended)
        ∙ ap (λ l. (own ∷ []) ∷ l) same

    -- the own suffix is in all, and never goes before another
    pub chains_to-apart :
        AllByRecursion (λ chain. bytes_eq own (first_of chain) ≡ false) (chains_to nodes known own)
    chains_to-apart =
        subst (AllByRecursion (λ chain. bytes_eq own (first_of chain) ≡ false)) chains_to-extended
        (all-flat_map (λ chain. is_among chain own ≡ true)
        (λ chain. bytes_eq own (first_of chain) ≡ false) whole
        (λ chain inside. all-extended (λ chain. bytes_eq own (first_of chain) ≡ false) chain
        (λ x among new. apart own x chain inside new)) (
          among-head own [],
          all-levels (λ chain. is_among chain own ≡ true) (length known) ((own ∷ []) ∷ [])
              (λ chain x new inside. among-tail own x chain inside) (among-head own [], tt),
        ))
      where
        apart : (own x : List ℕ) (chain : Suffixes) → is_among chain own ≡ true
            → is_among chain x ≡ false → bytes_eq own x ≡ false
        apart own x chain inside new =
            elim (cases_Bool (bytes_eq own x)) [
              | inl same ↦
                  absurd (false≢true (sym new ∙ subst (λ y. is_among chain y ≡ true)
                  (same_bytes own x same) inside))
              | inr other ↦ other
            ]
