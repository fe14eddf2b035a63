-- How a search goes on, and what it comes to.
use Rattle.std.proofs.Common.{◌≡◌, ◌∙◌, ℕ, zero, suc, ◌+◌, ◌<◌, ◌≤◌, Bool, true, false}
use Rattle.std.proofs.Common.{inl, inr, List, [], ◌∷◌, ◌++◌, length, drop, refl, sym, ap, subst}
use Rattle.std.proofs.Common.{arith}
use Rattle.std.proofs.Common.{append_assoc, Some, None, filter}
use Rattle.std.proofs.lemmas.Bool.{cases_Bool, or_parts}
use Rattle.std.proofs.lemmas.Grind.{common_steps}
use Rattle.std.proofs.lemmas.List.{append-nil, map-append}
use Rattle.std.specs.List.{find, flat_map, list_any, AllByRecursion}
use Rattle.std.specs.Str.{bytes_eq}
use Rattle.mk_depline.specs.Names.{is_among}
use Rattle.mk_graph.specs.Nodes.{Node}
use Rattle.mk_suffix.specs.Chains.{Suffixes, first_of, extended, may_precede, chains_to}
use Rattle.mk_suffix.specs.Chains.{first_found}
use Rattle.mk_suffix.specs.Search.{Way, way_at, chains_of, reached, Leads, first_chains}
use Rattle.mk_suffix.specs.Search.{fresh, firsts, is_source}
use Rattle.mk_suffix.proofs.AmongLemmas.{bytes_same}
use Rattle.mk_suffix.proofs.FreshLemmas.{fresh-all, fresh-find}
use Rattle.mk_suffix.proofs.LevelLemmas.{all-before_each, all-flat_map}
use Rattle.mk_suffix.proofs.LevelLemmas.{chains_to-apart}

pub chains_of-append : (ways : List Way) (way : Way)
    → chains_of (ways ++ way ∷ []) ≡ chains_of ways ++ way.suffixes ∷ []
chains_of-append ways way = map-append (λ (way : Way). way.suffixes) ways (way ∷ [])

pub reached-append : (ways : List Way) (way : Way)
    → reached (ways ++ way ∷ []) ≡ reached ways ++ first_of way.suffixes ∷ []
reached-append ways way =
    ap firsts (chains_of-append ways way) ∙ map-append first_of (chains_of ways) (way.suffixes ∷ [])

-- a chain from a suffix that was reached is passed over
pub Leads-old : (ways : List Way) (chain : Suffixes) (rest whole : List Suffixes)
    → is_among (reached ways) (first_of chain) ≡ true → Leads ways (chain ∷ rest) whole
    → Leads ways rest whole
Leads-old ways chain rest whole old leads = rw old at leads

-- another one is one of the first chains
pub Leads-met : (ways : List Way) (chain : Suffixes) (rest whole : List Suffixes)
    → is_among (reached ways) (first_of chain) ≡ false → Leads ways (chain ∷ rest) whole
    → whole ≡ chains_of ways ++ chain ∷ fresh (reached ways ++ first_of chain ∷ []) rest
Leads-met ways chain rest whole new leads = rw new at leads

pub Leads-new : (ways : List Way) (way : Way) (rest whole : List Suffixes)
    → is_among (reached ways) (first_of way.suffixes) ≡ false
    → Leads ways (way.suffixes ∷ rest) whole → Leads (ways ++ way ∷ []) rest whole
Leads-new ways way rest whole new leads =
    let more = fresh (reached ways ++ first_of way.suffixes ∷ []) rest in
    Leads-met ways way.suffixes rest whole new leads
    ∙ (sym (append_assoc (chains_of ways) (way.suffixes ∷ []) more)
    ∙ (ap (λ l. l ++ more) (sym (chains_of-append ways way))
    ∙ ap (λ l. chains_of (ways ++ way ∷ []) ++ fresh l rest) (sym (reached-append ways way))))

chain_at : (ways : List Way) (more : List Suffixes) (at : ℕ) → at < length ways
    → drop at (chains_of ways ++ more)
    ≡ (way_at ways at).suffixes ∷ drop (at + 1) (chains_of ways ++ more)
chain_at [] more at within = absurd (omega arith)
chain_at (way ∷ ways) more zero within = grind (arith, common_steps)
chain_at (way ∷ ways) more (suc at) within =
    let next : suc at + 1 ≡ suc (at + 1) = omega arith in
    rw next (chain_at ways more at (omega arith))

-- the chains that are gone through are those by which suffixes were reached
pub Leads-at : (ways : List Way) (rest whole : List Suffixes) (at : ℕ) → at < length ways
    → Leads ways rest whole → drop at whole ≡ (way_at ways at).suffixes ∷ drop (at + 1) whole
Leads-at ways rest whole at within leads =
    subst (λ l. drop at l ≡ (way_at ways at).suffixes ∷ drop (at + 1) l) (sym leads)
    (chain_at ways (fresh (reached ways) rest) at within)

drop-chains : (ways : List Way) (more : List Suffixes)
    → drop (length ways) (chains_of ways ++ more) ≡ more
drop-chains [] more = refl
drop-chains (way ∷ ways) more = drop-chains ways more

find-same : (p q : Suffixes → Bool) (chains : List Suffixes)
    → AllByRecursion (λ chain. p chain ≡ q chain) chains → find p chains ≡ find q chains
find-same p q [] all = refl
find-same p q (chain ∷ more) all =
    elim (cases_Bool (q chain)) [
      | inl passes ↦ rw (all.0, passes) refl
      | inr fails ↦ rw (all.0, fails) (find-same p q more all.1)
    ]

pub find-met : (q : List ℕ → Bool) (ways : List Way) (chain : Suffixes) (more : List Suffixes)
    → list_any q (reached ways) ≡ false → q (first_of chain) ≡ true
    → find (λ chain. q (first_of chain)) (chains_of ways ++ chain ∷ more) ≡ Some chain
find-met q [] chain more none passes = rw passes refl
find-met q (way ∷ ways) chain more none passes =
    let parts = or_parts (q (first_of way.suffixes)) (list_any q (reached ways)) none in
    rw (parts.0) (find-met q ways chain more parts.1 passes)

pub find-none : (q : List ℕ → Bool) (ways : List Way) → list_any q (reached ways) ≡ false
    → find (λ chain. q (first_of chain)) (chains_of ways) ≡ None
find-none q [] none = refl
find-none q (way ∷ ways) none =
    let parts = or_parts (q (first_of way.suffixes)) (list_any q (reached ways)) none in
    rw (parts.0) (find-none q ways parts.1)

pub own_is_none : (found : List ℕ → Bool) (base own : List ℕ) → is_source found base own own ≡ false
own_is_none found base own = rw (bytes_same own) refl

module _ (nodes : List Node) (known : List (List ℕ)) where
  are_longer : (n : ℕ) (names : List (List ℕ)) (chains : List Suffixes)
      → chains ≡ fresh names (flat_map (extended nodes known) chains)
      → AllByRecursion (λ chain. n ≤ length chain) chains
  are_longer zero names chains is = all chains
    where
      all : (chains : List Suffixes) → AllByRecursion (λ chain. 0 ≤ length chain) chains
      all [] = tt
      all (chain ∷ more) = (omega arith, all more)
  are_longer (suc n) names chains is =
      let longer = flat_map (extended nodes known) chains in
      subst (AllByRecursion (λ chain. suc n ≤ length chain)) (sym is)
      (fresh-all (λ chain. suc n ≤ length chain) names longer
      (all-flat_map nodes known (λ chain. n ≤ length chain) (λ chain. suc n ≤ length chain) chains
      (λ chain long. all-before_each (λ chain. suc n ≤ length chain)
      (filter (may_precede nodes known chain) known) chain (λ x among. omega (arith, long)))
      (are_longer n names chains is)))

  -- no chains are there because they extend each other
  pub extend_each_other : (names : List (List ℕ)) (chains : List Suffixes)
      → chains ≡ fresh names (flat_map (extended nodes known) chains) → chains ≡ []
  extend_each_other names chains is =
      none chains (λ n. are_longer n names chains is)
    where
      none : (chains : List Suffixes)
          → ((n : ℕ) → AllByRecursion (λ chain. n ≤ length chain) chains) → chains ≡ []
      none [] all = refl
      none (chain ∷ more) all =
          let long = all (suc (length chain)) in absurd (omega (arith, long.0))

  -- where all that was reached was gone through, nothing is left
  pub Leads-over : (ways : List Way) (whole : List Suffixes)
      → Leads ways (flat_map (extended nodes known) (drop (length ways) whole)) whole
      → whole ≡ chains_of ways
  Leads-over ways whole leads =
      let rest = drop (length ways) whole in
      let longer = flat_map (extended nodes known) rest in
      let same : rest ≡ fresh (reached ways) longer =
      ap (drop (length ways)) leads ∙ drop-chains ways (fresh (reached ways) longer) in
      let none = extend_each_other (reached ways) rest same in
      leads ∙ (ap (λ l. chains_of ways ++ l) (sym same ∙ none) ∙ append-nil (chains_of ways))

  -- The first chain that is found is the first of those from each suffix.
  pub first_found-first : (found : List ℕ → Bool) (base own : List ℕ)
      → first_found found nodes known base own
      ≡ find (λ chain. is_source found base own (first_of chain)) (first_chains nodes known own)
  first_found-first found base own =
      let q = is_source found base own in
      let all = chains_to nodes known own in
      find-same (λ chain. found (base ++ first_of chain)) (λ chain. q (first_of chain)) all
      (each all (chains_to-apart nodes known own))
      ∙ (first_passed ∙ sym (fresh-find q [] ((own ∷ []) ∷ all) refl))
    where
      each : (chains : List Suffixes)
          → AllByRecursion (λ chain. bytes_eq own (first_of chain) ≡ false) chains
          → AllByRecursion (λ chain. found (base ++ first_of chain)
          ≡ is_source found base own (first_of chain)) chains
      each [] apart = tt
      each (chain ∷ more) apart = (rw (apart.0) refl, each more apart.1)

      first_passed : find (λ chain. is_source found base own (first_of chain))
          (chains_to nodes known own)
          ≡ find (λ chain. is_source found base own (first_of chain))
          ((own ∷ []) ∷ chains_to nodes known own)
      first_passed = rw (own_is_none found base own) refl
