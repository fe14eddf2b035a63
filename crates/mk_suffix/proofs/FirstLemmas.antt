-- The first chain that is found, by the suffixes that a search reaches.
use Rattle.std.proofs.Common.{◌≡◌, ◌∙◌, ℕ, ◌+◌, ◌<◌, not, Bool, true, false, inl, inr, List, []}
use Rattle.std.proofs.Common.{◌∷◌}
use Rattle.std.proofs.Common.{◌++◌, length, drop, get_or, sym, ap, subst, arith, Option, Some, None, is_some}
use Rattle.std.proofs.lemmas.Bool.{cases_Bool, and_from, not_from_false, false≢true}
use Rattle.std.specs.List.{find, flat_map, list_any}
use Rattle.std.specs.Option.{option_map}
use Rattle.std.specs.Str.{bytes_eq}
use Rattle.mk_depline.specs.Names.{is_among}
use Rattle.mk_graph.specs.Nodes.{Node}
use Rattle.mk_suffix.specs.Chains.{Suffixes, first_of, extended, first_found, chain_of}
use Rattle.mk_suffix.specs.Chains.{placed_chain, with_source, choice}
use Rattle.mk_suffix.specs.Found.{Seeking, is_there, place_of}
use Rattle.mk_suffix.specs.Names.{suffix_of, without_end}
use Rattle.mk_suffix.specs.Extends.{Extends, IsHit, Found}
use Rattle.mk_suffix.specs.Search.{Way, own_way, way_at, chains_of, reached, Leads, first_chains}
use Rattle.mk_suffix.specs.Search.{is_source}
use Rattle.mk_suffix.specs.SearchView.{way_of, made_by}
use Rattle.mk_suffix.specs.declared.chain.Chain.{Chain}
use Rattle.mk_world.specs.Deeds.{Store}
use Rattle.mk_suffix.specs.declared.step.Hit.{Hit}
use Rattle.mk_suffix.specs.declared.step.Step.{Step}
use Rattle.mk_suffix.proofs.AmongLemmas.{among-head, same_bytes}
use Rattle.mk_suffix.proofs.MadeLemmas.{made_by-chain_of}
use Rattle.mk_suffix.proofs.LevelLemmas.{first_chains-extended}
use Rattle.mk_suffix.proofs.SearchLemmas.{Leads-at, Leads-over, find-met, find-none}
use Rattle.mk_suffix.proofs.SearchLemmas.{first_found-first}

module _ (nodes : List Node) (known : List (List ℕ)) (own : List ℕ) where
  abbrev pub whole : List Suffixes
  whole = first_chains nodes known own

  -- what is left of all first chains, where the suffixes before a place were gone through
  abbrev pub left_at : ℕ → List Suffixes
  left_at at = flat_map (extended nodes known) (drop at whole)

  pub Leads-first : Leads (own_way own ∷ []) (left_at 0) whole
  Leads-first = first_chains-extended nodes known own

  here : (now : List Way) (at : ℕ) → at < length now → Leads now (left_at at) whole
      → left_at at ≡ extended nodes known (way_at now at).suffixes ++ left_at (at + 1)
  here now at within leads =
      ap (flat_map (extended nodes known)) (Leads-at now (left_at at) whole at within leads)

  pub Leads-went : (now new : List Way) (at : ℕ) → at < length now → Leads now (left_at at) whole
      → Extends nodes known now new at [] → Leads new (left_at (at + 1)) whole
  Leads-went now new at within leads extends =
      extends.leads (left_at (at + 1)) whole
      (subst (λ rest. Leads now rest whole) (here now at within leads) leads)

  pub Leads-hit : (now new : List Way) (at : ℕ) (step : Step) → at < length now
      → Leads now (left_at at) whole → IsHit nodes known now new at step
      → (more : List Suffixes) × (whole ≡ chains_of new ++ (way_of new step).suffixes ∷ more)
  Leads-hit now new at step within leads hit =
      hit.leads (left_at (at + 1)) whole
      (subst (λ rest. Leads now rest whole) (here now at within leads) leads)

  -- the own suffix was reached first
  own_reached : (ways : List Way) (rest : List Suffixes) → 0 < length ways
      → whole ≡ chains_of ways ++ rest → is_among (reached ways) own ≡ true
  own_reached [] rest some is = absurd (omega arith)
  own_reached (way ∷ ways) rest some is =
      let first : own ∷ [] ≡ way.suffixes =
      ap (λ chains. get_or chains 0 []) (sym (first_chains-extended nodes known own) ∙ is) in
      subst (λ chain. is_among (first_of chain ∷ reached ways) own ≡ true) first
      (among-head own (reached ways))

  -- the chain from a suffix that is found is the first, where those before are not
  pub first_found-hit : (found : List ℕ → Bool) (base : List ℕ) (ways : List Way) (chain : Suffixes)
      (more : List Suffixes) → 0 < length ways → whole ≡ chains_of ways ++ chain ∷ more
      → list_any (is_source found base own) (reached ways) ≡ false
      → is_among (reached ways) (first_of chain) ≡ false → found (base ++ first_of chain) ≡ true
      → first_found found nodes known base own ≡ Some chain
  first_found-hit found base ways chain more some is none new met =
      first_found-first nodes known found base own
      ∙ (ap (find (λ chain. is_source found base own (first_of chain))) is
      ∙ find-met (is_source found base own) ways chain more none
      (and_from (not (bytes_eq own (first_of chain))) (found (base ++ first_of chain))
      (not_from_false (bytes_eq own (first_of chain)) apart) met))
    where
      apart : bytes_eq own (first_of chain) ≡ false
      apart =
          elim (cases_Bool (bytes_eq own (first_of chain))) [
            | inl same ↦
                absurd (false≢true (sym new ∙ subst (λ x. is_among (reached ways) x ≡ true)
                (same_bytes own (first_of chain) same)
                (own_reached ways (chain ∷ more) some is)))
            | inr other ↦ other
          ]

  pub first_found-none : (found : List ℕ → Bool) (base : List ℕ) (ways : List Way) (at : ℕ)
      → at ≡ length ways → Leads ways (left_at at) whole
      → list_any (is_source found base own) (reached ways) ≡ false
      → first_found found nodes known base own ≡ None
  first_found-none found base ways at behind leads none =
      first_found-first nodes known found base own
      ∙ (ap (find (λ chain. is_source found base own (first_of chain)))
      (Leads-over nodes known ways whole (subst (λ i. Leads ways (left_at i) whole) behind leads))
      ∙ find-none (is_source found base own) ways none)

  -- the answer, where a step is found
  pub answer-hit : (place : List ℕ → Option (List ℕ)) (base : List ℕ) (now new : List Way) (at : ℕ)
      (met : Hit) (chain : Chain) → at < length now → Leads now (left_at at) whole
      → IsHit nodes known now new at met.step
      → chain ≡ with_source (Some met.source) (made_by base (way_of new met.step))
      → list_any (is_source (is_there place) base own) (reached now) ≡ false
      → Found place base now new (Some met)
      → option_map (placed_chain place nodes base)
      (first_found (is_there place) nodes known base own) ≡ Some chain
  answer-hit place base now new at met chain within leads hit is none found =
      let all = Leads-hit now new at met.step within leads hit in
      let suffixes = (way_of new met.step).suffixes in
      ap (option_map (placed_chain place nodes base))
      (first_found-hit (is_there place) base new suffixes all.0 (omega (arith, hit.within)) all.1
      (found.0 own ∙ none) hit.new_one (ap is_some found.1))
      ∙ ap (λ chain. Some chain)
      (ap (λ one. with_source one (chain_of nodes base suffixes)) found.1
      ∙ (ap (with_source (Some met.source))
      (sym (made_by-chain_of nodes base (way_of new met.step) hit.made)) ∙ sym is))

  -- and where none is
  pub answer-none : (place : List ℕ → Option (List ℕ)) (base : List ℕ) (ways : List Way) (at : ℕ)
      → at ≡ length ways → Leads ways (left_at at) whole
      → list_any (is_source (is_there place) base own) (reached ways) ≡ false
      → option_map (placed_chain place nodes base)
      (first_found (is_there place) nodes known base own) ≡ None
  answer-none place base ways at behind leads none =
      ap (option_map (placed_chain place nodes base))
      (first_found-none (is_there place) base ways at behind leads none)

-- the chain that is chosen for a name with a suffix
pub choice-own : (files : Store) (nodes : List Node) (seeking : Seeking) (name own base : List ℕ)
    (chain : Option Chain) → suffix_of seeking.suffixes name ≡ Some own → base ≡ without_end name own
    → option_map (placed_chain (place_of files nodes seeking) nodes base)
    (first_found (is_there (place_of files nodes seeking)) nodes seeking.suffixes base own) ≡ chain
    → choice files nodes seeking name ≡ chain
choice-own files nodes seeking name own base chain suffix_is base_is is =
    rw suffix_is (rw base_is at is)
