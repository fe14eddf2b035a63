-- Names that are made in the same way have the same means.
use Rattle.std.proofs.Common.{◌≡◌, ◌⊎◌, ◌∙◌, ℕ, ◌&&◌, Bool, true, false, not, cond, List, [], ◌∷◌, ◌++◌, map, Option, Some, None, is_some, if◌then◌else◌}
use Rattle.std.proofs.Common.{inl, inr, refl, ap}
use Rattle.std.specs.List.{AllByRecursion, find}
use Rattle.std.specs.Option.{option_map}
use Rattle.mk_bytes.specs.Paths.{is_absolute}
use Rattle.mk_closure.specs.Means.{chain_for, has_commands, is_phony, means_by, means_of}
use Rattle.mk_closure.specs.declared.means.Means.TheVariants.{Own}
use Rattle.mk_dirs.specs.Places.{below, first_below, if_there, or_else, place, searched}
use Rattle.mk_graph.specs.declared.Made.{Made}
use Rattle.mk_graph.specs.declared.attr.Attr.TheVariants.{Phony, Target}
use Rattle.mk_plain.specs.Names.{AreSourcesAlike, IsMadeAlike, IsPlacedAlike, sought}
use Rattle.mk_plan.specs.Plans.{seeking_of}
use Rattle.mk_suffix.specs.Chains.{Suffixes, chain_of, chains_to, choice, choice_at, first_of, placed_chain, with_source}
use Rattle.mk_suffix.specs.Found.{is_marked, is_there, place_of}
use Rattle.mk_suffix.specs.Names.{suffix_of, without_end}
use Rattle.mk_suffix.specs.declared.chain.Chain.{Chain}
use Rattle.mk_world.specs.Deeds.{Store}

-- the first of some items, and what is made of it
picked : {A B : Type 0} (f g : A → B) (one : A) (rest other_rest : Option A) (there here : Bool) → there ≡ here
    → f one ≡ g one → option_map f rest ≡ option_map g other_rest
    → option_map f (cond there (Some one) rest) ≡ option_map g (cond here (Some one) other_rest)
picked f g one rest other_rest true true is same others = ap Some same
picked f g one rest other_rest false false is same others = others
picked f g one rest other_rest true false is same others = absurd cc
picked f g one rest other_rest false true is same others = absurd cc

module _ (files other : Store) (made : Made) where
  first-alike : (dirs : List (List ℕ)) (name : List ℕ)
      → AllByRecursion (λ path. other path ≡ files path) (map (λ dir. below made.scopes.cwd dir name) dirs)
      → first_below other made.scopes.cwd dirs name ≡ first_below files made.scopes.cwd dirs name
  first-alike [] name same = refl
  first-alike (dir ∷ dirs) name same =
      ap (λ found. or_else (if is_some found then Some (below made.scopes.cwd dir name) else None)
      (first_below other made.scopes.cwd dirs name)) same.0
      ∙ ap (or_else (if_there files (below made.scopes.cwd dir name))) (first-alike dirs name same.1)

  placed-as : (target : Bool) (name : List ℕ)
      → (target ≡ true) ⊎ AllByRecursion (λ path. other path ≡ files path) (sought made name)
      → place other target made.paths made.scopes.cwd name ≡ place files target made.paths made.scopes.cwd name
  placed-as true name alike = refl
  placed-as false name (inl is) = absurd cc
  placed-as false name (inr same) =
      ap (λ found. if is_some found then Some name else searched other made.paths made.scopes.cwd name) same.0
      ∙ ap (λ found. if is_some (files name) then Some name else (if is_absolute name then None else found))
      (first-alike made.paths name same.1)

  -- a name has the same place
  place-alike : (name : List ℕ) → IsPlacedAlike files other made name
      → place_of other made.graph (seeking_of made) name ≡ place_of files made.graph (seeking_of made) name
  place-alike name alike =
      ap (λ (found : Option (List ℕ)).
      if not (is_marked made.graph name Target) && is_marked made.graph name Phony then None else found)
      (placed-as (is_marked made.graph name Target) name alike)

  -- the first chain whose source is found
  found-alike : (base : List ℕ) (chains : List Suffixes)
      → AllByRecursion (λ chain. IsPlacedAlike files other made (base ++ first_of chain)) chains
      → option_map (placed_chain (place_of other made.graph (seeking_of made)) made.graph base)
      (find (λ chain. is_there (place_of other made.graph (seeking_of made)) (base ++ first_of chain)) chains)
      ≡ option_map (placed_chain (place_of files made.graph (seeking_of made)) made.graph base)
      (find (λ chain. is_there (place_of files made.graph (seeking_of made)) (base ++ first_of chain)) chains)
  found-alike base [] alike = refl
  found-alike base (chain ∷ chains) alike =
      let same = place-alike (base ++ first_of chain) alike.0 in
      picked (placed_chain (place_of other made.graph (seeking_of made)) made.graph base)
      (placed_chain (place_of files made.graph (seeking_of made)) made.graph base) chain
      (find (λ one. is_there (place_of other made.graph (seeking_of made)) (base ++ first_of one)) chains)
      (find (λ one. is_there (place_of files made.graph (seeking_of made)) (base ++ first_of one)) chains)
      (is_there (place_of other made.graph (seeking_of made)) (base ++ first_of chain))
      (is_there (place_of files made.graph (seeking_of made)) (base ++ first_of chain)) (ap is_some same)
      (ap (λ source. with_source source (chain_of made.graph base chain)) same) (found-alike base chains alike.1)

  choice-as : (name : List ℕ) (own : Option (List ℕ)) → AreSourcesAlike files other made name own
      → choice_at (place_of other made.graph (seeking_of made)) made.graph made.suffixes name own
      ≡ choice_at (place_of files made.graph (seeking_of made)) made.graph made.suffixes name own
  choice-as name None alike = refl
  choice-as name (Some own) alike =
      found-alike (without_end name own) (chains_to made.graph made.suffixes own) alike

  chain-as : (name : List ℕ) (phony : Bool)
      → (phony ≡ true) ⊎ AreSourcesAlike files other made name (suffix_of made.suffixes name)
      → (if phony then None else choice other made.graph (seeking_of made) name)
      ≡ (if phony then None else choice files made.graph (seeking_of made) name)
  chain-as name true alike = refl
  chain-as name false (inl is) = absurd cc
  chain-as name false (inr alike) = choice-as name (suffix_of made.suffixes name) alike

  -- what a chain makes, is made so wherever it stands
  means-as : (name : List ℕ) (here there : Option (List ℕ)) (chain : Option Chain)
      → (there ≡ here) ⊎ (is_some chain ≡ true) → means_by name there chain ≡ means_by name here chain
  means-as name here there chain (inl same) = ap (λ found. means_by name found chain) same
  means-as name here there (Some chain) (inr is) = refl
  means-as name here there None (inr is) = absurd cc

  means-with : (name : List ℕ) (n : ℕ) (commands : Bool)
      → (commands ≡ true)
      ⊎ (((is_phony made.graph n ≡ true) ⊎ AreSourcesAlike files other made name (suffix_of made.suffixes name))
      × (IsPlacedAlike files other made name
      ⊎ (is_some (chain_for files made.graph (seeking_of made) name n) ≡ true)))
      → (if commands then Own else means_by name (place_of other made.graph (seeking_of made) name)
      (chain_for other made.graph (seeking_of made) name n))
      ≡ (if commands then Own else means_by name (place_of files made.graph (seeking_of made) name)
      (chain_for files made.graph (seeking_of made) name n))
  means-with name n true alike = refl
  means-with name n false (inl is) = absurd cc
  means-with name n false (inr alike) =
      ap (means_by name (place_of other made.graph (seeking_of made) name))
      (chain-as name (is_phony made.graph n) alike.0)
      ∙ means-as name (place_of files made.graph (seeking_of made) name)
      (place_of other made.graph (seeking_of made) name) (chain_for files made.graph (seeking_of made) name n)
      (by alike.1)
    where
      by : IsPlacedAlike files other made name
          ⊎ (is_some (chain_for files made.graph (seeking_of made) name n) ≡ true)
          → (place_of other made.graph (seeking_of made) name ≡ place_of files made.graph (seeking_of made) name)
          ⊎ (is_some (chain_for files made.graph (seeking_of made) name n) ≡ true)
      by (inl placed) = inl (place-alike name placed)
      by (inr chained) = inr chained

  -- A node that is made alike has the same means.
  pub means-alike : (name : List ℕ) (n : ℕ) → IsMadeAlike files other made name n
      → means_of other made.graph (seeking_of made) name n ≡ means_of files made.graph (seeking_of made) name n
  means-alike name n alike = means-with name n (has_commands made.graph n) alike
