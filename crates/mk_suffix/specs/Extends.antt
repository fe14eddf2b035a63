-- What a search does with the rules to one suffix.
use Rattle.std.specs.Prelude.{◌≡◌, ℕ, ◌+◌, ◌<◌, ◌≤◌, ◌&&◌, Bool, true, false, not, List, ◌∷◌, ◌++◌}
use Rattle.std.specs.Prelude.{length, map, filter, Option, Some, None, is_some}
use Rattle.std.specs.List.{list_any}
use Rattle.mk_depline.specs.Names.{is_among}
use Rattle.mk_graph.specs.Nodes.{Node}
use Rattle.mk_graph.specs.Numbers.{AreBelow}
use Rattle.mk_suffix.specs.Chains.{Suffixes, first_of, rule_between, may_precede, extended}
use Rattle.mk_suffix.specs.Chains.{rules_of}
use Rattle.mk_suffix.specs.Found.{is_there}
use Rattle.mk_suffix.specs.Search.{Way, way_at, chains_of, reached, Leads, left_over, is_source}
use Rattle.mk_suffix.specs.SearchView.{way_of}
use Rattle.mk_suffix.specs.declared.step.Hit.{Hit}
use Rattle.mk_suffix.specs.declared.step.Step.{Step}

-- the rules of a chain are there
pub record IsMade (nodes : List Node) (way : Way) : Type 0 where
  pub as_many : length way.suffixes ≡ length way.rules + 1
  pub rules : way.rules ≡ rules_of nodes way.suffixes
  pub below : AreBelow (length nodes) way.rules

-- and its suffixes were reached
pub record IsWay (nodes : List Node) (names : List (List ℕ)) (way : Way) : Type 0 where
  pub made : IsMade nodes way
  pub inner : (x : List ℕ) → is_among way.suffixes x ≡ true → is_among names x ≡ true

abbrev pub AreWays : List Node → List Way → Type 0
AreWays nodes ways = (at : ℕ) → at < length ways → IsWay nodes (reached ways) (way_at ways at)

-- a rule leads from a suffix to that at a place, and it was not reached before
pub record IsNew (nodes : List Node) (known : List (List ℕ)) (ways : List Way) (suffix : List ℕ)
    (at : ℕ) (step : Step) : Type 0 where
  pub suffix_is : step.suffix.now ≡ suffix
  pub place : step.to ≡ at
  pub rule : rule_between nodes known suffix (first_of (way_at ways at).suffixes) ≡ Some step.rule
  pub within : step.rule < length nodes
  pub new : is_among (reached ways) suffix ≡ false

abbrev pub IsStepFrom : List Node → List (List ℕ) → List Way → List ℕ → ℕ → Option Step → Type 0
IsStepFrom nodes known ways suffix at None =
    (is_some (rule_between nodes known suffix (first_of (way_at ways at).suffixes))
    && not (is_among (reached ways) suffix)) ≡ false
IsStepFrom nodes known ways suffix at (Some step) = IsNew nodes known ways suffix at step

-- the chains with one of these suffixes before the chain at a place
abbrev pub extended_by : List Node → List (List ℕ) → Suffixes → List (List ℕ) → List Suffixes
extended_by nodes known chain suffixes =
    map (λ suffix. suffix ∷ chain) (filter (may_precede nodes known chain) suffixes)

-- the suffixes that lead to that at a place were reached, up to these
pub record Extends (nodes : List Node) (known : List (List ℕ)) (old new : List Way) (at : ℕ)
    (suffixes : List (List ℕ)) : Type 0 where
  pub ways : AreWays nodes new
  pub same : way_at new at ≡ way_at old at
  pub longer : length old ≤ length new
  pub fewer : left_over known (reached new) + length new
      ≤ left_over known (reached old) + length old
  pub leads : (rest whole : List Suffixes)
      → Leads old (extended nodes known (way_at old at).suffixes ++ rest) whole
      → Leads new (extended_by nodes known (way_at old at).suffixes suffixes ++ rest) whole

-- or one of them is found
pub record IsHit (nodes : List Node) (known : List (List ℕ)) (old new : List Way) (at : ℕ)
    (step : Step) : Type 0 where
  pub within : step.to < length new
  pub made : IsMade nodes (way_of new step)
  pub longer : length old ≤ length new
  pub new_one : is_among (reached new) step.suffix.now ≡ false
  pub leads : (rest whole : List Suffixes)
      → Leads old (extended nodes known (way_at old at).suffixes ++ rest) whole
      → (more : List Suffixes) × (whole ≡ chains_of new ++ (way_of new step).suffixes ∷ more)

-- what was gone through of these suffixes, up to a hit
abbrev pub Went : List Node → List (List ℕ) → List Way → List Way → ℕ → List (List ℕ) → Option Step
    → Type 0
Went nodes known old new at suffixes None = Extends nodes known old new at suffixes
Went nodes known old new at suffixes (Some step) = IsHit nodes known old new at step

-- going on by one suffix
abbrev pub GoesOn : List Node → List (List ℕ) → List Way → List Way → ℕ → List ℕ → Option Step
    → Type 0
GoesOn nodes known now new at suffix hit = (old : List Way) (more : List (List ℕ))
    → Extends nodes known old now at (suffix ∷ more) → Went nodes known old new at more hit

-- of the suffixes that were reached since, none is found
abbrev pub NoneFound : (List ℕ → Bool) → List ℕ → List Way → List Way → Type 0
NoneFound found base old new = (own : List ℕ)
    → list_any (is_source found base own) (reached new)
    ≡ list_any (is_source found base own) (reached old)

-- the step to a source that is found
abbrev pub step_of : Option Hit → Option Step
step_of None = None
step_of (Some hit) = Some hit.step

-- or the place of the one that is
abbrev pub Found : (List ℕ → Option (List ℕ)) → List ℕ → List Way → List Way → Option Hit → Type 0
Found place base old new None = NoneFound (is_there place) base old new
Found place base old new (Some hit) =
    NoneFound (is_there place) base old new
    × (place (base ++ hit.step.suffix.now) ≡ Some hit.source)
