-- The steps of a search, as chains.
use Rattle.std.specs.Prelude.{ℕ, suc, ◌<◌, Bool, List, [], ◌∷◌, ◌++◌, map}
use Rattle.std.specs.List.{list_any}
use Rattle.std.specs.Str.{bytes_eq}
use Rattle.mk_suffix.specs.Search.{Way, way_at, way_by}
use Rattle.mk_suffix.specs.declared.chain.Chain.{Chain}
use Rattle.mk_suffix.specs.declared.step.Step.{Step}

-- the chain from a step, where these are those of the steps before it
abbrev pub way_of : List Way → Step → Way
way_of ways step = way_by (way_at ways step.to) step.suffix.now step.rule

unfoldable pub ways_from : List Way → List Step → List Way
ways_from ways [] = ways
ways_from ways (step ∷ more) = ways_from (ways ++ way_of ways step ∷ []) more

abbrev pub suffixes_of : List Step → List (List ℕ)
suffixes_of steps = map (λ step. step.suffix.now) steps

-- whether one of them is from a suffix
abbrev pub has_step : List Step → List ℕ → Bool
has_step steps suffix = list_any (λ step. bytes_eq suffix step.suffix.now) steps

-- each step leads to one before it
abbrev pub AreBehind : ℕ → List Step → Type 0
AreBehind room [] = Unit {0}
AreBehind room (step ∷ more) = (step.to < room) × AreBehind (suc room) more

-- a chain as it is answered, for this base of a name
abbrev pub made_by : List ℕ → Way → Chain
made_by base way =
    record { names = map (λ suffix. base ++ suffix) way.suffixes; rules = way.rules }
