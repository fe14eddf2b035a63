-- The code's steps of an evaluation.
use Rattle.std.specs.Prelude.{◌≡◌, ℕ, List, Ok}
use Rattle.mk_ast.specs.Tree.{Mods, Part, end, no_mods, part, plain}
use Rattle.mk_bytes.specs.declared.pair.Pair.{Pair}
use Rattle.mk_values.specs.Chains.{chained, defined_as}
use Rattle.mk_values.specs.Evaluators.{Progress, Counted, Finder, ◌>>=◌, noting}
use Rattle.mk_values.specs.Names.{Context, in_name}
use Rattle.mk_values.specs.Value.{found, reference, variable}
use Rattle.mk_values.specs.declared.chain.Found.{Found}

-- what a name finds, behind its modifiers
abbrev pub named : Finder → Context → Progress → List ℕ → Mods → Counted Found
named find c p name mods =
    variable find c p name >>= λ v. chained find (in_name c) v.1 name v.0 mods

-- The reference to this name without modifiers.
abbrev pub IsNamed : Part → List ℕ → Type 0
IsNamed one name = (find : Finder) (c : Context) (p : Progress)
    → found find c p one ≡ reference find c p (part (plain name) end) no_mods

-- A reference looks up this name and finds this word among the variables of `:@`, whatever other
-- names mean.
abbrev pub Lends : List (List ℕ) → List Pair → Part → List ℕ → List ℕ → Type 0
Lends open_names bound one name word = (find : Finder) (c : Context) (p : Progress)
    → c.open_names ≡ open_names → c.bound ≡ bound
    → (found find c p one).answer ≡ Ok (defined_as word, noting name p)
