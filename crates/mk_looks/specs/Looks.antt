-- An evaluation is by the raw values of the names that it looks up.
use Rattle.std.specs.Prelude.{◌≡◌, ℕ, ◌||◌, Bool, false, List, [], ◌∷◌, Option, Result, codes}
use Rattle.std.specs.List.{list_any}
use Rattle.mk_ast.specs.Tree.{Tree}
use Rattle.mk_cond.specs.Cond.{Cond}
use Rattle.mk_values.specs.Conditions.{truth_of}
use Rattle.mk_values.specs.Evaluators.{Progress}
use Rattle.mk_values.specs.Facts.{Answers, Lists}
use Rattle.mk_values.specs.Locals.{is_either}
use Rattle.mk_values.specs.Names.{Context}
use Rattle.mk_values.specs.Parts.{tree_value}
use Rattle.mk_values.specs.Value.{finder, names, of_tree}
use Rattle.mk_values.specs.declared.facts.Asked.{Asked}
use Rattle.mk_values.specs.declared.fault.ExpandFault.{ExpandFault}
use Rattle.mk_values.specs.declared.local.Locals.{Locals}
use Rattle.mk_scopes.specs.Scopes.{Variables}

-- the raw value of each name, or none, or the fault that there is
abbrev pub Raw : Type 0
Raw = List ℕ → Result (Option (List ℕ)) ExpandFault

-- these names have the same raw values by the one and by the other
abbrev pub AgreeOn : Raw → Raw → List (List ℕ) → Type 0
AgreeOn one other [] = Unit {0}
AgreeOn one other (name ∷ names) = (one name ≡ other name) × AgreeOn one other names

-- the same meaning, but for raw values
abbrev pub with_raw : Raw → Context → Context
with_raw raw c = record c { raw = raw }

-- What a tree gives is by the names that are looked up in it: where those have the same raw values,
-- it gives the same, be it a value or a fault, with the same references, questions and names.
abbrev pub TreesAreByNames : Type 0
TreesAreByNames =
    (c : Context) (raw : Raw) (p : Progress) (tree : Tree)
    → AgreeOn c.raw raw ((tree_value finder c p tree).names [])
    → tree_value finder (with_raw raw c) p tree ≡ tree_value finder c p tree

-- And so is what a condition gives.
abbrev pub ConditionsAreByNames : Type 0
ConditionsAreByNames =
    (c : Context) (raw : Raw) (p : Progress) (cond : Cond)
    → AgreeOn c.raw raw ((truth_of finder c p cond).names [])
    → truth_of finder (with_raw raw c) p cond ≡ truth_of finder c p cond

-- the names that stand for the sources that are newer than the target
abbrev pub is_newer_name : List ℕ → Bool
is_newer_name name =
    is_either name (codes ".OODATE") (codes "?") || is_either name (codes "?D") (codes "?F")

abbrev pub looks_for_newer : List (List ℕ) → Bool
looks_for_newer names = list_any is_newer_name names

-- the same local names, but for the sources that are newer
abbrev pub with_newer : List (List ℕ) → Locals → Locals
with_newer newer locals = record locals { oodate = newer }

-- A tree in which none of those names is looked up gives the same whichever sources are newer.
abbrev pub NewerDoNotCount : Type 0
NewerDoNotCount =
    (variables : Variables) (locals : Locals) (newer : List (List ℕ)) (lists : Lists)
    (answers : Answers) (keep : Bool) (asked : List Asked) (tree : Tree)
    → looks_for_newer (names variables locals lists answers keep asked tree) ≡ false
    → of_tree variables (with_newer newer locals) lists answers keep asked tree
    ≡ of_tree variables locals lists answers keep asked tree
