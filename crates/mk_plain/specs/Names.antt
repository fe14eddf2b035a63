-- When a name is made in the same way by two maps of files, as by those that stand and by those
-- where made files are away.
use Rattle.std.specs.Prelude.{◌≡◌, ◌⊎◌, ℕ, Bool, true, List, [], ◌∷◌, ◌++◌, map, Option, Some, None}
use Rattle.std.specs.Prelude.{Ok, is_some}
use Rattle.std.specs.List.{AllByRecursion}
use Rattle.mk_clean.specs.Clean.{IsAmong}
use Rattle.mk_closure.specs.Means.{chain_for, has_commands, is_phony}
use Rattle.mk_closure.specs.Names.{name_in}
use Rattle.mk_closure.specs.Parts.{State}
use Rattle.mk_closure.specs.Walks.{closed}
use Rattle.mk_dirs.specs.Places.{below}
use Rattle.mk_graph.specs.declared.Made.{Made}
use Rattle.mk_graph.specs.declared.attr.Attr.TheVariants.{Target}
use Rattle.mk_plan.specs.Plans.{planned, seeking_of, wanted}
use Rattle.mk_plan.specs.declared.plan.PlanNode.{PlanNode}
use Rattle.mk_suffix.specs.Chains.{chains_to, first_of}
use Rattle.mk_suffix.specs.Found.{is_marked}
use Rattle.mk_suffix.specs.Names.{suffix_of, without_end}
use Rattle.mk_world.specs.Deeds.{Store}

-- the paths at which a file of this name is sought: itself, and below the directories that are
-- searched
abbrev pub sought : Made → List ℕ → List (List ℕ)
sought made name = name ∷ map (λ dir. below made.scopes.cwd dir name) made.paths

-- A name has the same place: it is a target of the makefiles, or the same stands wherever it is
-- sought.
abbrev pub IsPlacedAlike : Store → Store → Made → List ℕ → Type 0
IsPlacedAlike files other made name =
    (is_marked made.graph name Target ≡ true)
    ⊎ AllByRecursion (λ path. other path ≡ files path) (sought made name)

-- And so has each name from which suffix rules may lead to it, whichever of them is taken.
abbrev pub AreSourcesAlike : Store → Store → Made → List ℕ → Option (List ℕ) → Type 0
AreSourcesAlike files other made name None = Unit {0}
AreSourcesAlike files other made name (Some own) =
    AllByRecursion (λ chain. IsPlacedAlike files other made (without_end name own ++ first_of chain))
    (chains_to made.graph made.suffixes own)

-- A node is made in the same way. It has commands of its own. Or the names from which suffix rules
-- may lead to it, which are not sought for a phony one, have the same places; and it has, too,
-- where no rule makes it.
abbrev pub IsMadeAlike : Store → Store → Made → List ℕ → ℕ → Type 0
IsMadeAlike files other made name n =
    (has_commands made.graph n ≡ true)
    ⊎ (((is_phony made.graph n ≡ true) ⊎ AreSourcesAlike files other made name (suffix_of made.suffixes name))
    × (IsPlacedAlike files other made name
    ⊎ (is_some (chain_for files made.graph (seeking_of made) name n) ≡ true)))

-- All nodes are that a plan of these names comes to. The empty name is that of none.
abbrev pub AreMadeAlike : Store → Store → Made → List (List ℕ) → Type 0
AreMadeAlike files other made names =
    (s : State) → closed files made.graph (seeking_of made) names ≡ Ok s → (n : ℕ) (name : List ℕ)
    → IsAmong name (name_in s n ∷ [] ∷ []) → IsMadeAlike files other made name n

-- Then the plan is the same.
abbrev pub PlansAreAlikeByNames : Type 0
PlansAreAlikeByNames =
    (files other : Store) (made : Made) (requested : List (List ℕ)) (query : Bool) (nodes : List PlanNode)
    → AreMadeAlike files other made (wanted requested made.main)
    → planned files made requested query ≡ Ok nodes → planned other made requested query ≡ Ok nodes
