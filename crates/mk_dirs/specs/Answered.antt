-- What is so by the answers that make was given when it asked for times.
use Rattle.std.specs.Prelude.{◌≡◌, List, Option, is_none}
use Rattle.std.specs.List.{AllByRecursion}
use Rattle.mk_world.specs.Deeds.{Store}
use Rattle.mk_world.specs.Looks.{Dated, DatesAll, is_missing}
use Rattle.mk_world.specs.Told.{Told}
use Rattle.mk_world.specs.declared.history.History.{History}

-- these files fit what make was answered: what is said to be missing is, and all else is there
abbrev pub FitAnswers : Store → List Dated → Type 0
FitAnswers files looks = AllByRecursion (λ one. is_missing one.when ≡ is_none (files one.path)) looks

-- Make asked for the times of paths, one after the other, while no child ran, and did nothing else.
-- By what it was answered this is so: of all files that fit the answers, in every world, and so of
-- those of a world that tells.
pub record ByLooks (before after : Option History) (Fact : Store → Type 0) : Type 0 where
  pub looks : List Dated
  pub told : Told before after (DatesAll looks)
  pub so : (files : Store) → FitAnswers files looks → Fact files

-- make only asked for times
abbrev pub OnlyDated : Option History → Option History → Type 0
OnlyDated before after = ByLooks before after (λ files. Unit {0})
