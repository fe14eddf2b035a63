-- Single forms in a text: what a `$` begins.
use Rattle.std.specs.Prelude.{◌≡◌, ℕ, List, drop, slice_range}
use Rattle.mk_ast.specs.Tree.{Part}
use Rattle.mk_ast.specs.Spell.{spell_part}
use Rattle.mk_ast.specs.WellFormed.{FitsPart}
use Rattle.mk_ast.specs.References.{max_open}
use Rattle.mk_ast.specs.declared.place.Place.TheVariants.{Whole}

-- The bytes from one place to before another one spell a form, which is the one that a text begins
-- there.
abbrev pub IsForm : List ℕ → ℕ → ℕ → Type 0
IsForm text at end =
    (form : Part) × (slice_range text at end ≡ spell_part form)
    × FitsPart max_open Whole form (drop end text)
