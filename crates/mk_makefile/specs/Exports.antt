-- Which variables are exported (make(1), the directives `.export` and `.unexport`).
use Rattle.std.specs.Prelude.{ℕ, Bool, false, List, [], ◌∷◌, if◌then◌else◌}
use Rattle.std.specs.List.{list_all}
use Rattle.mk_blocks.specs.Outcomes.{refused, ◌>>=◌}
use Rattle.mk_directive.specs.Words.{words_of}
use Rattle.mk_export.specs.Names.{added, removed}
use Rattle.mk_meta.specs.Lawful.{is_export_name}
use Rattle.mk_makefile.specs.Moments.{Doing, Moment, stands}
use Rattle.mk_makefile.specs.Questions.{Answers}
use Rattle.mk_makefile.specs.Values.{value}
use Rattle.mk_makefile.specs.declared.fault.What.TheVariants.{ExportForm}

-- names of letters, digits and `_` with no digit first, at least one
abbrev pub are_export_names : List (List ℕ) → Bool
are_export_names [] = false
are_export_names (name ∷ names) = list_all is_export_name (name ∷ names)

abbrev pub all_added : List (List ℕ) → List (List ℕ) → List (List ℕ)
all_added exports [] = exports
all_added exports (name ∷ names) = all_added (added exports name) names

abbrev pub all_removed : List (List ℕ) → List (List ℕ) → List (List ℕ)
all_removed exports [] = exports
all_removed exports (name ∷ names) = all_removed (removed exports name) names

abbrev pub with_exports : Moment → List (List ℕ) → Moment
with_exports s exports = record s { made = record s.made { exports = exports } }

abbrev pub exported_at : List (List ℕ) → Moment → Doing (Unit {0})
exported_at names s =
    if are_export_names names then stands (with_exports s (all_added s.made.exports names))
    else refused ExportForm

abbrev pub unexported_at : List (List ℕ) → Moment → Doing (Unit {0})
unexported_at names s =
    if are_export_names names then stands (with_exports s (all_removed s.made.exports names))
    else refused ExportForm

-- From this line on the variables are exported that the words of what the text gives name.
abbrev pub exported_by : Answers → List ℕ → Moment → Doing (Unit {0})
exported_by answers text s =
    value answers false text s >>= λ shown. exported_at (words_of shown.0) shown.1

-- Or they are no longer.
abbrev pub unexported_by : Answers → List ℕ → Moment → Doing (Unit {0})
unexported_by answers text s =
    value answers false text s >>= λ shown. unexported_at (words_of shown.0) shown.1
