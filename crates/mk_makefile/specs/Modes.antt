-- How a build goes, as the variables ask for it behind the last line.
use Rattle.std.specs.Prelude.{ℕ, false, List, codes}
use Rattle.mk_blocks.specs.Outcomes.{◌>>=◌}
use Rattle.mk_bytes.specs.declared.pair.Pair.{Pair}
use Rattle.mk_directive.specs.Words.{words_of}
use Rattle.mk_graph.specs.declared.Made.{Made}
use Rattle.mk_graph.specs.declared.mode.Mode.{Mode}
use Rattle.mk_rules.specs.Ends.{finished}
use Rattle.mk_rules.specs.Modes.{mode_by}
use Rattle.mk_rules.specs.declared.end.Finished.{Finished}
use Rattle.mk_makefile.specs.Moments.{Doing, Moment, given}
use Rattle.mk_makefile.specs.Questions.{Answers}
use Rattle.mk_makefile.specs.Values.{value, values}
use Rattle.mk_makefile.specs.declared.state.Draft.{Draft}

-- the words of a variable's value
abbrev pub words_in : Answers → List ℕ → Moment → Doing (List (List ℕ))
words_in answers text s = value answers false text s >>= λ shown. given (words_of shown.0) shown.1

abbrev pub mode_at : List (List ℕ) → List (List ℕ) → List Pair → Moment → Doing Mode
mode_at words ignored exports s =
    given (mode_by words ignored exports s.made.rules.one_job s.made.rules.delete_on_error) s

abbrev pub mode_exporting : Answers → List (List ℕ) → List (List ℕ) → Moment → Doing Mode
mode_exporting answers words ignored s =
    values answers s >>= λ exports. mode_at words ignored exports.0 exports.1

abbrev pub mode_with : Answers → List (List ℕ) → Moment → Doing Mode
mode_with answers words s =
    words_in answers (codes "${.MAKE.META.IGNORE_PATHS}") s
    >>= λ ignored. mode_exporting answers words ignored.0 ignored.1

-- How a build goes: first the words of `.MAKE.MODE`, then those of `.MAKE.META.IGNORE_PATHS`, and
-- then the values of the exported variables.
abbrev pub mode_read : Answers → Moment → Doing Mode
mode_read answers s =
    words_in answers (codes "${.MAKE.MODE}") s >>= λ words. mode_with answers words.0 words.1

abbrev pub made_of : Draft → Mode → Finished → Made
made_of draft mode finished = record {
  scopes = draft.scopes;
  graph = finished.graph;
  suffixes = finished.suffixes;
  paths = finished.paths;
  main = finished.main;
  mode = mode;
}

abbrev pub made_by : Draft → Mode → Made
made_by draft mode = made_of draft mode (finished draft.rules)

-- What makefiles leave.
abbrev pub made_at : Mode → Moment → Made
made_at mode s = made_by s.made mode
