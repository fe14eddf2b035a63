-- Reading: from a command line and the answers of the outside to variables and the graph.
use Rattle.std.specs.Prelude.{ℕ, List, [], ◌∷◌, Option, Some, None, codes}
use Rattle.mk_blocks.specs.Meaning.{file_read}
use Rattle.mk_blocks.specs.Outcomes.{done, refused, ◌>>=◌}
use Rattle.mk_blocks.specs.Runs.{Run, run_at}
use Rattle.mk_bytes.specs.Paths.{clean}
use Rattle.mk_cli.specs.declared.order.Order.{Order}
use Rattle.mk_graph.specs.declared.Made.{Made}
use Rattle.mk_graph.specs.declared.mode.Mode.{Mode}
use Rattle.mk_scopes.specs.declared.scopes.Env.{Env}
use Rattle.mk_makefile.specs.Kinds.{line_kind}
use Rattle.mk_makefile.specs.Languages.{meaning}
use Rattle.mk_makefile.specs.Modes.{made_at, mode_read}
use Rattle.mk_makefile.specs.Moments.{Moment}
use Rattle.mk_makefile.specs.Orders.{first_moment, ordered}
use Rattle.mk_makefile.specs.Questions.{Answers}
use Rattle.mk_makefile.specs.ReadFaults.{Reads, file_fault, of_end, of_what, outcome_as}
use Rattle.mk_makefile.specs.Values.{contents}
use Rattle.mk_makefile.specs.declared.fault.ReadFault.TheVariants.{NoFile}

-- the bytes of a file of this name, which is cleaned; or none where it is missing
abbrev pub looked : Answers → List ℕ → Moment → Reads (Option (List ℕ) × Moment)
looked answers file s = outcome_as of_what (contents answers (clean s.made.scopes.cwd file) s)

-- a makefile of this name is read
abbrev pub in_file : List ℕ → Moment → Moment
in_file file s = record s { made = record s.made { file = file } }

-- a file of this name with these bytes, and all that it includes
abbrev pub whole_read : Answers → List ℕ → List ℕ → Run Moment → Reads (Run Moment)
whole_read answers file bytes r =
    outcome_as file_fault (file_read (meaning answers) line_kind file bytes
    (run_at (in_file file r.state) r.count))

-- a file that was found, or a missing one, which has this name
abbrev pub found_read : Answers → List ℕ → List ℕ → ℕ → Option (List ℕ) × Moment
    → Reads (Run Moment)
found_read answers file missing count (None, s) = refused (NoFile missing)
found_read answers file missing count (Some bytes, s) =
    whole_read answers file bytes (run_at s count)

abbrev pub makefile_read : Answers → List ℕ → List ℕ → Run Moment → Reads (Run Moment)
makefile_read answers file missing r =
    looked answers file r.state >>= found_read answers file missing r.count

-- Makefiles one after the other. Faults name a file as the command line has it; the file that is
-- read has the cleaned path.
abbrev pub files_read : Answers → List (List ℕ) → Run Moment → Reads (Run Moment)
files_read answers [] r = done r
files_read answers (file ∷ more) r = makefile_read answers file file r >>= files_read answers more

-- the makefiles that are sought without `-f`
abbrev pub first_name : List ℕ
first_name = codes "makefile"

abbrev pub second_name : List ℕ
second_name = codes "Makefile"

abbrev pub first_or_second : Answers → ℕ → Option (List ℕ) × Moment → Reads (Run Moment)
first_or_second answers count (None, s) =
    makefile_read answers second_name first_name (run_at s count)
first_or_second answers count (Some bytes, s) =
    whole_read answers first_name bytes (run_at s count)

-- the first default name that exists
abbrev pub default_read : Answers → Run Moment → Reads (Run Moment)
default_read answers r = looked answers first_name r.state >>= first_or_second answers r.count

-- the makefiles that the command line names, or else the default one
abbrev pub makefiles_read : Answers → List (List ℕ) → Run Moment → Reads (Run Moment)
makefiles_read answers [] r = default_read answers r
makefiles_read answers (file ∷ more) r = files_read answers (file ∷ more) r

-- the words of a command line
abbrev pub words_applied : Answers → Moment → Reads (Unit {0} × Moment)
words_applied answers s = outcome_as of_what (ordered answers s)

-- and then the makefiles
abbrev pub all_read : Answers → Run Moment → Reads (Run Moment)
all_read answers r =
    words_applied answers r.state
    >>= λ first. makefiles_read answers first.1.order.files (run_at first.1 r.count)

-- how a build goes, as is asked for behind the last line of the last makefile
abbrev pub mode_ended : Answers → Moment → Reads (Mode × Moment)
mode_ended answers s = outcome_as (of_end s.made.file) (mode_read answers s)

abbrev pub run_read : Answers → Run Moment → Reads (Mode × Moment)
run_read answers r = all_read answers r >>= λ last. mode_ended answers last.state

-- What the words of the command line and the makefiles of a run leave, or the first fault, and what
-- is done outside until then.
abbrev pub reading : Answers → Env → Order → Reads Made
reading answers env order =
    run_read answers (run_at (first_moment env order) 0) >>= λ end. done (made_at end.0 end.1)
