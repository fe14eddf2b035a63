-- Wildcards in the names of dependency lines (make(1), "FILE DEPENDENCY SPECIFICATIONS").
--
-- A name whose last component holds `*`, `?` or `[` is a pattern. It stands for the files of its
-- directory that match, in the order of their bytes, and for nothing where none does; every other
-- name stands for itself. The targets come first and then the sources, in their order, and for each
-- pattern its directory is listed once, at that moment. Where no target is left the line is
-- refused, before its sources are looked at. A rule from one suffix to another stands as it is.
use Rattle.std.specs.Prelude.{ℕ, ◌+◌, List, [], ◌∷◌, ◌++◌, Option, Some, None, if◌then◌else◌}
use Rattle.mk_blocks.specs.Acts.{listed}
use Rattle.mk_blocks.specs.Outcomes.{refused, ◌>>=◌}
use Rattle.mk_depline.specs.declared.line.DepLine.{DepLine}
use Rattle.mk_wild.specs.Names.{directory_of, is_pattern}
use Rattle.mk_wild.specs.Wild.{taken}
use Rattle.mk_makefile.specs.Moments.{Doing, Moment, given}
use Rattle.mk_makefile.specs.Questions.{Answers}
use Rattle.mk_makefile.specs.Values.{asking}
use Rattle.mk_makefile.specs.declared.fault.What.TheVariants.{NoTargets}

-- the names in a directory, or none where there is no such directory
abbrev pub names_in : Answers → List ℕ → Moment → Doing (Option (List (List ℕ)))
names_in answers dir s =
    asking (listed dir) (answers.listings s.listed dir) (record s { listed = s.listed + 1 })

-- with the paths that a pattern stands for
abbrev pub with_matches : Answers → List (List ℕ) → List ℕ → Moment → Doing (List (List ℕ))
with_matches answers paths pattern s =
    names_in answers (directory_of pattern) s
    >>= λ names. given (paths ++ taken pattern names.0) names.1

-- with the paths that a name stands for
abbrev pub with_paths : Answers → List (List ℕ) → List ℕ → Moment → Doing (List (List ℕ))
with_paths answers paths name s =
    if is_pattern name then with_matches answers paths name s else given (paths ++ name ∷ []) s

-- with the paths that names stand for, in their order
abbrev pub all_paths : Answers → List (List ℕ) → List (List ℕ) → Moment → Doing (List (List ℕ))
all_paths answers paths [] s = given paths s
all_paths answers paths (name ∷ names) s =
    with_paths answers paths name s >>= λ next. all_paths answers next.0 names next.1

-- a line with these targets
abbrev pub with_targets : DepLine → List (List ℕ) → Moment → Doing DepLine
with_targets line [] s = refused NoTargets
with_targets line (target ∷ more) s = given (record line { targets = target ∷ more }) s

abbrev pub targets_listed : Answers → DepLine → Moment → Doing DepLine
targets_listed answers line s =
    all_paths answers [] line.targets s >>= λ found. with_targets line found.0 found.1

abbrev pub sources_listed : Answers → DepLine → Moment → Doing DepLine
sources_listed answers line s =
    all_paths answers [] line.sources s
    >>= λ found. given (record line { sources = found.0 }) found.1

abbrev pub names_listed : Answers → DepLine → Moment → Doing DepLine
names_listed answers line s =
    targets_listed answers line s >>= λ next. sources_listed answers next.0 next.1

abbrev pub by_rule : Answers → Option (List ℕ × List ℕ) → DepLine → Moment → Doing DepLine
by_rule answers None line s = names_listed answers line s
by_rule answers (Some rule) line s = given line s

-- A line with the files that its names stand for.
abbrev pub line_listed : Answers → DepLine → Moment → Doing DepLine
line_listed answers line s = by_rule answers line.rule line s
