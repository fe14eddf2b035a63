-- Files that are included (make(1), "INCLUDE STATEMENTS, CONDITIONALS AND FOR LOOPS").
use Rattle.std.specs.Prelude.{◌≡◌, ◌⊎◌, ◌||◌, is_some, Result, Ok, Err}
use Rattle.std.specs.Prelude.{ℕ, ◌-◌, Bool, true, false, List, [], ◌∷◌, ◌++◌, length, map, take}
use Rattle.std.specs.Prelude.{not, Option}
use Rattle.std.specs.Prelude.{Some, None, if◌then◌else◌}
use Rattle.std.specs.List.{suffix_len}
use Rattle.mk_blocks.specs.Outcomes.{refused, ◌>>=◌}
use Rattle.mk_blocks.specs.declared.language.IncludedFile.{IncludedFile}
use Rattle.mk_bytes.specs.Bytes.{slash}
use Rattle.mk_bytes.specs.Paths.{clean, is_absolute, is_slash}
use Rattle.mk_cli.specs.declared.order.Order.{Order}
use Rattle.mk_directive.specs.Arguments.{Wanted, wanted_by}
use Rattle.mk_directive.specs.Directives.{Directed, directive_on}
use Rattle.mk_directive.specs.declared.directive.Directive.TheVariants.{TryInclude}
use Rattle.mk_makefile.specs.Blocks.{argument_on}
use Rattle.mk_makefile.specs.Dependencies.{cleaned}
use Rattle.mk_makefile.specs.Kinds.{plain_text}
use Rattle.mk_makefile.specs.Moments.{Doing, Moment, closed, given}
use Rattle.mk_makefile.specs.Questions.{Answers}
use Rattle.mk_makefile.specs.Values.{contents, value}
use Rattle.mk_makefile.specs.declared.fault.Refusal.{Refusal}
use Rattle.mk_makefile.specs.declared.fault.Refusal.TheVariants.{NoMemory, Wrong}
use Rattle.mk_makefile.specs.declared.fault.What.TheVariants.{Include, IncludeForm}

abbrev pub is_no_slash : ℕ → Bool
is_no_slash byte = not (is_slash byte)

-- the directory of a path, with its final slash
abbrev pub directory_of : List ℕ → List ℕ
directory_of path = take (length path - suffix_len is_no_slash path) path

-- a name in these directories
abbrev pub in_all : List (List ℕ) → List ℕ → List (List ℕ)
in_all directories name = map (λ directory. directory ++ slash ∷ name) directories

-- Where a file is sought that another one includes: a name in quotes beside that one, in the
-- directories of `-I` and then in those of `-m`; a name in brackets in the last alone; and an
-- absolute name nowhere else.
abbrev pub places : Order → List ℕ → Wanted → List (List ℕ)
places order beside (system, name) =
    if is_absolute name then name ∷ []
    else (if system then in_all order.system name
    else (directory_of beside ++ name)
    ∷ (in_all order.near name ++ in_all order.system name))

-- the paths that are read for it, in order
abbrev pub candidates : Order → List ℕ → List ℕ → Wanted → List (List ℕ)
candidates order cwd file wanted = cleaned cwd (places order (clean cwd file) wanted)

abbrev pub file_at : List ℕ → List ℕ → IncludedFile
file_at path bytes = record { name = path; text = bytes }

-- the file at a path, if there is one
abbrev pub opened : List ℕ → Option (List ℕ) × Moment → Doing (Option IncludedFile)
opened path (None, s) = given None s
opened path (Some bytes, s) = given (Some (file_at path bytes)) s

abbrev pub found_at : Answers → List ℕ → Moment → Doing (Option IncludedFile)
found_at answers path s = contents answers path s >>= opened path

-- the first of these paths at which a file is
abbrev pub or_next : (Moment → Doing (Option IncludedFile)) → Option IncludedFile × Moment
    → Doing (Option IncludedFile)
or_next others (None, s) = others s
or_next others (Some file, s) = given (Some file) s

abbrev pub sought : Answers → List (List ℕ) → Moment → Doing (Option IncludedFile)
sought answers [] s = given None s
sought answers (path ∷ paths) s = found_at answers path s >>= or_next (sought answers paths)

-- a directive that passes over a missing file
abbrev pub passes_over : Option Directed → Bool
passes_over None = false
passes_over (Some (TryInclude, argument)) = true
passes_over (Some found) = false

abbrev pub may_miss : List ℕ → Bool
may_miss line = passes_over (directive_on line)

-- a file that has to be there, or that may be missing
abbrev pub required : Bool → List ℕ → Option IncludedFile × Moment → Doing (Option IncludedFile)
required optional name (Some file, s) = given (Some file) s
required true name (None, s) = given None s
required false name (None, s) = refused (Include name)

abbrev pub wanted_in : Answers → List ℕ → Bool → Option Wanted → Moment
    → Doing (Option IncludedFile)
wanted_in answers file optional None s = refused IncludeForm
wanted_in answers file optional (Some wanted) s =
    sought answers (candidates s.order s.made.scopes.cwd file wanted) s
    >>= required optional wanted.1

abbrev pub wanted_read : Answers → List ℕ → Bool → List ℕ → Moment → Doing (Option IncludedFile)
wanted_read answers file optional text s = wanted_in answers file optional (wanted_by text) s

abbrev pub file_on : Answers → List ℕ → List ℕ → Moment → Doing (Option IncludedFile)
file_on answers file line s =
    value answers false (argument_on line) (closed s)
    >>= λ text. wanted_read answers file (may_miss line) text.0 text.1

-- The file that a line of a file includes, or none where a missing one is passed over. The argument
-- is expanded first, and the group is closed.
abbrev pub included : Answers → List ℕ → List ℕ → Moment → Doing (Option IncludedFile)
included answers file line s = file_on answers file (plain_text line) s

-- The answer to a file that was found or not.
abbrev pub IsRequired : Bool → List ℕ → Option IncludedFile → Result (Option IncludedFile) Refusal
    → Type 0
IsRequired optional name found (Ok file) =
    (file ≡ found) × (is_some found || optional ≡ true)
IsRequired optional name found (Err fault) =
    (fault ≡ NoMemory)
    ⊎ ((found ≡ None) × (optional ≡ false) × (fault ≡ Wrong (Include name)))
