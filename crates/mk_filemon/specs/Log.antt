-- The log of a recorder (filemon(4)): lines of a letter, a process and what it did.
use Rattle.std.specs.Prelude.{ℕ, Bool, not, ◌==◌, ◌&&◌, ◌||◌, nat_eq, List, [], ◌∷◌, ◌++◌}
use Rattle.std.specs.Prelude.{◌+◌, ◌-◌, nat_le, take, drop, length, unwrap_or, codes, slice_index}
use Rattle.std.specs.Prelude.{Option, Some, None, option_and_then, option_to_list, if◌then◌else◌}
use Rattle.std.specs.List.{slice_split, starts_with, list_all}
use Rattle.std.specs.Option.{option_map}
use Rattle.std.specs.Str.{bytes_eq}
use Rattle.mk_bytes.specs.Bytes.{space, slash, is_digit}
use Rattle.mk_bytes.specs.Paths.{clean, is_absolute}
use Rattle.mk_world.specs.declared.step.Op.{Op}
use Rattle.mk_world.specs.declared.step.Op.TheVariants as op
use Rattle.mk_filemon.specs.declared.line.Kind.{Kind}
use Rattle.mk_filemon.specs.declared.line.Kind.TheVariants.{Reads, Misses, Writes, Deletes, Moves}
use Rattle.mk_filemon.specs.declared.line.Kind.TheVariants.{Links, Enters, Forks}
use Rattle.mk_filemon.specs.Escapes.{Part, quote, with_byte, cut_at}
use Rattle.mk_filemon.specs.Parts.{is_newline, is_whole}

abbrev pub kind_of : ℕ → Option Kind
kind_of letter =
    if letter == 82 || letter == 69 then Some Reads
    else (if letter == 87 then Some Writes
    else (if letter == 68 then Some Deletes
    else (if letter == 77 then Some Moves
    else (if letter == 76 then Some Links
    else (if letter == 67 then Some Enters
    else (if letter == 70 then Some Forks
    else None))))))

abbrev pub with_letter : List ℕ → Option (Kind × List ℕ)
with_letter [] = None
with_letter (letter ∷ []) = None
with_letter (letter ∷ byte ∷ text) =
    if byte == space then option_map (λ kind. (kind, text)) (kind_of letter) else None

-- What a line begins with, and what follows it. A miss is this project's own: its line begins as
-- a comment does.
abbrev pub kind_at : List ℕ → Option (Kind × List ℕ)
kind_at line =
    if starts_with nat_eq line (codes "# N ") then Some (Misses, drop 4 line) else with_letter line

abbrev pub is_number : List ℕ → Bool
is_number text = not (bytes_eq text []) && list_all is_digit text

-- a number by its digits without leading zeros, by which numbers are the same or differ
abbrev pub number_of : List ℕ → List ℕ
number_of [] = []
number_of (digit ∷ digits) = if digit == 48 then number_of digits else digit ∷ digits

-- what a line does, the number of its process, and its text
abbrev pub Line : Type 0
Line = Kind × List ℕ × List ℕ

abbrev pub with_process : Kind → List ℕ × List ℕ → Option Line
with_process kind (process, text) =
    if is_number process then Some (kind, number_of process, text) else None

abbrev pub line_of : List ℕ → Option Line
line_of line =
    option_and_then (λ found. option_and_then (with_process found.0) (cut_at space found.1))
    (kind_at line)

abbrev pub is_gap : List ℕ → Bool
is_gap text = starts_with nat_eq text (codes "' '")

-- what stands before the first quote, space and quote, and what stands behind them
unfoldable pub cut_at_gap : List ℕ → Part
cut_at_gap [] = None
cut_at_gap (byte ∷ text) =
    if is_gap (byte ∷ text) then Some ([], drop 2 text) else with_byte byte (cut_at_gap text)

-- a text without the quote that ends it
abbrev pub closed : List ℕ → Option (List ℕ)
closed text =
    if slice_index text (length text - 1) == quote then Some (take (length text - 1) text) else None

abbrev pub closing : List ℕ × List ℕ → Part
closing (first, rest) = option_map (λ second. (first, second)) (closed rest)

-- Two paths in quotes: the first ends at the first quote, space and quote, the second at the last
-- byte.
abbrev pub pair_in : List ℕ → Part
pair_in [] = None
pair_in (byte ∷ text) =
    if byte == quote then option_and_then closing (cut_at_gap text) else None

-- the directories of the processes that have one of their own
abbrev pub Directories : Type 0
Directories = List ℕ → Option (List ℕ)

abbrev pub no_directories : Directories
no_directories = λ process. None

-- a process that was not seen has the given directory
abbrev pub directory_of : List ℕ → Directories → List ℕ → List ℕ
directory_of cwd dirs process = unwrap_or (dirs process) cwd

abbrev pub with_directory : Directories → List ℕ → List ℕ → Directories
with_directory dirs process dir =
    λ other. if bytes_eq process other then Some dir else dirs other

abbrev pub against : List ℕ → List ℕ → List ℕ
against dir path = if is_absolute path then path else dir ++ slash ∷ path

-- a directory against another one, absolute and clean
abbrev pub directory_from : List ℕ → List ℕ → List ℕ
directory_from dir path = slash ∷ clean (slash ∷ []) (against dir path)

-- a path of a process, as it is named from the given directory
abbrev pub path_from : List ℕ → List ℕ → List ℕ → List ℕ
path_from cwd dir path = clean cwd (against dir path)

abbrev pub op_of : Kind → List ℕ → Option Op
op_of Reads path = Some (op.Read path)
op_of Misses path = Some (op.Miss path)
op_of Writes path = Some (op.Write path)
op_of Deletes path = Some (op.Delete path)
op_of Moves path = None
op_of Links path = None
op_of Enters path = None
op_of Forks path = None

-- the record of a line with one path, which may not be empty
abbrev pub one : Kind → List ℕ → List ℕ → List ℕ → List Op
one kind cwd dir path =
    if bytes_eq path [] then [] else option_to_list (op_of kind (path_from cwd dir path))

abbrev pub move_by : List ℕ → List ℕ → Option (List ℕ × List ℕ) → List Op
move_by cwd dir None = []
move_by cwd dir (Some pair) =
    op.Move (path_from cwd dir pair.0) (path_from cwd dir pair.1) ∷ []

abbrev pub link_by : List ℕ → List ℕ → Option (List ℕ × List ℕ) → List Op
link_by cwd dir None = []
link_by cwd dir (Some pair) =
    op.Read (path_from cwd dir pair.0) ∷ op.Write (path_from cwd dir pair.1) ∷ []

abbrev pub ops_by : Kind → List ℕ → List ℕ → List ℕ → List Op
ops_by Reads cwd dir text = one Reads cwd dir text
ops_by Misses cwd dir text = one Misses cwd dir text
ops_by Writes cwd dir text = one Writes cwd dir text
ops_by Deletes cwd dir text = one Deletes cwd dir text
ops_by Moves cwd dir text = move_by cwd dir (pair_in text)
ops_by Links cwd dir text = link_by cwd dir (pair_in text)
ops_by Enters cwd dir text = []
ops_by Forks cwd dir text = []

abbrev pub entered : List ℕ → Directories → List ℕ → List ℕ → Directories
entered cwd dirs process path =
    if bytes_eq path [] then dirs
    else with_directory dirs process (directory_from (directory_of cwd dirs process) path)

abbrev pub forked : List ℕ → Directories → List ℕ → List ℕ → Directories
forked cwd dirs process child =
    if is_number child then with_directory dirs (number_of child) (directory_of cwd dirs process)
    else dirs

abbrev pub directories_by : Kind → List ℕ → Directories → List ℕ → List ℕ → Directories
directories_by Reads cwd dirs process text = dirs
directories_by Misses cwd dirs process text = dirs
directories_by Writes cwd dirs process text = dirs
directories_by Deletes cwd dirs process text = dirs
directories_by Moves cwd dirs process text = dirs
directories_by Links cwd dirs process text = dirs
directories_by Enters cwd dirs process text = entered cwd dirs process text
directories_by Forks cwd dirs process text = forked cwd dirs process text

-- what a line records; one that does not fit is passed over
abbrev pub ops_on : List ℕ → Directories → Option Line → List Op
ops_on cwd dirs None = []
ops_on cwd dirs (Some (kind, process, text)) =
    ops_by kind cwd (directory_of cwd dirs process) text

-- the directories behind a line
abbrev pub directories_after : List ℕ → Directories → Option Line → Directories
directories_after cwd dirs None = dirs
directories_after cwd dirs (Some (kind, process, text)) = directories_by kind cwd dirs process text

abbrev pub lines_logged : List ℕ → Directories → List (List ℕ) → List Op
lines_logged cwd dirs [] = []
lines_logged cwd dirs (line ∷ lines) =
    ops_on cwd dirs (line_of line)
    ++ lines_logged cwd (directories_after cwd dirs (line_of line)) lines

abbrev pub all_logged : List ℕ → List ℕ → List Op
all_logged cwd log = lines_logged cwd no_directories (slice_split is_newline log)

-- What a path takes: its bytes, those of its directory where it is relative, and what stands around
-- a path in the records of a meta file.
abbrev pub path_size : List ℕ → List ℕ → ℕ
path_size dir path = length (against dir path) + 16

-- What a line takes, by its text: that of a move or a link holds two paths.
abbrev pub size_by : Kind → List ℕ → List ℕ → ℕ
size_by Reads dir text = path_size dir text
size_by Misses dir text = path_size dir text
size_by Writes dir text = path_size dir text
size_by Deletes dir text = path_size dir text
size_by Moves dir text = path_size dir text + path_size dir text
size_by Links dir text = path_size dir text + path_size dir text
size_by Enters dir text = path_size dir text
size_by Forks dir text = path_size dir text

abbrev pub size_on : List ℕ → Directories → Option Line → ℕ
size_on cwd dirs None = 0
size_on cwd dirs (Some (kind, process, text)) = size_by kind (directory_of cwd dirs process) text

abbrev pub size_of_lines : List ℕ → Directories → List (List ℕ) → ℕ
size_of_lines cwd dirs [] = 0
size_of_lines cwd dirs (line ∷ lines) =
    size_on cwd dirs (line_of line)
    + size_of_lines cwd (directories_after cwd dirs (line_of line)) lines

-- What the lines of a log take.
abbrev pub size_of : List ℕ → List ℕ → ℕ
size_of cwd log = size_of_lines cwd no_directories (slice_split is_newline log)

-- They may take half of what a file may have.
abbrev pub max_size : ℕ
max_size = 33554432

-- the records of a log whose lines do not take too much
abbrev pub records_within : List ℕ → List ℕ → Option (List Op)
records_within cwd log =
    if nat_le (size_of cwd log) max_size then Some (all_logged cwd log) else None

-- The records of a log, which is none where a recorder's part of it is not whole, or where its
-- lines take too much.
abbrev pub logged : List ℕ → List ℕ → Option (List Op)
logged cwd log = if is_whole log then records_within cwd log else None
