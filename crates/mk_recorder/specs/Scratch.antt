-- What is no record of a command: the files of makes for their children.
use Rattle.std.specs.Prelude.{ℕ, Bool, ◌||◌, ◌&&◌, ◌==◌, nat_eq, List, codes, length, drop}
use Rattle.std.specs.Prelude.{Option, Some, None}
use Rattle.std.specs.List.{starts_with, list_all, list_any}
use Rattle.std.specs.Str.{bytes_eq}
use Rattle.mk_bytes.specs.Bytes.{is_digit}
use Rattle.mk_filemon.specs.Escapes.{cut_at}
use Rattle.mk_recorder.specs.declared.record.Record.{Record}

abbrev pub is_in_number : ℕ → Bool
is_in_number byte = is_digit byte || byte == 46

abbrev pub name_by : List ℕ → Option (List ℕ × List ℕ) → List ℕ
name_by path None = path
name_by path (Some parts) = parts.0

abbrev pub first_name : List ℕ → List ℕ
first_name path = name_by path (cut_at 47 path)

-- the first name of a path is digits and dots
abbrev pub begins_with_number : List ℕ → Bool
begins_with_number path = list_all is_in_number (first_name path)

-- A path is a make's own directory for its children, or lies in it: below the directory for
-- temporary files it is `bmake.` and a number.
abbrev pub is_of_make : List ℕ → List ℕ → Bool
is_of_make temporary path = starts_with nat_eq path temporary
    && (starts_with nat_eq (drop (length temporary) path) (codes "/bmake.")
    && begins_with_number (drop 7 (drop (length temporary) path)))

-- a command has run a make, which has such a directory
abbrev pub runs_make : List ℕ → List Record → Bool
runs_make temporary records =
    list_any (λ one. one.is_folder && is_of_make temporary one.path) records

-- What begins with a path of the make that runs the command is left out, what is of other makes,
-- and where the command has run a make the listing of the directory for temporary files, in which a
-- make looks for what others have left there.
abbrev pub is_left_out : List ℕ → List ℕ → Bool → Record → Bool
is_left_out own temporary has_make one = starts_with nat_eq one.path own
    || (is_of_make temporary one.path
    || (has_make && (one.is_folder && bytes_eq one.path temporary)))
