-- Names with wildcards, and their parts.
use Rattle.std.specs.Prelude.{ℕ, ◌-◌, Bool, true, false, not, ◌==◌, ◌||◌, ◌&&◌, List, [], ◌∷◌}
use Rattle.std.specs.Prelude.{length, take, drop, if◌then◌else◌}
use Rattle.std.specs.List.{list_any, suffix_len}
use Rattle.std.specs.Str.{bytes_eq}
use Rattle.mk_bytes.specs.Bytes.{dot, question_mark, slash, square_open, star}
use Rattle.mk_glob.specs.Patterns.{matches}

abbrev pub is_in_name : ℕ → Bool
is_in_name byte = not (byte == slash)

-- what stands behind the last slash of a path
abbrev pub last_name : List ℕ → List ℕ
last_name path = drop (length path - suffix_len is_in_name path) path

-- and what stands before that, with the slash
abbrev pub before_name : List ℕ → List ℕ
before_name path = take (length path - suffix_len is_in_name path) path

abbrev pub is_wildcard : ℕ → Bool
is_wildcard byte = byte == star || (byte == question_mark || byte == square_open)

-- A name is a pattern where its last component holds a wildcard.
abbrev pub is_pattern : List ℕ → Bool
is_pattern name = list_any is_wildcard (last_name name)

abbrev pub directory_at : List ℕ → List ℕ
directory_at before =
    if bytes_eq before [] then dot ∷ []
    else (if bytes_eq before (slash ∷ []) then before else take (length before - 1) before)

-- the directory that a path lies in, which is `.` where the path has no slash
abbrev pub directory_of : List ℕ → List ℕ
directory_of path = directory_at (before_name path)

abbrev pub is_hidden : List ℕ → Bool
is_hidden [] = false
is_hidden (byte ∷ name) = byte == dot

-- whether a pattern takes a name: one that begins with `.` is taken by a pattern alone that does
abbrev pub takes : List ℕ → List ℕ → Bool
takes pattern name = (is_hidden pattern || not (is_hidden name)) && matches pattern name
