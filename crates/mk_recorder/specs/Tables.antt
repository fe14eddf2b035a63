-- What is known of paths, in the order of their first touch.
use Rattle.std.specs.Prelude.{ℕ, Bool, true, false, not, ◌&&◌, ◌==◌, ◌-◌, nat_eq, List, [], ◌∷◌}
use Rattle.std.specs.Prelude.{map}
use Rattle.std.specs.Prelude.{filter, codes, length, drop, take, if◌then◌else◌}
use Rattle.std.specs.List.{starts_with, suffix_len}
use Rattle.std.specs.Str.{bytes_eq}
use Rattle.std.specs.Global.{Vec}
use Rattle.mk_recorder.specs.Known.{not_known, after, stands}
use Rattle.mk_recorder.specs.declared.known.Touch.{Touch}
use Rattle.mk_recorder.specs.declared.known.Touch.TheVariants as touch
use Rattle.mk_recorder.specs.declared.known.Known.{Known}
use Rattle.mk_recorder.specs.declared.table.Touched.{Touched}

abbrev pub Entry : Type 0
Entry = List ℕ × Known

-- what the entries of a map stand for
abbrev pub entries_of : List (Vec ℕ × Known) → List Entry
entries_of entries = map (λ entry. (entry.0.items, entry.1)) entries

-- what is known of a path
abbrev pub known_in : List Entry → List ℕ → Known
known_in [] path = not_known
known_in (entry ∷ table) path =
    if bytes_eq path entry.0 then entry.1 else known_in table path

-- a table behind one more touch: a new path stands at the end
abbrev pub noted : List Entry → List ℕ → Touch → List Entry
noted [] path touch = (path, after not_known touch) ∷ []
noted (entry ∷ table) path touch =
    if bytes_eq path entry.0 then (entry.0, after entry.1 touch) ∷ table
    else entry ∷ noted table path touch

abbrev pub is_in_name : ℕ → Bool
is_in_name byte = not (byte == 47)

-- the directory of a path: what stands before its last slash
abbrev pub folder_of : List ℕ → List ℕ
folder_of path = take (length path - suffix_len is_in_name path - 1) path

abbrev pub may_make : Touch → Bool
may_make touch.Update = true
may_make touch.Overwrite = true
may_make touch.ReadOrMake = true
may_make other = false

-- In a directory that the command made nothing stood before: what is opened there to be written is
-- made.
abbrev pub touch_in : List Entry → List ℕ → Touch → Touch
touch_in table path what =
    if may_make what && (known_in table (folder_of path)).fresh then touch.Make else what

abbrev pub all_noted : List Entry → List Touched → List Entry
all_noted table [] = table
all_noted table (one ∷ more) =
    all_noted (noted table one.path (touch_in table one.path one.touch)) more

abbrev pub is_below : List ℕ → List ℕ → Bool
is_below directory path =
    starts_with nat_eq path directory
    && starts_with nat_eq (drop (length directory) path) (codes "/")

-- the paths below a directory at which something is, as far as it is known
abbrev pub paths_below : List ℕ → List Entry → List (List ℕ)
paths_below directory table =
    map (λ entry. entry.0) (filter (λ entry. is_below directory entry.0 && stands entry.1) table)
