-- The compilations among commands, as a JSON compilation database of Clang.
use Rattle.std.specs.Prelude.{ℕ, Bool, not, ◌==◌, ◌&&◌, ◌||◌, ◌-◌, nat_eq, List, [], ◌∷◌}
use Rattle.std.specs.Prelude.{◌++◌}
use Rattle.std.specs.Prelude.{codes, map, flat_map, length, drop, if◌then◌else◌}
use Rattle.std.specs.List.{starts_with, ends_with, suffix_len}
use Rattle.std.specs.Str.{bytes_eq}
use Rattle.mk_bytes.specs.Bytes.{slash}
use Rattle.mk_bytes.specs.Words.{words_of}
use Rattle.mk_meta.specs.declared.meta.Meta.{Meta}
use Rattle.mk_listing.specs.Texts.{json_string, array}

abbrev pub is_in_name : ℕ → Bool
is_in_name byte = not (byte == slash)

-- what stands behind the last slash of a path
abbrev pub last_name : List ℕ → List ℕ
last_name path = drop (length path - suffix_len is_in_name path) path

-- the names of compilers
abbrev pub is_compiler : List ℕ → Bool
is_compiler name =
    bytes_eq name (codes "cc") || (bytes_eq name (codes "c++") || (bytes_eq name (codes "c99")
    || (bytes_eq name (codes "gcc") || (bytes_eq name (codes "g++")
    || (bytes_eq name (codes "clang") || bytes_eq name (codes "clang++"))))))

-- whether a word ends as the name of a source file does
abbrev pub ends_as_source : List ℕ → Bool
ends_as_source word =
    ends_with nat_eq word (codes ".c") || (ends_with nat_eq word (codes ".cc")
    || (ends_with nat_eq word (codes ".cpp") || (ends_with nat_eq word (codes ".cxx")
    || (ends_with nat_eq word (codes ".C") || (ends_with nat_eq word (codes ".m")
    || (ends_with nat_eq word (codes ".s") || ends_with nat_eq word (codes ".S")))))))

-- A word behind another one names a source file where it ends so, is no option, and does not stand
-- behind `-o`, which names what is made.
abbrev pub is_source : List ℕ → List ℕ → Bool
is_source before word =
    ends_as_source word && (not (starts_with nat_eq word (codes "-"))
    && not (bytes_eq before (codes "-o")))

-- the source files that words name, behind another word
abbrev pub sources : List ℕ → List (List ℕ) → List (List ℕ)
sources before [] = []
sources before (word ∷ words) =
    if is_source before word then word ∷ sources word words else sources word words

-- the source files of a command; none where its first word is no compiler, nor a path of one
abbrev pub compiled : List (List ℕ) → List (List ℕ)
compiled [] = []
compiled (first ∷ words) = if is_compiler (last_name first) then sources first words else []

-- an object of the database, for a command and a source file
abbrev pub object : Meta → List ℕ → List ℕ → List ℕ
object meta command file =
    codes "{\"directory\":" ++ json_string meta.cwd
    ++ codes ",\"command\":" ++ json_string command
    ++ codes ",\"file\":" ++ json_string file
    ++ codes ",\"output\":" ++ json_string meta.target ++ codes "}"

-- what a command line has in the database: an object for each source file that it compiles
abbrev pub objects_on : Meta → List ℕ → List (List ℕ)
objects_on meta command = map (object meta command) (compiled (words_of command))

abbrev pub objects_of : Meta → List (List ℕ)
objects_of meta = flat_map (λ line. objects_on meta line.text) meta.lines

-- The database.
abbrev pub database : List Meta → List ℕ
database metas = array (flat_map objects_of metas)
