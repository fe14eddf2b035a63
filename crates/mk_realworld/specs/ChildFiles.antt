-- The paths of the logs of children, which lie in one directory.
use Rattle.std.specs.Prelude.{ℕ, List, [], ◌∷◌, ◌++◌, decimal, if◌then◌else◌, codes}
use Rattle.std.specs.Str.{bytes_eq}
use Rattle.mk_bytes.specs.Bytes.{slash}

-- the path of a name in a directory
abbrev pub in_directory : List ℕ → List ℕ → List ℕ
in_directory directory name =
    if bytes_eq directory (slash ∷ []) then slash ∷ name else directory ++ slash ∷ name

-- The log of a child stands in the file of its ticket.
abbrev pub log_file : List ℕ → ℕ → List ℕ
log_file directory ticket = in_directory directory (codes "fm." ++ decimal ticket)
