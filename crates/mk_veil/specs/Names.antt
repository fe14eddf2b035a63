-- The names that a directory holds, without those of hidden paths.
use Rattle.std.specs.Prelude.{ℕ, Bool, not, List, [], ◌∷◌, ◌++◌, filter, if◌then◌else◌}
use Rattle.std.specs.Str.{bytes_eq}
use Rattle.mk_bytes.specs.Bytes.{dot, slash}
use Rattle.mk_bytes.specs.Texts.{is_among}

-- the path of a name in a directory
abbrev pub joined : List ℕ → List ℕ → List ℕ
joined dir name =
    if bytes_eq dir (dot ∷ []) then name
    else (if bytes_eq dir (slash ∷ []) then slash ∷ name else dir ++ slash ∷ name)

abbrev pub is_hidden : List (List ℕ) → List ℕ → List ℕ → Bool
is_hidden hidden dir name = is_among hidden (joined dir name)

abbrev pub bare_names : List (List ℕ) → List ℕ → List (List ℕ) → List (List ℕ)
bare_names hidden dir names = filter (λ name. not (is_hidden hidden dir name)) names
