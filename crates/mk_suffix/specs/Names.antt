-- The known suffix of a name.
use Rattle.std.specs.Prelude.{ℕ, ◌-◌, ◌==◌, Bool, List, [], ◌∷◌, length, take}
use Rattle.std.specs.Prelude.{Option, Some, None, if◌then◌else◌}
use Rattle.std.specs.List.{list_any}
use Rattle.mk_bytes.specs.Bytes.{slash}
use Rattle.mk_depline.specs.Names.{is_among}

abbrev pub is_slash : ℕ → Bool
is_slash byte = byte == slash

-- what stands behind the last slash of a path
abbrev pub last_component : List ℕ → List ℕ
last_component [] = []
last_component (byte ∷ bytes) =
    if list_any is_slash (byte ∷ bytes) then last_component bytes else byte ∷ bytes

-- the longest known suffix that a text ends with and is longer than
abbrev pub longest_end : List (List ℕ) → List ℕ → Option (List ℕ)
longest_end known [] = None
longest_end known (byte ∷ rest) =
    if is_among known rest then Some rest else longest_end known rest

-- a name's suffix is that of its last component
abbrev pub suffix_of : List (List ℕ) → List ℕ → Option (List ℕ)
suffix_of known name = longest_end known (last_component name)

-- a text without its last bytes, as many as these
abbrev pub without_end : List ℕ → List ℕ → List ℕ
without_end text ending = take (length text - length ending) text

abbrev pub without_suffix : List ℕ → Option (List ℕ) → List ℕ
without_suffix text None = text
without_suffix text (Some suffix) = without_end text suffix

-- the last component of a name without its known suffix
abbrev pub prefix_of : List (List ℕ) → List ℕ → List ℕ
prefix_of known name = without_suffix (last_component name) (suffix_of known name)
