-- The parts of a word as a path: `:H`, `:T`, `:R` and `:E` of make(1).
use Rattle.std.specs.Prelude.{ℕ, zero, suc, ◌+◌, ◌==◌, Bool, List, [], ◌∷◌, take, drop}
use Rattle.std.specs.Prelude.{Option, Some, None, if◌then◌else◌}
use Rattle.mk_bytes.specs.Bytes.{dot, slash}
use Rattle.mk_mods.specs.declared.part.Part.{Part}
use Rattle.mk_mods.specs.declared.part.Part.TheVariants.{Head, Tail, Root, Extension}

abbrev pub found_after : Option ℕ → Option ℕ → Option ℕ
found_after (Some at) here = Some (suc at)
found_after None here = here

-- the place of the last byte that passes a test
abbrev pub last_place : (ℕ → Bool) → List ℕ → Option ℕ
last_place test [] = None
last_place test (byte ∷ bytes) =
    found_after (last_place test bytes) (if test byte then Some zero else None)

abbrev pub is_slash : ℕ → Bool
is_slash byte = byte == slash

abbrev pub is_dot : ℕ → Bool
is_dot byte = byte == dot

-- What stands before the last slash: `/` where that is nothing, and `.` without a slash.
abbrev pub head_at : Option ℕ → List ℕ → List ℕ
head_at None word = dot ∷ []
head_at (Some zero) word = slash ∷ []
head_at (Some (suc at)) word = take (suc at) word

abbrev pub head : List ℕ → List ℕ
head word = head_at (last_place is_slash word) word

-- what follows the last slash, or the word
abbrev pub tail_at : Option ℕ → List ℕ → List ℕ
tail_at None word = word
tail_at (Some at) word = drop (at + 1) word

abbrev pub tail : List ℕ → List ℕ
tail word = tail_at (last_place is_slash word) word

-- what stands before the last dot of the word, or the word
abbrev pub root_at : Option ℕ → List ℕ → List ℕ
root_at None word = word
root_at (Some at) word = take at word

abbrev pub root : List ℕ → List ℕ
root word = root_at (last_place is_dot word) word

-- what follows the last dot of the word, or nothing
abbrev pub extension_at : Option ℕ → List ℕ → List ℕ
extension_at None word = []
extension_at (Some at) word = drop (at + 1) word

abbrev pub extension : List ℕ → List ℕ
extension word = extension_at (last_place is_dot word) word

abbrev pub part_of : Part → List ℕ → List ℕ
part_of Head word = head word
part_of Tail word = tail word
part_of Root word = root word
part_of Extension word = extension word
