-- Words in the order of their bytes: `:O` of make(1).
use Rattle.std.specs.Prelude.{ℕ, Bool, List, [], ◌∷◌, if◌then◌else◌}
use Rattle.std.specs.Cmp.Lexicographic.{slice_cmp}
use Rattle.std.specs.Ordering.{is_lt, nat_cmp}

-- whether a word stands before another
abbrev pub is_before : List ℕ → List ℕ → Bool
is_before word other = is_lt (slice_cmp nat_cmp word other)

-- a word put in its place among words in order
abbrev pub put_in : List ℕ → List (List ℕ) → List (List ℕ)
put_in word [] = word ∷ []
put_in word (first ∷ words) =
    if is_before first word then first ∷ put_in word words else word ∷ first ∷ words

abbrev pub sorted : List (List ℕ) → List (List ℕ)
sorted [] = []
sorted (word ∷ words) = put_in word (sorted words)
