-- The variables of one class: each name once, a new one at the end.
use Rattle.std.specs.Prelude.{ℕ, zero, suc, List, [], ◌∷◌, ◌++◌, Option, Some, None, if◌then◌else◌}
use Rattle.std.specs.Str.{bytes_eq}
use Rattle.indexmap.specs.IndexMap.{swap_remove_by}
use Rattle.mk_bytes.specs.Bytes.{space}
use Rattle.mk_bytes.specs.declared.pair.Pair.{Pair}

-- the value of a name
abbrev pub value_in : List Pair → List ℕ → Option (List ℕ)
value_in [] name = None
value_in (pair ∷ pairs) name =
    if bytes_eq name pair.name then Some pair.value else value_in pairs name

-- a name keeps its place when it is assigned again; a new one stands at the end
abbrev pub assigned : List Pair → List ℕ → List ℕ → List Pair
assigned [] name value = record { name = name; value = value } ∷ []
assigned (pair ∷ pairs) name value =
    if bytes_eq name pair.name then record { name = pair.name; value = value } ∷ pairs
    else pair ∷ assigned pairs name value

-- many assignments, one after the other, so that the last of a name counts
abbrev pub all_assigned : List Pair → List Pair → List Pair
all_assigned table [] = table
all_assigned table (pair ∷ pairs) = all_assigned (assigned table pair.name pair.value) pairs

-- the first value, where there is one, and else the second
abbrev pub or_else : Option (List ℕ) → Option (List ℕ) → Option (List ℕ)
or_else None second = second
or_else (Some value) second = Some value

-- a value behind the one that there is, after one space
abbrev pub joined : Option (List ℕ) → List ℕ → List ℕ
joined None value = value
joined (Some before) value = before ++ space ∷ value

-- An append: behind the name's own value, or else behind this first one; where there is neither,
-- the name is set.
abbrev pub appended : List Pair → List ℕ → List ℕ → Option (List ℕ) → List Pair
appended pairs name value first =
    assigned pairs name (joined (or_else (value_in pairs name) first) value)

-- the same for the name at a place, which has a value
abbrev pub appended_at : List Pair → ℕ → List ℕ → List Pair
appended_at [] place value = []
appended_at (pair ∷ pairs) zero value =
    record { name = pair.name; value = joined (Some pair.value) value } ∷ pairs
appended_at (pair ∷ pairs) (suc place) value = pair ∷ appended_at pairs place value

-- Where a name is taken away, the last one takes its place; no call shows the order of names.
abbrev pub without : List Pair → List ℕ → List Pair
without pairs name = swap_remove_by (λ pair. bytes_eq name pair.name) pairs
