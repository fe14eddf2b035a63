-- The names of exported variables: each once, in the order of their bytes.
use Rattle.std.specs.Prelude.{ℕ, List, [], ◌∷◌, map, if◌then◌else◌}
use Rattle.std.specs.Cmp.Lexicographic.{slice_cmp}
use Rattle.std.specs.Ordering.{is_eq, match_ordering, nat_cmp}
use Rattle.std.specs.declared.alloc.Global.{Global}
use Rattle.std.specs.declared.vec.Vec.{Vec}
use Rattle.mk_bytes.specs.declared.pair.Pair.{Pair}
use Rattle.mk_export.specs.Lists.{AreExports}

-- a name in its place among names in order; one that is there stays alone
abbrev pub added : List (List ℕ) → List ℕ → List (List ℕ)
added [] name = name ∷ []
added (first ∷ names) name =
    match_ordering (slice_cmp nat_cmp name first) (name ∷ first ∷ names) (first ∷ names)
    (first ∷ added names name)

-- names without this one
abbrev pub removed : List (List ℕ) → List ℕ → List (List ℕ)
removed [] name = []
removed (first ∷ names) name =
    if is_eq (slice_cmp nat_cmp name first) then names else first ∷ removed names name

-- names, each with an empty value
abbrev pub unvalued : List (List ℕ) → List Pair
unvalued names = map (λ name. record { name = name; value = [] }) names

-- Names that exported variables have: letters, digits and `_`, with no digit first, and in order.
abbrev pub AreNames : List (List ℕ) → Type 0
AreNames names = AreExports (unvalued names)

-- the names of variables
abbrev pub names_of : List Pair → List (List ℕ)
names_of pairs = map (λ pair. pair.name) pairs

-- what the keys of a set stand for
abbrev pub texts_of : List (Vec ℕ Global) → List (List ℕ)
texts_of keys = map (λ key. key.items) keys
