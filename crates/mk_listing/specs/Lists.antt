-- Lists in which each text stands once.
use Rattle.std.specs.Prelude.{ℕ, List, [], ◌∷◌, ◌++◌, map, if◌then◌else◌}
use Rattle.std.specs.Cmp.Lexicographic.{slice_cmp}
use Rattle.std.specs.Ordering.{match_ordering, nat_cmp}
use Rattle.std.specs.declared.alloc.Global.{Global}
use Rattle.std.specs.declared.vec.Vec.{Vec}
use Rattle.mk_bytes.specs.Texts.{is_among}

-- what the keys of a set stand for
abbrev pub texts_of : List (Vec ℕ Global) → List (List ℕ)
texts_of keys = map (λ key. key.items) keys

-- a text in its place among texts in the order of their bytes; one that is there stays alone
abbrev pub put_in : List (List ℕ) → List ℕ → List (List ℕ)
put_in [] text = text ∷ []
put_in (first ∷ texts) text =
    match_ordering (slice_cmp nat_cmp text first) (text ∷ first ∷ texts) (first ∷ texts)
    (first ∷ put_in texts text)

-- these texts, and each of the others in its place among them
abbrev pub all_put_in : List (List ℕ) → List (List ℕ) → List (List ℕ)
all_put_in texts [] = texts
all_put_in texts (text ∷ more) = all_put_in (put_in texts text) more

-- Texts in the order of their bytes, each once.
abbrev pub in_order : List (List ℕ) → List (List ℕ)
in_order texts = all_put_in [] texts

-- a text behind others, where it is not among them
abbrev pub noted : List (List ℕ) → List ℕ → List (List ℕ)
noted texts text = if is_among texts text then texts else texts ++ text ∷ []

abbrev pub all_noted : List (List ℕ) → List (List ℕ) → List (List ℕ)
all_noted texts [] = texts
all_noted texts (text ∷ more) = all_noted (noted texts text) more

-- Texts as they come, each once.
abbrev pub each_once : List (List ℕ) → List (List ℕ)
each_once texts = all_noted [] texts
