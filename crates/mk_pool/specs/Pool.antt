-- Names of nodes, one to one with bytes: the texts of a pool, in the order of first interning.
use Rattle.std.specs.Prelude.{◌≡◌, ◌≢◌, ℕ, Bool, false, List, [], ◌∷◌, ◌++◌, length, Option}
use Rattle.std.specs.Prelude.{position, if◌then◌else◌, AllPairs, map}
use Rattle.std.specs.List.{list_any}
use Rattle.std.specs.Option.{option_map}
use Rattle.std.specs.Str.{bytes_eq}
use Rattle.std.specs.declared.vec.Vec.{Vec}
use Rattle.std.specs.declared.alloc.Global.{Global}
use Rattle.mk_pool.specs.declared.pool.Name.{Name}
use Rattle.mk_pool.specs.declared.pool.TheConstants.{MAX_NAMES}

-- the bytes of each key, in the order of the keys
abbrev pub texts_of : List (Vec ℕ Global) → List (List ℕ)
texts_of keys = map (λ key. key.items) keys

-- no two texts are the same bytes
abbrev pub AreDistinct : List (List ℕ) → Type 0
AreDistinct texts = AllPairs (λ text later. text ≢ later) texts

-- the name of bytes is their place among the texts
abbrev pub name_of : List (List ℕ) → List ℕ → Option Name
name_of texts bytes = option_map (λ place. record { 0 = place }) (position (bytes_eq bytes) texts)

-- whether these bytes are one of the texts
abbrev pub is_held : List (List ℕ) → List ℕ → Bool
is_held texts bytes = list_any (bytes_eq bytes) texts

-- the texts once these bytes are among them: new bytes go last
abbrev pub with_text : List (List ℕ) → List ℕ → List (List ℕ)
with_text texts bytes = if is_held texts bytes then texts else texts ++ bytes ∷ []

-- the most names are held, and none of them is for these bytes
abbrev pub IsFullFor : List (List ℕ) → List ℕ → Type 0
IsFullFor texts bytes = (length texts ≡ MAX_NAMES) × (is_held texts bytes ≡ false)
