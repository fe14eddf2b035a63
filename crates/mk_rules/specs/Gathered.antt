-- A set of the known suffixes.
use Rattle.std.specs.Prelude.{◌≡◌, ℕ, List}
use Rattle.std.specs.List.{list_any}
use Rattle.std.specs.Str.{bytes_eq}
use Rattle.std.specs.declared.alloc.Global.{Global}
use Rattle.std.specs.declared.vec.Vec.{Vec}
use Rattle.mk_rules.specs.Lines.{is_known}

-- the keys of a set are the known suffixes, whatever their order
abbrev pub Holds : List (Vec ℕ Global) → List (List ℕ) → Type 0
Holds keys known =
    (name : List ℕ) → list_any (λ key. bytes_eq name key.items) keys ≡ is_known known name
