-- Letters of one case, `:tl` and `:tu` of make(1).
use Rattle.std.specs.Prelude.{ℕ, ◌+◌, ◌-◌, Bool, ◌&&◌, nat_le, List, map, Option, Some, None}
use Rattle.std.specs.Prelude.{if◌then◌else◌}
use Rattle.std.specs.List.{list_any}

abbrev pub is_capital : ℕ → Bool
is_capital byte = nat_le 65 byte && nat_le byte 90

abbrev pub is_small : ℕ → Bool
is_small byte = nat_le 97 byte && nat_le byte 122

-- the letters that are changed where all are to be small, or all capitals
abbrev pub is_other : Bool → ℕ → Bool
is_other small byte = if small then is_capital byte else is_small byte

abbrev pub other_case : Bool → ℕ → ℕ
other_case small byte = if small then byte + 32 else byte - 32

-- letters of one case; other bytes stay
abbrev pub to_case : Bool → ℕ → ℕ
to_case small byte = if is_other small byte then other_case small byte else byte

abbrev pub in_case : Bool → List ℕ → List ℕ
in_case small text = map (to_case small) text

-- a text in one case, where it is changed by that
abbrev pub recased : Bool → List ℕ → Option (List ℕ)
recased small text = if list_any (is_other small) text then Some (in_case small text) else None
