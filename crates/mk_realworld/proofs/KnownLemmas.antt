-- The times that are kept, after one more.
use Rattle.std.proofs.Common.{◌≡◌, ℕ, Bool, true, false, List, Option, Some, None, IfSome, Vec, Global}
use Rattle.std.proofs.Common.{refl, sym, ◌∙◌}
use Rattle.std.specs.Cmp.Lexicographic.{nat_list_eq_equiv}
use Rattle.std.specs.HashMap.{HashMap, UpdatesBy}
use Rattle.std.specs.Map.{lookup, KeepsOthers, IsKeyTest, AreApart}
use Rattle.std.specs.Str.{bytes_eq}
use Rattle.mk_realworld.specs.declared.file.Sight.{Sight}

abbrev Key : Type 0
Key = Vec ℕ Global

abbrev same_key : Key → Key → Bool
same_key one other = bytes_eq one.items other.items

-- whether a key has these bytes
abbrev has : List ℕ → Key → Bool
has path key = bytes_eq path key.items

others_keep : (test : Key → Bool) (old new : List (Key × Sight))
    → KeepsOthers same_key test old new → (other : Key → Bool) → IsKeyTest same_key other
    → AreApart test other → lookup other new ≡ lookup other old
unfolding KeepsOthers
others_keep test old new keeps = keeps

differs : (path other key : List ℕ) → bytes_eq other path ≡ false → bytes_eq path key ≡ true
    → bytes_eq other key ≡ false
differs path other key differ same =
    nat_list_eq_equiv.symm other key
    ∙ sym (nat_list_eq_equiv.congr path key other same) ∙ nat_list_eq_equiv.symm path other ∙ differ

-- the time of another path stays
pub others_stay : {S : Type 0} (old new : HashMap Key Sight S) (path : List ℕ) (when : Sight)
    → UpdatesBy same_key (has path) old new (Some when) → (other : List ℕ)
    → bytes_eq other path ≡ false → lookup (has other) new.entries ≡ lookup (has other) old.entries
others_stay old new path when updates other differ =
    others_keep (has path) old.entries new.entries updates.3 (has other)
    (λ one key. nat_list_eq_equiv.congr other one.items key.items)
    (λ key. differs path other key.items differ)

-- what was seen, where something was, is what was seen
pub seen-itself : (seen : Option Sight) → IfSome seen (λ sight. seen ≡ Some sight)
seen-itself None = tt
seen-itself (Some sight) = refl
