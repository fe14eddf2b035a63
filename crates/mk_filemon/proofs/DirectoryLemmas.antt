-- The directories that are kept, after a change of one.
use Rattle.std.proofs.Common.{◌≡◌, ℕ, Bool, true, false, cond, List, Some, Vec, Global}
use Rattle.std.proofs.Common.{sym, ◌∙◌, subst}
use Rattle.std.proofs.lemmas.Bool.{cond_both}
use Rattle.std.specs.Cmp.Lexicographic.{bytes_decides, nat_list_eq_equiv}
use Rattle.std.specs.HashMap.{HashMap, UpdatesBy}
use Rattle.std.specs.Map.{lookup, KeepsOthers, IsKeyTest, AreApart}
use Rattle.std.specs.Str.{bytes_eq}
use Rattle.mk_filemon.specs.Held.{directories_in}
use Rattle.mk_filemon.specs.Log.{with_directory}
use Rattle.mk_filemon.specs.declared.directory.Directories.{Directories}

abbrev Key : Type 0
Key = Vec ℕ Global

abbrev same_key : Key → Key → Bool
same_key one other = bytes_eq one.items other.items

-- whether a key has these bytes
abbrev has : List ℕ → Key → Bool
has process key = bytes_eq process key.items

others_keep : (test : Key → Bool) (old new : List (Key × List ℕ))
    → KeepsOthers same_key test old new → (other : Key → Bool) → IsKeyTest same_key other
    → AreApart test other → lookup other new ≡ lookup other old
unfolding KeepsOthers
others_keep test old new keeps = keeps

differs : (process other key : List ℕ) → bytes_eq process other ≡ false
    → bytes_eq process key ≡ true → bytes_eq other key ≡ false
differs process other key differ same =
    nat_list_eq_equiv.symm other key
    ∙ sym (nat_list_eq_equiv.congr process key other same) ∙ differ

looked_up : {S : Type 0} (old new : HashMap Key (List ℕ) S) (process directory : List ℕ)
    → UpdatesBy same_key (has process) old new (Some directory) → (other : List ℕ)
    → lookup (has other) new.entries
    ≡ cond (bytes_eq process other) (Some directory) (lookup (has other) old.entries)
looked_up old new process directory updates other =
    cond_both (bytes_eq process other) (Some directory) (lookup (has other) old.entries)
    (λ found. lookup (has other) new.entries ≡ found)
    (λ same. subst (λ p. lookup (has p) new.entries ≡ Some directory)
    ((bytes_decides process other).0 same) updates.1)
    (λ differ. others_keep (has process) old.entries new.entries updates.3 (has other)
    (λ one key. nat_list_eq_equiv.congr other one.items key.items)
    (λ key. differs process other key.items differ))

-- one process has another directory
pub directories_in-updates : (old new : Directories) (process directory : List ℕ)
    → UpdatesBy same_key (has process) old.directories new.directories (Some directory)
    → directories_in new ≡ with_directory (directories_in old) process directory
directories_in-updates old new process directory updates = λ i other.
    looked_up old.directories new.directories process directory updates other i
