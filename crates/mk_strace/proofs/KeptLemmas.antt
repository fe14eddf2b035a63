-- The texts that are kept, after a change of one.
use Rattle.std.proofs.Common.{◌≡◌, ℕ, Bool, true, false, cond, List, [], Some, Option, Vec, Global}
use Rattle.std.proofs.Common.{refl, sym, ◌∙◌, ap, subst}
use Rattle.std.proofs.lemmas.Bool.{cond_both}
use Rattle.std.specs.Cmp.Lexicographic.{bytes_decides, nat_list_eq_equiv}
use Rattle.std.specs.HashMap.{HashMap, UpdatesBy}
use Rattle.std.specs.Map.{lookup, KeepsOthers, IsKeyTest, AreApart}
use Rattle.std.specs.Option.{unwrap_or}
use Rattle.std.specs.Str.{bytes_eq}
use Rattle.mk_strace.specs.Held.{texts_in}
use Rattle.mk_strace.specs.Kept.{with_text}
use Rattle.mk_strace.specs.declared.kept.Kept.{Kept}

abbrev Key : Type 0
Key = Vec ℕ Global

abbrev same_key : Key → Key → Bool
same_key one other = bytes_eq one.items other.items

-- whether a key has these bytes
abbrev has : List ℕ → Key → Bool
has process key = bytes_eq process key.items

others_keep : (test : Key → Bool) (old new : List (Key × List ℕ))
    → KeepsOthers same_key test old new → (other : Key → Bool) → IsKeyTest same_key other
    → AreApart test other → lookup other new ≡ lookup other old
unfolding KeepsOthers
others_keep test old new keeps = keeps

differs : (process other key : List ℕ) → bytes_eq process other ≡ false
    → bytes_eq process key ≡ true → bytes_eq other key ≡ false
differs process other key differ same =
    nat_list_eq_equiv.symm other key
    ∙ sym (nat_list_eq_equiv.congr process key other same) ∙ differ

unwrap_or-cond : (here : Bool) (text : List ℕ) (rest : Option (List ℕ))
    → unwrap_or (cond here (Some text) rest) [] ≡ cond here text (unwrap_or rest [])
unwrap_or-cond true text rest = refl
unwrap_or-cond false text rest = refl

looked_up : {S : Type 0} (old new : HashMap Key (List ℕ) S) (process text : List ℕ)
    → UpdatesBy same_key (has process) old new (Some text) → (other : List ℕ)
    → lookup (has other) new.entries
    ≡ cond (bytes_eq process other) (Some text) (lookup (has other) old.entries)
looked_up old new process text updates other =
    cond_both (bytes_eq process other) (Some text) (lookup (has other) old.entries)
    (λ found. lookup (has other) new.entries ≡ found)
    (λ same. subst (λ p. lookup (has p) new.entries ≡ Some text)
    ((bytes_decides process other).0 same) updates.1)
    (λ differ. others_keep (has process) old.entries new.entries updates.3 (has other)
    (λ one key. nat_list_eq_equiv.congr other one.items key.items)
    (λ key. differs process other key.items differ))

-- one process has another text
pub texts_in-updates : (old new : Kept) (process text : List ℕ)
    → UpdatesBy same_key (has process) old.texts new.texts (Some text)
    → texts_in new ≡ with_text (texts_in old) process text
texts_in-updates old new process text updates = λ i other.
    (ap (λ found. unwrap_or found []) (looked_up old.texts new.texts process text updates other)
    ∙ unwrap_or-cond (bytes_eq process other) text (lookup (has other) old.texts.entries)) i
