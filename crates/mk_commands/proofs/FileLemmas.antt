-- The files that are kept, after a change of one.
use Rattle.std.proofs.Common.{◌≡◌, ℕ, Bool, true, false, cond, List, Option, Some, Vec, Global, refl, sym, ◌∙◌, ap, subst}
use Rattle.std.proofs.lemmas.Bool.{cond_both}
use Rattle.std.specs.Cmp.Lexicographic.{bytes_decides, nat_list_eq_equiv}
use Rattle.std.specs.HashMap.{HashMap, UpdatesBy}
use Rattle.std.specs.Map.{lookup, KeepsOthers, IsKeyTest, AreApart}
use Rattle.std.specs.Str.{bytes_eq}
use Rattle.mk_world.specs.History.{filed, effected}
use Rattle.mk_commands.specs.Files.{as_filed, files_in}
use Rattle.mk_commands.specs.declared.files.Files.{Files}
use Rattle.mk_commands.specs.declared.files.Stored.{Stored}

abbrev Key : Type 0
Key = Vec ℕ Global

abbrev same_key : Key → Key → Bool
same_key one other = bytes_eq one.items other.items

-- whether a key has these bytes
abbrev has : List ℕ → Key → Bool
has path key = bytes_eq path key.items

others_keep : (test : Key → Bool) (old new : List (Key × Stored))
    → KeepsOthers same_key test old new → (other : Key → Bool) → IsKeyTest same_key other
    → AreApart test other → lookup other new ≡ lookup other old
unfolding KeepsOthers
others_keep test old new keeps = keeps

apart : (path other key : List ℕ) → bytes_eq path other ≡ false → bytes_eq path key ≡ true
    → bytes_eq other key ≡ false
apart path other key differ same =
    nat_list_eq_equiv.symm other key
    ∙ sym (nat_list_eq_equiv.congr path key other same) ∙ differ

filed_if : (here : Bool) (stored old : Option Stored)
    → as_filed (cond here stored old) ≡ cond here (as_filed stored) (as_filed old)
filed_if true stored old = refl
filed_if false stored old = refl

looked_up : {S : Type 0} (old new : HashMap Key Stored S) (path : List ℕ) (stored : Option Stored)
    → UpdatesBy same_key (has path) old new stored → (other : List ℕ)
    → lookup (has other) new.entries
    ≡ cond (bytes_eq path other) stored (lookup (has other) old.entries)
looked_up old new path stored updates other =
    cond_both (bytes_eq path other) stored (lookup (has other) old.entries)
    (λ found. lookup (has other) new.entries ≡ found)
    (λ same. subst (λ p. lookup (has p) new.entries ≡ stored) ((bytes_decides path other).0 same)
    updates.1)
    (λ differ. others_keep (has path) old.entries new.entries updates.3 (has other)
    (λ one key. nat_list_eq_equiv.congr other one.items key.items)
    (λ key. apart path other key.items differ))

-- one path is changed
pub files_in-updates : (old new : Files) (path : List ℕ) (stored : Option Stored)
    (bytes : Option (List ℕ)) (time : ℕ)
    → UpdatesBy same_key (has path) old.stored new.stored stored
    → as_filed stored ≡ filed bytes time
    → files_in new ≡ effected (files_in old) (record { path = path; bytes = bytes; time = time })
files_in-updates old new path stored bytes time updates is = λ i other.
    (ap as_filed (looked_up old.stored new.stored path stored updates other)
    ∙ filed_if (bytes_eq path other) stored (lookup (has other) old.stored.entries)
    ∙ ap (λ w. cond (bytes_eq path other) w (files_in old other)) is) i

-- the same entries stand for the same files
pub files_in-entries : (old new : Files) → new.stored.entries ≡ old.stored.entries
    → files_in new ≡ files_in old
files_in-entries old new same =
    ap (λ entries path. as_filed (lookup (λ key. bytes_eq path key.items) entries)) same

-- a file is written
pub files_in-written : (old new : Files) (key path stored bytes : List ℕ) (time : ℕ)
    → key ≡ path → stored ≡ bytes
    → UpdatesBy same_key (has key) old.stored new.stored
    (Some (record { bytes = stored; time = time }))
    → files_in new ≡ effected (files_in old)
    (record { path = path; bytes = Some bytes; time = time })
files_in-written old new key path stored bytes time same_path same_bytes updates =
    files_in-updates old new key (Some (record { bytes = stored; time = time })) (Some stored) time
    updates refl
    ∙ ap (λ p. effected (files_in old) (record { path = p; bytes = Some stored; time = time }))
    same_path
    ∙ ap (λ b. effected (files_in old) (record { path = path; bytes = Some b; time = time }))
    same_bytes
