-- The table of what is known, against the touches that left it.
use Rattle.std.proofs.Common.{◌≡◌, ℕ, Bool, true, false, cond, List, [], ◌∷◌, Vec, Global}
use Rattle.std.proofs.Common.{Option, Some, refl, ◌∙◌, ap}
use Rattle.indexmap.specs.IndexMap.{insert_entry}
use Rattle.std.specs.Map.{lookup}
use Rattle.std.specs.Option.{unwrap_or}
use Rattle.std.specs.Str.{bytes_eq}
use Rattle.mk_filemon.proofs.EscapeLemmas.{cases}
use Rattle.mk_recorder.specs.Known.{not_known, after}
use Rattle.mk_recorder.specs.Tables.{entries_of, known_in, noted}
use Rattle.mk_recorder.specs.declared.known.Touch.{Touch}
use Rattle.mk_recorder.specs.declared.known.Known.{Known}

abbrev Entries : Type 0
Entries = List (Vec ℕ Global × Known)

unwrap_or-cond : (here : Bool) (known : Known) (rest : Option Known)
    → unwrap_or (cond here (Some known) rest) not_known
    ≡ cond here known (unwrap_or rest not_known)
unwrap_or-cond true known rest = refl
unwrap_or-cond false known rest = refl

-- a look-up gives what is known of a path
pub known_in-lookup : (path : List ℕ) (entries : Entries)
    → unwrap_or (lookup (λ key. bytes_eq path key.items) entries) not_known
    ≡ known_in (entries_of entries) path
known_in-lookup path [] = refl
known_in-lookup path (e ∷ es) =
    unwrap_or-cond (bytes_eq path e.0.items) e.1 (lookup (λ key. bytes_eq path key.items) es)
    ∙ ap (λ t. cond (bytes_eq path e.0.items) e.1 t) (known_in-lookup path es)

-- an insert of what is known behind one more touch notes it
insert_entry-noted : (key : Vec ℕ Global) (touch : Touch) (entries : Entries)
    → entries_of (insert_entry (λ a b. bytes_eq a.items b.items) entries key
    (after (known_in (entries_of entries) key.items) touch))
    ≡ noted (entries_of entries) key.items touch
insert_entry-noted key touch [] = refl
insert_entry-noted key touch (e ∷ es) =
    cases (bytes_eq key.items e.0.items)
    (λ is. rw is refl)
    (λ apart. rw apart (ap (λ r. (e.0.items, e.1) ∷ r) (insert_entry-noted key touch es)))

-- an insert notes one more touch where what is known is that of a look-up behind the touch
pub insert_entry-lookup : (new : Entries) (key : Vec ℕ Global) (touch : Touch) (entries : Entries)
    (before : Known) → before
    ≡ unwrap_or (lookup (λ other. bytes_eq key.items other.items) entries) not_known
    → new ≡ insert_entry (λ a b. bytes_eq a.items b.items) entries key (after before touch)
    → entries_of new ≡ noted (entries_of entries) key.items touch
insert_entry-lookup new key touch entries before was is =
    ap entries_of (is ∙ ap (λ known. insert_entry (λ a b. bytes_eq a.items b.items) entries key
    (after known touch)) (was ∙ known_in-lookup key.items entries))
    ∙ insert_entry-noted key touch entries
