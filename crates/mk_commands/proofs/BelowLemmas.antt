-- Paths below a directory, among the files that are kept.
use Rattle.std.proofs.Common.{◌≡◌, ◌≢◌, ℕ, ◌==◌, ◌+◌, ◌≤◌, Bool, Bor, MatchOption, true, false, ◌&&◌, ◌||◌, cond, List, [], ◌∷◌, ◌++◌, Option, Some, None, IsSome, Vec, Global, length, take, drop, position, nat_lt, refl, sym, ap, subst, ◌∙◌, arith}
use Rattle.std.proofs.lemmas.Bool.{ltb-false}
use Rattle.std.proofs.lemmas.List.{take_all}
use Rattle.std.proofs.lemmas.Slice.Eq.{bytes_eq-Decides}
use Rattle.std.specs.List.{list_any, position_or_len}
use Rattle.std.specs.Map.{lookup, keys_of}
use Rattle.std.specs.Option.{option_copied, option_map}
use Rattle.std.specs.Prelude.{◌↔◌, IsTrue}
use Rattle.std.specs.Str.{bytes_eq}
use Rattle.mk_bytes.specs.Bytes.{dot, slash}
use Rattle.mk_bytes.specs.Paths.{is_absolute, is_slash}
use Rattle.mk_bytes.specs.Texts.{is_among}
use Rattle.mk_world.specs.Deeds.{Store}
use Rattle.mk_world.specs.History.{contents}
use Rattle.mk_world.specs.Listings.{AreInOrder, AreNamesBelow, StandsBelow, behind, below, first_name, name_below}
use Rattle.mk_commands.specs.Files.{as_filed, files_in}
use Rattle.mk_commands.specs.declared.files.Files.{Files}
use Rattle.mk_commands.specs.declared.files.Stored.{Stored}

-- a beginning that is stripped
pub behind-is : (start path : List ℕ)
    → behind start path
    ≡ cond (bytes_eq (take (length start) path) start) (Some (drop (length start) path)) None
behind-is [] path = refl
behind-is (byte ∷ start) [] = refl
behind-is (byte ∷ start) (first ∷ path) =
    by (first == byte) (bytes_eq (take (length start) path) start) (behind-is start path)
  where
    by : (here more : Bool) → behind start path ≡ cond more (Some (drop (length start) path)) None
        → cond here (behind start path) None
        ≡ cond (here && more) (Some (drop (length start) path)) None
    by true more is = is
    by false more is = refl

pub stripped : (start path : List ℕ) (rest : Option (Bor (List ℕ)))
    → MatchOption rest (bytes_eq (take (length start) path) start ≡ false)
    (λ x. (bytes_eq (take (length start) path) start ≡ true) × (x.now ≡ drop (length start) path)
    × (length x.now + length start ≡ length path))
    → option_copied rest ≡ behind start path
stripped start path None is =
    sym (behind-is start path
    ∙ ap (λ b. cond b (Some (drop (length start) path)) None) is)
stripped start path (Some x) is =
    ap Some is.1
    ∙ sym (behind-is start path ∙ ap (λ b. cond b (Some (drop (length start) path)) None) is.0)

-- one beginning behind another one
abbrev pub then_behind : List ℕ → Option (List ℕ) → Option (List ℕ)
then_behind more None = None
then_behind more (Some rest) = behind more rest

pub behind-both : (start more path : List ℕ)
    → behind (start ++ more) path ≡ then_behind more (behind start path)
behind-both [] more path = refl
behind-both (byte ∷ start) more [] = refl
behind-both (byte ∷ start) more (first ∷ path) = by (first == byte) (behind-both start more path)
  where
    by : (here : Bool) → behind (start ++ more) path ≡ then_behind more (behind start path)
        → cond here (behind (start ++ more) path) None
        ≡ then_behind more (cond here (behind start path) None)
    by true is = is
    by false is = refl

-- what lies below a directory that is no special one
pub below-other : (dir path : List ℕ) → bytes_eq dir (dot ∷ []) ≡ false
    → bytes_eq dir (slash ∷ []) ≡ false
    → below dir path ≡ then_behind (slash ∷ []) (behind dir path)
below-other dir path no_dot no_slash =
    ap (λ b. cond b (cond (is_absolute path) None (Some path))
    (cond (bytes_eq dir (slash ∷ [])) (behind (slash ∷ []) path) (behind (dir ++ slash ∷ []) path)))
    no_dot
    ∙ ap (λ b. cond b (behind (slash ∷ []) path) (behind (dir ++ slash ∷ []) path)) no_slash
    ∙ behind-both dir (slash ∷ []) path

-- Names up to a slash

found-at : (b : Bool) (n at : ℕ) → cond b (Some n) None ≡ Some at → n ≡ at
found-at true n at is = cc
found-at false n at is = cc

not-found : (b : Bool) (n : ℕ) → cond b (Some n) None ≡ None → b ≡ false
not-found true n is = cc
not-found false n is = refl

pub first-to : (path : List ℕ) (at : ℕ) → position is_slash path ≡ Some at
    → take at path ≡ first_name path
first-to path at is =
    ap (λ n. take n path)
    (sym (found-at (nat_lt (position_or_len is_slash path) (length path))
    (position_or_len is_slash path) at is))

pub first-whole : (path : List ℕ) → position is_slash path ≡ None → path ≡ first_name path
first-whole path is =
    sym (take_all (position_or_len is_slash path) path
    (ltb-false (position_or_len is_slash path) (length path)
    (not-found (nat_lt (position_or_len is_slash path) (length path))
    (position_or_len is_slash path) is)))

-- Names of the paths that are kept

abbrev pub is_this : List ℕ → Option (List ℕ) → Bool
is_this name None = false
is_this name (Some first) = bytes_eq name first

-- whether a path leads below a directory by this name
abbrev pub leads : List ℕ → List ℕ → List ℕ → Bool
leads dir name path = is_this name (name_below dir path)

abbrev pub some_lead : List ℕ → List ℕ → List (Vec ℕ Global) → Bool
some_lead dir name keys = list_any (λ key. leads dir name key.items) keys

-- one more path, which leads to no name
pub lead-none : (dir : List ℕ) (names : List (List ℕ)) (key : Vec ℕ Global)
    (keys : List (Vec ℕ Global)) (whole : List ℕ → Bool) → name_below dir key.items ≡ None
    → ((name : List ℕ) → (is_among names name || some_lead dir name (key ∷ keys)) ≡ whole name)
    → (name : List ℕ) → (is_among names name || some_lead dir name keys) ≡ whole name
lead-none dir names key keys whole none so name =
    ap (λ found. is_among names name || (is_this name found || some_lead dir name keys)) (sym none)
    ∙ so name

moved : (a b c : Bool) → ((a || b) || c) ≡ (b || (a || c))
moved true true c = refl
moved true false c = refl
moved false b c = refl

-- one more path, which leads to a name
pub lead-some : (dir : List ℕ) (names new : List (List ℕ)) (first : List ℕ) (key : Vec ℕ Global)
    (keys : List (Vec ℕ Global)) (whole : List ℕ → Bool) → name_below dir key.items ≡ Some first
    → ((other : List ℕ) → is_among new other ≡ (bytes_eq other first || is_among names other))
    → ((name : List ℕ) → (is_among names name || some_lead dir name (key ∷ keys)) ≡ whole name)
    → (name : List ℕ) → (is_among new name || some_lead dir name keys) ≡ whole name
lead-some dir names new first key keys whole some added so name =
    ap (λ b. b || some_lead dir name keys) (added name)
    ∙ moved (bytes_eq name first) (is_among names name) (some_lead dir name keys)
    ∙ ap (λ found. is_among names name || (is_this name found || some_lead dir name keys)) (sym some)
    ∙ so name

or-none : (b : Bool) → b ≡ (b || false)
or-none true = refl
or-none false = refl

-- all paths have led to their names
pub all-led : (dir : List ℕ) (names : List (List ℕ)) (left first keys : List (Vec ℕ Global))
    → left ≡ [] → first ≡ keys
    → ((name : List ℕ) → (is_among names name || some_lead dir name left) ≡ some_lead dir name first)
    → (name : List ℕ) → is_among names name ≡ some_lead dir name keys
all-led dir names left first keys over all so name =
    or-none (is_among names name)
    ∙ ap (λ l. is_among names name || some_lead dir name l) (sym over)
    ∙ so name ∙ ap (some_lead dir name) all

abbrev Entry : Type 0
Entry = Vec ℕ Global × Stored

abbrev has : List ℕ → Vec ℕ Global → Bool
has path key = bytes_eq path key.items

-- a path that is kept, and leads to a name
abbrev Leading : List ℕ → List ℕ → List Entry → Type 0
Leading dir name entries =
    (path : List ℕ) × (leads dir name path ≡ true) × IsSome (lookup (has path) entries)

leading-later : (dir name : List ℕ) (entry : Entry) (entries : List Entry)
    → Leading dir name entries → Leading dir name (entry ∷ entries)
leading-later dir name entry entries leading =
    (leading.0, leading.1, by (has leading.0 entry.0) leading.2)
  where
    by : (here : Bool) → IsSome (lookup (has leading.0) entries)
        → IsSome (cond here (Some entry.1) (lookup (has leading.0) entries))
    by true some = refl
    by false some = some

leading-here : (dir name : List ℕ) (entry : Entry) (entries : List Entry) (here : Bool)
    → leads dir name entry.0.items ≡ here
    → (some_lead dir name (keys_of entries) ≡ true → Leading dir name entries)
    → (here || some_lead dir name (keys_of entries)) ≡ true → Leading dir name (entry ∷ entries)
leading-here dir name entry entries true here later is = (
  entry.0.items,
  here,
  subst (λ b. IsSome (cond b (Some entry.1) (lookup (has entry.0.items) entries)))
      (sym ((bytes_eq-Decides entry.0.items entry.0.items).1 refl)) refl,
)
leading-here dir name entry entries false here later is =
    leading-later dir name entry entries (later is)

leading-from : (dir name : List ℕ) (entries : List Entry)
    → some_lead dir name (keys_of entries) ≡ true → Leading dir name entries
leading-from dir name [] is = cc
leading-from dir name (entry ∷ entries) is =
    leading-here dir name entry entries (leads dir name entry.0.items) refl
    (leading-from dir name entries) is

or-true : (b : Bool) → (b || true) ≡ true
or-true true = refl
or-true false = refl

leading-by : (dir name path : List ℕ) (entry : Entry) (entries : List Entry) (here : Bool)
    → has path entry.0 ≡ here → leads dir name path ≡ true
    → (IsSome (lookup (has path) entries) → some_lead dir name (keys_of entries) ≡ true)
    → IsSome (cond here (Some entry.1) (lookup (has path) entries))
    → some_lead dir name (keys_of (entry ∷ entries)) ≡ true
leading-by dir name path entry entries true here is later some =
    ap (λ b. b || some_lead dir name (keys_of entries))
    (ap (leads dir name) (sym ((bytes_eq-Decides path entry.0.items).0 here)) ∙ is)
leading-by dir name path entry entries false here is later some =
    ap (λ b. leads dir name entry.0.items || b) (later some) ∙ or-true (leads dir name entry.0.items)

leading-to : (dir name path : List ℕ) (entries : List Entry) → leads dir name path ≡ true
    → IsSome (lookup (has path) entries) → some_lead dir name (keys_of entries) ≡ true
leading-to dir name path [] is some = cc
leading-to dir name path (entry ∷ entries) is some =
    leading-by dir name path entry entries (has path entry.0) refl is
    (leading-to dir name path entries is) some

-- a file is there where it is kept
kept : (stored : Option Stored)
    → (IsSome stored → IsSome (option_map (λ file. file.bytes) (as_filed stored)))
    × (IsSome (option_map (λ file. file.bytes) (as_filed stored)) → IsSome stored)
kept None = (λ is. is, λ is. is)
kept (Some file) = (λ is. refl, λ is. refl)

this-name : (name : List ℕ) (found : Option (List ℕ)) → is_this name found ≡ true → found ≡ Some name
this-name name None is = cc
this-name name (Some first) is = ap Some (sym ((bytes_eq-Decides name first).0 is))

name-this : (name : List ℕ) (found : Option (List ℕ)) → found ≡ Some name → is_this name found ≡ true
name-this name found is =
    subst (λ f. is_this name f ≡ true) (sym is) ((bytes_eq-Decides name name).1 refl)

-- the names that the paths of kept files lead to
pub names-below : (files : Files) (dir : List ℕ) (names : List (List ℕ)) → AreInOrder names
    → ((name : List ℕ) → is_among names name ≡ some_lead dir name (keys_of files.stored.entries))
    → AreNamesBelow (contents (files_in files)) dir names
names-below files dir names ordered are = record {
  ordered = ordered;
  are = λ name. (
    λ is.
        let leading = leading-from dir name files.stored.entries (sym (are name) ∙ is) in record {
          path = leading.0;
          stands = (kept (lookup (has leading.0) files.stored.entries)).0 leading.2;
          named = this-name name (name_below dir leading.0) leading.1;
        },
    λ stands.
        are name
        ∙ leading-to dir name stands.path files.stored.entries
        (name-this name (name_below dir stands.path) stands.named)
        ((kept (lookup (has stands.path) files.stored.entries)).1 stands.stands),
  );
}
