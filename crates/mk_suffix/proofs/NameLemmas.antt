-- The last component of a path, byte by byte.
use Rattle.std.proofs.Common.{◌≡◌, ◌∙◌, ℕ, zero, suc, ◌+◌, ◌<◌, length, drop, get_or, slice_get}
use Rattle.std.proofs.Common.{List, [], ◌∷◌, Some, refl, Bool, true, false, if◌then◌else◌, arith}
use Rattle.std.specs.List.{list_any}
use Rattle.std.proofs.lemmas.Grind.{common_steps}
use Rattle.std.proofs.lemmas.Option.{slice_get-get_or}
use Rattle.mk_suffix.specs.Names.{is_slash, last_component}

drop-at : {A : Type 0} (items : List A) (i : ℕ) (item : A) → slice_get items i ≡ Some item
    → drop i items ≡ item ∷ drop (i + 1) items
drop-at [] i item is = cc
drop-at (first ∷ items) zero item is = grind (arith, common_steps)
drop-at (first ∷ items) (suc i) item is =
    let next : suc i + 1 ≡ suc (i + 1) = omega arith in rw next (drop-at items i item is)

-- the last component, by where it begins in the bytes so far and by the bytes that follow
abbrev pub component_by : List ℕ → List ℕ → List ℕ
component_by begun rest = if list_any is_slash rest then last_component rest else begun

last_component-none : (path : List ℕ) → list_any is_slash path ≡ false
    → last_component path ≡ path
last_component-none [] none = refl
last_component-none (byte ∷ bytes) none = rw none refl

pub last_component-by : (path : List ℕ) → last_component path ≡ component_by path path
last_component-by path = at (list_any is_slash path) refl
  where
    at : (any : Bool) → list_any is_slash path ≡ any
        → last_component path ≡ (if any then last_component path else path)
    at true is = refl
    at false is = last_component-none path is

component-slash : (begun : List ℕ) (byte : ℕ) (bytes : List ℕ) → is_slash byte ≡ true
    → component_by begun (byte ∷ bytes) ≡ component_by bytes bytes
component-slash begun byte bytes is = rw is (last_component-by bytes)

component-other : (begun : List ℕ) (byte : ℕ) (bytes : List ℕ) → is_slash byte ≡ false
    → component_by begun (byte ∷ bytes) ≡ component_by begun bytes
component-other begun byte bytes is = at (list_any is_slash bytes) refl
  where
    at : (any : Bool) → list_any is_slash bytes ≡ any
        → component_by begun (byte ∷ bytes) ≡ (if any then last_component bytes else begun)
    at true none = rw (is, none) refl
    at false none = rw (is, none) refl

component-by_byte : (path : List ℕ) (start at next byte : ℕ) (slash : Bool)
    → is_slash byte ≡ slash → drop at path ≡ byte ∷ drop (at + 1) path
    → next ≡ (if is_slash byte then at + 1 else start)
    → component_by (drop start path) (drop at path)
    ≡ component_by (drop next path) (drop (at + 1) path)
component-by_byte path start at next byte true slash are is =
    let now : next ≡ at + 1 = is ∙ rw slash refl in
    rw (are, now) (component-slash (drop start path) byte (drop (at + 1) path) slash)
component-by_byte path start at next byte false other are is =
    let now : next ≡ start = is ∙ rw other refl in
    rw (are, now) (component-other (drop start path) byte (drop (at + 1) path) other)

-- one byte further
pub component-step : (path : List ℕ) (start at next : ℕ) → at < length path
    → next ≡ (if is_slash (get_or path at 0) then at + 1 else start)
    → component_by (drop start path) (drop at path)
    ≡ component_by (drop next path) (drop (at + 1) path)
component-step path start at next within is =
    component-by_byte path start at next (get_or path at 0) (is_slash (get_or path at 0)) refl
    (drop-at path at (get_or path at 0) (slice_get-get_or path at 0 within)) is
