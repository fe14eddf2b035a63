-- Looks for a decision, and what the first at each path saw.
use Rattle.std.proofs.Common.{◌≡◌, ◌∙◌, ◌⊎◌, ℕ, ◌||◌, List, [], ◌∷◌, ◌++◌, Option, Some, None, Bool, true, false, if◌then◌else◌}
use Rattle.std.proofs.Common.{inl, inr, refl, sym, ap, subst, append_assoc}
use Rattle.std.proofs.lemmas.Bool.{false≢true}
use Rattle.std.proofs.lemmas.Slice.Eq.{bytes_eq-Decides}
use Rattle.std.specs.List.{list_any}
use Rattle.std.specs.Str.{bytes_eq}
use Rattle.mk_clean.proofs.WalkLemmas.{left_alone}
use Rattle.mk_meta.specs.TrueHistory.{LeavesAlone}
use Rattle.mk_trace.specs.Items.{Item, looks, keeps, refuses, starts, passes, waits, steps, ends, changes, leaves, path_of, happened, happened_all, IsSeenIn, FitsAll}
use Rattle.mk_world.proofs.CallLemmas.{after_all-append}
use Rattle.mk_world.specs.Calls.{when_of}
use Rattle.mk_world.specs.Deeds.{changes as changes_of}
use Rattle.mk_world.specs.History.{State as Stand, Filed, after_all as stand_after, at_time, contents}
use Rattle.mk_world.specs.Looks.{Seen, dated, read}
use Rattle.mk_world.specs.Outer.{or_stood}
use Rattle.mk_world.specs.Talks.{Meaning}
use Rattle.mk_world.specs.declared.time.When.{When}

abbrev pub AllSeen : (Seen → Type 0) → List Seen → Type 0
AllSeen K [] = Unit {0}
AllSeen K (one ∷ more) = K one × AllSeen K more

pub all-more : (K : Seen → Type 0) (first second : List Seen) → AllSeen K first → AllSeen K second
    → AllSeen K (first ++ second)
all-more K [] second all more = more
all-more K (one ∷ first) second all more = (all.0, all-more K first second all.1 more)

pub all-parts : (K : Seen → Type 0) (first second : List Seen) → AllSeen K (first ++ second)
    → AllSeen K first × AllSeen K second
all-parts K [] second all = (tt, all)
all-parts K (one ∷ first) second all =
    let rest = all-parts K first second all.1 in ((all.0, rest.0), rest.1)

-- a look at a time
abbrev pub IsDated : Seen → Type 0
IsDated (dated one) = Unit {0}
IsDated (read path bytes) = ⊥

-- a look that saw this time, if it was one at a time
abbrev pub SawWhen : When → Seen → Type 0
SawWhen when (dated one) = one.when ≡ when
SawWhen when (read path bytes) = Unit {0}

pub saw-when : (stand : Stand) (seen : Seen) (path : List ℕ) → IsSeenIn stand seen → path_of seen ≡ path
    → SawWhen (when_of (stand.files path)) seen
saw-when stand (dated one) path is same = is ∙ ap (λ p. when_of (stand.files p)) same
saw-when stand (read other bytes) path is same = tt

-- a look for a node, or a step
abbrev pub IsOf : ℕ → Item → Type 0
IsOf n (looks one seen) = one ≡ n
IsOf n (steps ticket owner deed time) = Unit {0}
IsOf n (keeps one) = ⊥
IsOf n (refuses one number what) = ⊥
IsOf n (starts one number ticket owner cmd) = ⊥
IsOf n (passes one number) = ⊥
IsOf n waits = ⊥
IsOf n (ends one number owner ended) = ⊥
IsOf n (changes one change) = ⊥
IsOf n (leaves ticket owner) = ⊥

abbrev pub AllOf : ℕ → List Item → Type 0
AllOf n [] = Unit {0}
AllOf n (item ∷ items) = IsOf n item × AllOf n items

pub of-last : (n : ℕ) (items : List Item) (item : Item) → AllOf n items → IsOf n item
    → AllOf n (items ++ item ∷ [])
of-last n [] item all is = (is, tt)
of-last n (one ∷ items) item all is = (all.0, of-last n items item all.1 is)

abbrev pub seen_of : Item → List Seen
seen_of (looks n seen) = seen ∷ []
seen_of (keeps n) = []
seen_of (refuses n number what) = []
seen_of (starts n number ticket owner cmd) = []
seen_of (passes n number) = []
seen_of waits = []
seen_of (steps ticket owner deed time) = []
seen_of (ends n number owner ended) = []
seen_of (changes n change) = []
seen_of (leaves ticket owner) = []

abbrev pub seen_in : List Item → List Seen
seen_in [] = []
seen_in (item ∷ items) = seen_of item ++ seen_in items

abbrev pub is_look_at : List ℕ → Item → Bool
is_look_at path (looks n seen) = bytes_eq (path_of seen) path
is_look_at path (keeps n) = false
is_look_at path (refuses n number what) = false
is_look_at path (starts n number ticket owner cmd) = false
is_look_at path (passes n number) = false
is_look_at path waits = false
is_look_at path (steps ticket owner deed time) = false
is_look_at path (ends n number owner ended) = false
is_look_at path (changes n change) = false
is_look_at path (leaves ticket owner) = false

abbrev pub is_looked : List ℕ → List Item → Bool
is_looked path items = list_any (is_look_at path) items

-- the items before the first look at a path, and the others
abbrev pub until_look : List ℕ → List Item → List Item
until_look path [] = []
until_look path (item ∷ items) = if is_look_at path item then [] else item ∷ until_look path items

abbrev pub from_look : List ℕ → List Item → List Item
from_look path [] = []
from_look path (item ∷ items) = if is_look_at path item then item ∷ items else from_look path items

pub until-splits : (path : List ℕ) (items : List Item) → items ≡ until_look path items ++ from_look path items
until-splits path [] = refl
until-splits path (item ∷ items) = by (is_look_at path item) (until-splits path items)
  where
    by : (b : Bool) → items ≡ until_look path items ++ from_look path items
        → item ∷ items
        ≡ (if b then [] else item ∷ until_look path items) ++ (if b then item ∷ items else from_look path items)
    by true rest = refl
    by false rest = ap (λ l. item ∷ l) rest

-- what the first look at a path saw
abbrev pub first_look : Stand → List Item → List ℕ → Option (Option (List ℕ))
first_look stand [] path = None
first_look stand (item ∷ items) path =
    if is_look_at path item then Some (contents stand.files path)
    else first_look (stand_after stand (happened item)) items path

pub first-other : (stand : Stand) (items : List Item) (item : Item) (path : List ℕ)
    → is_look_at path item ≡ false
    → first_look stand (items ++ item ∷ []) path ≡ first_look stand items path
first-other stand [] item path other = rw other refl
first-other stand (one ∷ items) item path other =
    ap (λ r. if is_look_at path one then Some (contents stand.files path) else r)
    (first-other (stand_after stand (happened one)) items item path other)

pub first-before : (stand : Stand) (items : List Item) (item : Item) (path : List ℕ)
    → is_looked path items ≡ true
    → first_look stand (items ++ item ∷ []) path ≡ first_look stand items path
first-before stand [] item path looked = absurd (false≢true looked)
first-before stand (one ∷ items) item path looked =
    by (is_look_at path one) looked (first-before (stand_after stand (happened one)) items item path)
  where
    by : (b : Bool) → (b || is_looked path items) ≡ true
        → (is_looked path items ≡ true
        → first_look (stand_after stand (happened one)) (items ++ item ∷ []) path
        ≡ first_look (stand_after stand (happened one)) items path)
        → (if b then Some (contents stand.files path)
        else first_look (stand_after stand (happened one)) (items ++ item ∷ []) path)
        ≡ (if b then Some (contents stand.files path)
        else first_look (stand_after stand (happened one)) items path)
    by true is rest = refl
    by false is rest = rest is

pub first-now : (stand : Stand) (items : List Item) (item : Item) (path : List ℕ)
    → is_looked path items ≡ false → is_look_at path item ≡ true
    → first_look stand (items ++ item ∷ []) path
    ≡ Some (contents (stand_after stand (happened_all items)).files path)
first-now stand [] item path none here = rw here refl
first-now stand (one ∷ items) item path none here =
    by (is_look_at path one) none (first-now (stand_after stand (happened one)) items item path)
  where
    by : (b : Bool) → (b || is_looked path items) ≡ false
        → (is_looked path items ≡ false → is_look_at path item ≡ true
        → first_look (stand_after stand (happened one)) (items ++ item ∷ []) path
        ≡ Some (contents (stand_after (stand_after stand (happened one)) (happened_all items)).files path))
        → (if b then Some (contents stand.files path)
        else first_look (stand_after stand (happened one)) (items ++ item ∷ []) path)
        ≡ Some (contents (stand_after stand (happened one ++ happened_all items)).files path)
    by true is rest = absurd cc
    by false is rest =
        rest is here
        ∙ ap (λ (s : Stand). Some (contents s.files path))
        (sym (after_all-append stand (happened one) (happened_all items)))

-- the files as the looks saw them, each path at its first look, or now
pub seen-is : (stand : Stand) (items : List Item) (path : List ℕ)
    → or_stood (first_look stand items path) (contents (stand_after stand (happened_all items)).files path)
    ≡ contents (stand_after stand (happened_all (until_look path items))).files path
seen-is stand [] path = refl
seen-is stand (one ∷ items) path =
    by (is_look_at path one) (seen-is (stand_after stand (happened one)) items path)
  where
    by : (b : Bool)
        → or_stood (first_look (stand_after stand (happened one)) items path)
        (contents (stand_after (stand_after stand (happened one)) (happened_all items)).files path)
        ≡ contents (stand_after (stand_after stand (happened one)) (happened_all (until_look path items))).files path
        → or_stood (if b then Some (contents stand.files path)
        else first_look (stand_after stand (happened one)) items path)
        (contents (stand_after stand (happened one ++ happened_all items)).files path)
        ≡ contents (stand_after stand (happened_all (if b then [] else one ∷ until_look path items))).files path
    by true rest = refl
    by false rest =
        ap (λ (s : Stand). or_stood (first_look (stand_after stand (happened one)) items path)
        (contents s.files path)) (after_all-append stand (happened one) (happened_all items))
        ∙ (rest ∙ ap (λ (s : Stand). contents s.files path)
        (sym (after_all-append stand (happened one) (happened_all (until_look path items)))))

pub until-none : (path : List ℕ) (items : List Item) → is_looked path items ≡ false
    → until_look path items ≡ items
until-none path [] none = refl
until-none path (one ∷ items) none = by (is_look_at path one) none (until-none path items)
  where
    by : (b : Bool) → (b || is_looked path items) ≡ false
        → (is_looked path items ≡ false → until_look path items ≡ items)
        → (if b then [] else one ∷ until_look path items) ≡ one ∷ items
    by true is rest = absurd cc
    by false is rest = ap (λ l. one ∷ l) (rest is)

-- a path is one of those that were looked at
abbrev pub HasPath : List ℕ → List Seen → Type 0
HasPath path [] = ⊥
HasPath path (one ∷ more) = (path_of one ≡ path) ⊎ HasPath path more

pub looked-has : (path : List ℕ) (items : List Item) → is_looked path items ≡ true → HasPath path (seen_in items)
looked-has path [] is = absurd (false≢true is)
looked-has path (looks n seen ∷ items) is = by (bytes_eq (path_of seen) path) refl is (looked-has path items)
  where
    by : (b : Bool) → bytes_eq (path_of seen) path ≡ b → (b || is_looked path items) ≡ true
        → (is_looked path items ≡ true → HasPath path (seen_in items))
        → (path_of seen ≡ path) ⊎ HasPath path (seen_in items)
    by true here given rest = inl ((bytes_eq-Decides (path_of seen) path).0 here)
    by false here given rest = inr (rest given)
looked-has path (keeps n ∷ items) is = looked-has path items is
looked-has path (refuses n number what ∷ items) is = looked-has path items is
looked-has path (starts n number ticket owner cmd ∷ items) is = looked-has path items is
looked-has path (passes n number ∷ items) is = looked-has path items is
looked-has path (waits ∷ items) is = looked-has path items is
looked-has path (steps ticket owner deed time ∷ items) is = looked-has path items is
looked-has path (ends n number owner ended ∷ items) is = looked-has path items is
looked-has path (changes n change ∷ items) is = looked-has path items is
looked-has path (leaves ticket owner ∷ items) is = looked-has path items is

-- Of the first of these looks, all of which are of a kind, some is at a path. Then the first look at it is of
-- this kind, and saw how things stood then.
pub record FirstLook (K : Seen → Type 0) (path : List ℕ) (stand : Stand) : Type 0 where
  pub seen : Seen
  pub kind : K seen
  pub at : path_of seen ≡ path
  pub saw : IsSeenIn stand seen

pub first-seen : (meaning : Meaning) (n : ℕ) (K : Seen → Type 0) (path : List ℕ) (stand : Stand)
    (items : List Item) (first second : List Seen) → seen_in items ≡ first ++ second
    → FitsAll meaning stand items → AllOf n items → AllSeen K first → HasPath path first
    → FirstLook K path (stand_after stand (happened_all (until_look path items)))
first-seen meaning n K path stand [] [] second is fits of kinds has = absurd has
first-seen meaning n K path stand [] (one ∷ first) second is fits of kinds has = absurd cc
first-seen meaning n K path stand (looks m seen ∷ items) [] second is fits of kinds has = absurd has
first-seen meaning n K path stand (looks m seen ∷ items) (one ∷ first) second is fits of kinds has =
    let same : one ≡ seen = cc in
    let rest : seen_in items ≡ first ++ second = cc in
    by (bytes_eq (path_of seen) path) refl (subst K same kinds.0)
    (subst (λ s. (path_of s ≡ path) ⊎ HasPath path first) same has)
    (first-seen meaning n K path (stand_after stand (happened (looks m seen))) items first second rest fits.1
    of.1 kinds.1)
  where
    by : (b : Bool) → bytes_eq (path_of seen) path ≡ b → K seen
        → (path_of seen ≡ path) ⊎ HasPath path first
        → (HasPath path first → FirstLook K path
        (stand_after (stand_after stand (happened (looks m seen))) (happened_all (until_look path items))))
        → FirstLook K path
        (stand_after stand (happened_all (if b then [] else looks m seen ∷ until_look path items)))
    by true here kind given more =
        record { seen = seen; kind = kind; at = (bytes_eq-Decides (path_of seen) path).0 here; saw = fits.0 }
    by false here kind (inl same) more =
        absurd (false≢true (sym here ∙ (bytes_eq-Decides (path_of seen) path).1 same))
    by false here kind (inr later) more = more later
first-seen meaning n K path stand (steps ticket owner deed time ∷ items) first second is fits of kinds has =
    first-seen meaning n K path (stand_after stand (happened (steps ticket owner deed time))) items first
    second is fits.1 of.1 kinds has
first-seen meaning n K path stand (keeps m ∷ items) first second is fits of kinds has = absurd of.0
first-seen meaning n K path stand (refuses m number what ∷ items) first second is fits of kinds has = absurd of.0
first-seen meaning n K path stand (starts m number ticket owner cmd ∷ items) first second is fits of kinds has = absurd of.0
first-seen meaning n K path stand (passes m number ∷ items) first second is fits of kinds has = absurd of.0
first-seen meaning n K path stand (waits ∷ items) first second is fits of kinds has = absurd of.0
first-seen meaning n K path stand (ends m number owner ended ∷ items) first second is fits of kinds has = absurd of.0
first-seen meaning n K path stand (changes m change ∷ items) first second is fits of kinds has = absurd of.0
first-seen meaning n K path stand (leaves ticket owner ∷ items) first second is fits of kinds has = absurd of.0

-- steps leave a path alone
abbrev pub StepLeaves : List ℕ → Item → Type 0
StepLeaves path (steps ticket owner deed time) = LeavesAlone path (at_time time (changes_of deed))
StepLeaves path (looks n seen) = Unit {0}
StepLeaves path (keeps n) = Unit {0}
StepLeaves path (refuses n number what) = Unit {0}
StepLeaves path (starts n number ticket owner cmd) = Unit {0}
StepLeaves path (passes n number) = Unit {0}
StepLeaves path waits = Unit {0}
StepLeaves path (ends n number owner ended) = Unit {0}
StepLeaves path (changes n change) = Unit {0}
StepLeaves path (leaves ticket owner) = Unit {0}

abbrev pub AllLeave : List ℕ → List Item → Type 0
AllLeave path [] = Unit {0}
AllLeave path (item ∷ items) = StepLeaves path item × AllLeave path items

pub leave-last : (path : List ℕ) (items : List Item) (item : Item) → AllLeave path items
    → StepLeaves path item → AllLeave path (items ++ item ∷ [])
leave-last path [] item all is = (is, tt)
leave-last path (one ∷ items) item all is = (all.0, leave-last path items item all.1 is)

-- then each look at it saw the same
pub all-saw : (meaning : Meaning) (n : ℕ) (path : List ℕ) (stand : Stand) (items : List Item)
    → FitsAll meaning stand items → AllOf n items → AllLeave path items
    → AllSeen (λ s. path_of s ≡ path → SawWhen (when_of (stand.files path)) s) (seen_in items)
all-saw meaning n path stand [] fits of leave = tt
all-saw meaning n path stand (looks m seen ∷ items) fits of leave = (
  (λ same. saw-when stand seen path fits.0 same),
  all-saw meaning n path (stand_after stand (happened (looks m seen))) items fits.1 of.1 leave.1,
)
all-saw meaning n path stand (steps ticket owner deed time ∷ items) fits of leave =
    let then_stand = stand_after stand (happened (steps ticket owner deed time)) in
    let same : then_stand.files path ≡ stand.files path =
    left_alone path stand.files (at_time time (changes_of deed)) leave.0 in
    subst (λ (f : Option Filed). AllSeen (λ s. path_of s ≡ path → SawWhen (when_of f) s) (seen_in items)) same
    (all-saw meaning n path then_stand items fits.1 of.1 leave.1)
all-saw meaning n path stand (keeps m ∷ items) fits of leave = absurd of.0
all-saw meaning n path stand (refuses m number what ∷ items) fits of leave = absurd of.0
all-saw meaning n path stand (starts m number ticket owner cmd ∷ items) fits of leave = absurd of.0
all-saw meaning n path stand (passes m number ∷ items) fits of leave = absurd of.0
all-saw meaning n path stand (waits ∷ items) fits of leave = absurd of.0
all-saw meaning n path stand (ends m number owner ended ∷ items) fits of leave = absurd of.0
all-saw meaning n path stand (changes m change ∷ items) fits of leave = absurd of.0
all-saw meaning n path stand (leaves ticket owner ∷ items) fits of leave = absurd of.0

-- the looks of items, one item more
pub seen-last : (items : List Item) (item : Item) → seen_in (items ++ item ∷ []) ≡ seen_in items ++ seen_of item
seen-last [] (looks n seen) = refl
seen-last [] (keeps n) = refl
seen-last [] (refuses n number what) = refl
seen-last [] (starts n number ticket owner cmd) = refl
seen-last [] (passes n number) = refl
seen-last [] waits = refl
seen-last [] (steps ticket owner deed time) = refl
seen-last [] (ends n number owner ended) = refl
seen-last [] (changes n change) = refl
seen-last [] (leaves ticket owner) = refl
seen-last (one ∷ items) item =
    ap (λ l. seen_of one ++ l) (seen-last items item)
    ∙ sym (append_assoc (seen_of one) (seen_in items) (seen_of item))
