-- What a veil tells behind its calls.
use Rattle.std.proofs.Common.{◌≡◌, ◌⊎◌, inl, inr, ℕ, ◌+◌, ◌<◌, ◌≤◌, Bool, true, false, not, ◌||◌, cond}
use Rattle.std.proofs.Common.{List, [], ◌∷◌, ◌++◌, map, filter, flat_map, Option, Some, None, Result, Ok, Err, OnErr}
use Rattle.std.proofs.Common.{refl, sym, ap, ap₂, ◌∙◌, subst, append_assoc, if◌then◌else◌, arith}
use Rattle.std.proofs.lemmas.Bool.{false≢true}
use Rattle.std.proofs.lemmas.List.{append-nil}
use Rattle.std.proofs.lemmas.List.Elements.{filter-append}
use Rattle.std.proofs.lemmas.List.Concat.{flat_map-append}
use Rattle.std.specs.Option.{option_map}
use Rattle.std.specs.Str.{bytes_eq}
use Rattle.mk_bytes.specs.Texts.{is_among}
use Rattle.mk_filemon.proofs.EscapeLemmas.{cases}
use Rattle.mk_filemon.proofs.PathLemmas.{same_bytes}
use Rattle.mk_world.proofs.CallLemmas.{adds_nothing, adds_own, after_all-append, no_tickets}
use Rattle.mk_world.proofs.ChangeLemmas.{effected_all-append}
use Rattle.mk_world.proofs.ChildLemmas.{tickets_of-stepped}
use Rattle.mk_world.proofs.IdleLemmas.{adds_alone}
use Rattle.mk_world.specs.Calls.{Adds, AddsEvents, AreSteps, OwnLeft, OwnNothing, OwnRead, OwnTime, left_all, when_of}
use Rattle.mk_world.specs.Causes.{HasCause, Rose, last_count}
use Rattle.mk_world.specs.History.{Effect, FileMap, State, after, after_all, contents, effected, effected_all, effects, filed, first_state, of_file, state_of, tickets_of}
use Rattle.mk_world.specs.Talks.{Meaning}
use Rattle.mk_world.specs.Told.{Told}
use Rattle.mk_world.specs.declared.history.Child.{Child}
use Rattle.mk_world.specs.declared.history.File.{File}
use Rattle.mk_world.specs.declared.history.Happening.{Happening}
use Rattle.mk_world.specs.declared.history.Happening.TheVariants.{Edit, Look, Step}
use Rattle.mk_world.specs.declared.history.History.{History}
use Rattle.mk_world.specs.declared.time.When.{When}
use Rattle.mk_world.specs.declared.time.When.TheVariants.{Missing}
use Rattle.mk_veil.specs.Idle.{veiled-idle}
use Rattle.mk_veil.specs.Veiled.{Paths, are_none, bare, edit_of, seen, told_by, veiled, visible}

-- the files behind events are those behind their changes

all_effects : List Happening → List Effect
all_effects events = flat_map effects events

files-after : (state : State) (events : List Happening)
    → (after_all state events).files ≡ effected_all state.files (flat_map effects events)
files-after state [] = refl
files-after state (event ∷ events) =
    files-after (after state event) events
    ∙ sym (effected_all-append state.files (effects event) (flat_map effects events))

-- what edits change is what they are made of
edits-effects : (all : List Effect) → flat_map effects (map edit_of all) ≡ all
edits-effects [] = refl
edits-effects (effect ∷ all) = ap (λ rest. effect ∷ rest) (edits-effects all)

seen-effects : (hidden : Paths) (events : List Happening)
    → flat_map effects (flat_map (seen hidden) events) ≡ visible hidden (flat_map effects events)
seen-effects hidden [] = refl
seen-effects hidden (event ∷ events) =
    flat_map-append effects (seen hidden event) (flat_map (seen hidden) events)
    ∙ ap₂ (λ (one other : List Effect). one ++ other) (edits-effects (visible hidden (effects event)))
    (seen-effects hidden events)
    ∙ sym (filter-append (λ effect. not (is_among hidden effect.path)) (effects event) (flat_map effects events))

looks-effects : (looked : Paths) → flat_map effects (map Look looked) ≡ []
looks-effects [] = refl
looks-effects (path ∷ looked) = looks-effects looked

bare-files : (hidden : Paths) (files : List File)
    → map of_file (bare hidden files) ≡ visible hidden (map of_file files)
bare-files hidden [] = refl
bare-files hidden (file ∷ files) =
    cases (is_among hidden file.path)
    (λ is. rw is (bare-files hidden files))
    (λ off. rw off (ap (λ rest. of_file file ∷ rest) (bare-files hidden files)))

-- changes of paths that are not hidden leave the hidden ones alone
still-missing : (hidden : Paths) (all : List Effect) (files : FileMap) (path : List ℕ)
    → is_among hidden path ≡ true → effected_all files (visible hidden all) path ≡ files path
still-missing hidden [] files path is = refl
still-missing hidden (effect ∷ all) files path is =
    cases (is_among hidden effect.path)
    (λ here. rw here (still-missing hidden all files path is))
    (λ off. rw off (still-missing hidden all (effected files effect) path is
    ∙ cases (bytes_eq effect.path path)
    (λ same. let both : true ≡ false =
    sym is ∙ ap (is_among hidden) (sym (same_bytes effect.path path same)) ∙ off in absurd cc)
    (λ apart. rw apart refl)))

-- and do all that is done to the others
as-below : (hidden : Paths) (all : List Effect) (files below : FileMap) (path : List ℕ)
    → is_among hidden path ≡ false → files path ≡ below path
    → effected_all files (visible hidden all) path ≡ effected_all below all path
as-below hidden [] files below path off same = same
as-below hidden (effect ∷ all) files below path off same =
    cases (is_among hidden effect.path)
    (λ here. rw here (as-below hidden all files (effected below effect) path off
    (cases (bytes_eq effect.path path)
    (λ at. let both : true ≡ false =
    sym here ∙ ap (is_among hidden) (same_bytes effect.path path at) ∙ off in absurd cc)
    (λ apart. rw apart same))))
    (λ seen'. rw seen' (as-below hidden all (effected files effect) (effected below effect) path off
    (cases (bytes_eq effect.path path)
    (λ at. rw at refl)
    (λ apart. rw apart same))))

nothing : FileMap
nothing path = None

veiled-effects : (hidden looked : Paths) (history : History)
    → (state_of (veiled hidden looked history)).files
    ≡ effected_all (λ path. None)
    (visible hidden (map of_file history.base ++ flat_map effects history.events))
veiled-effects hidden looked history =
    let start = first_state (bare hidden history.base) in
    files-after start (flat_map (seen hidden) history.events ++ map Look looked)
    ∙ ap (effected_all start.files)
    (flat_map-append effects (flat_map (seen hidden) history.events) (map Look looked)
    ∙ ap₂ (λ (one other : List Effect). one ++ other) (seen-effects hidden history.events) (looks-effects looked)
    ∙ append-nil (visible hidden (flat_map effects history.events)))
    ∙ ap (λ all. effected_all (effected_all (λ path. None) all)
    (visible hidden (flat_map effects history.events))) (bare-files hidden history.base)
    ∙ sym (effected_all-append (λ path. None) (visible hidden (map of_file history.base))
    (visible hidden (flat_map effects history.events)))
    ∙ ap (effected_all (λ path. None))
    (sym (filter-append (λ effect. not (is_among hidden effect.path)) (map of_file history.base)
    (flat_map effects history.events)))

below-effects : (history : History)
    → (state_of history).files
    ≡ effected_all (λ path. None) (map of_file history.base ++ flat_map effects history.events)
below-effects history =
    files-after (first_state history.base) history.events
    ∙ sym (effected_all-append (λ path. None) (map of_file history.base) (flat_map effects history.events))

-- a hidden path is missing behind the veil
pub hidden-missing : (hidden looked : Paths) (history : History) (path : List ℕ) → is_among hidden path ≡ true
    → (state_of (veiled hidden looked history)).files path ≡ None
hidden-missing hidden looked history path is =
    ap (λ (files : FileMap). files path) (veiled-effects hidden looked history)
    ∙ still-missing hidden (map of_file history.base ++ flat_map effects history.events) (λ other. None) path is

-- any other is as it is below
pub visible-below : (hidden looked : Paths) (history : History) (path : List ℕ) → is_among hidden path ≡ false
    → (state_of (veiled hidden looked history)).files path ≡ (state_of history).files path
visible-below hidden looked history path off =
    ap (λ (files : FileMap). files path) (veiled-effects hidden looked history)
    ∙ as-below hidden (map of_file history.base ++ flat_map effects history.events) (λ other. None)
    (λ other. None) path off refl
    ∙ sym (ap (λ (files : FileMap). files path) (below-effects history))

-- calls below

steps-tickets : (state : State) (events : List Happening) → AreSteps events
    → tickets_of (after_all state events).children ≡ tickets_of state.children
steps-tickets state [] steps = refl
steps-tickets state (event ∷ events) steps =
    let step = steps.0 in
    steps-tickets (after state event) events steps.1
    ∙ ap (λ one. tickets_of (after state one).children) step.4
    ∙ tickets_of-stepped step.0 step.2 state.children

-- own events that leave the children
abbrev LeavesChildren : (State → List Happening → Type 0) → Type 0
LeavesChildren Own =
    (state : State) (own : List Happening) → Own state own
    → (after_all state own).children ≡ state.children

children-below : {meaning : Meaning} {Own : State → List Happening → Type 0} {old new : History}
    → LeavesChildren Own → AddsEvents meaning Own old new
    → tickets_of (state_of new).children ≡ tickets_of (state_of old).children
children-below {meaning} {Own} {old} {new} leaves adds =
    let start = state_of old in
    let then_own = after_all start adds.early in
    let end = after_all then_own adds.own in
    let same : state_of new ≡ after_all start (adds.early ++ (adds.own ++ adds.late)) =
    ap₂ (λ (base : List File) (events : List Happening). after_all (first_state base) events) adds.base adds.events
    ∙ after_all-append (first_state old.base) old.events (adds.early ++ (adds.own ++ adds.late)) in
    ap (λ (s : State). tickets_of s.children) same
    ∙ ap (λ (s : State). tickets_of s.children) (after_all-append start adds.early (adds.own ++ adds.late))
    ∙ ap (λ (s : State). tickets_of s.children) (after_all-append then_own adds.own adds.late)
    ∙ steps-tickets end adds.late adds.late_steps
    ∙ ap tickets_of (leaves then_own adds.own adds.is_own)
    ∙ steps-tickets start adds.early adds.early_steps

none-is : (children : List Child) → are_none children ≡ true → children ≡ []
none-is [] is = refl
none-is (child ∷ children) is = absurd (false≢true is)

is-none : (children : List Child) → children ≡ [] → are_none children ≡ true
is-none children is = rw is refl

idle-before : (old new : History)
    → tickets_of (state_of new).children ≡ tickets_of (state_of old).children
    → are_none (state_of new).children ≡ true → are_none (state_of old).children ≡ true
idle-before old new same is =
    is-none (state_of old).children
    (no_tickets (state_of old).children
    (sym same ∙ ap tickets_of (none-is (state_of new).children is)))

-- What a call below that has these own events is for the veil, where both tell.
pub through : (meaning : Meaning) (hidden looked now : Paths) (silent : Bool) (Below Own : State → List Happening → Type 0)
    (before after : Option History) → LeavesChildren Below
    → ((old new : History) → are_none (state_of old).children ≡ true → AddsEvents meaning Below old new
    → AddsEvents meaning Own (veiled hidden looked old) (veiled hidden now new))
    → Adds meaning before after Below
    → Adds meaning (told_by hidden looked silent before) (told_by hidden now silent after) Own
through meaning hidden looked now silent Below Own None None leaves makes adds = tt
through meaning hidden looked now silent Below Own None (Some new) leaves makes adds = absurd adds
through meaning hidden looked now true Below Own (Some old) None leaves makes adds = tt
through meaning hidden looked now false Below Own (Some old) None leaves makes adds =
    told-none (told_by hidden looked false (Some old))
  where
    told-none : (one : Option History) → Told one None (AddsEvents meaning Own)
    told-none None = tt
    told-none (Some one) = tt
through meaning hidden looked now true Below Own (Some old) (Some new) leaves makes adds = tt
through meaning hidden looked now false Below Own (Some old) (Some new) leaves makes adds =
    by (are_none (state_of new).children) refl (are_none (state_of old).children) refl
    (idle-before old new (children-below leaves adds))
  where
    by : (b : Bool) → are_none (state_of new).children ≡ b → (a : Bool) → are_none (state_of old).children ≡ a
        → (are_none (state_of new).children ≡ true → are_none (state_of old).children ≡ true)
        → Told (if not a then None else Some (veiled hidden looked old))
        (if not b then None else Some (veiled hidden now new)) (AddsEvents meaning Own)
    by true is true was back = makes old new was adds
    by true is false was back = absurd (false≢true (sym was ∙ back is))
    by false is true was back = tt
    by false is false was back = tt

told-none : (Related : History → History → Type 0) (one : Option History) → Told one None Related
told-none Related None = tt
told-none Related (Some one) = tt

-- a silent veil tells nothing
pub silent-tells : (hidden looked : Paths) (below : Option History) → told_by hidden looked true below ≡ None
silent-tells hidden looked None = refl
silent-tells hidden looked (Some history) = refl

-- what a call is for a veil that is silent behind it
pub silenced : (meaning : Meaning) (hidden looked : Paths) (Own : State → List Happening → Type 0)
    (before after : Option History) → Adds meaning before (told_by hidden looked true after) Own
silenced meaning hidden looked Own before after =
    subst (λ (told : Option History). Adds meaning before told Own) (sym (silent-tells hidden looked after))
    (told-none (AddsEvents meaning Own) before)

looks-push : (looked : Paths) (path : List ℕ) → map Look (looked ++ path ∷ []) ≡ map Look looked ++ Look path ∷ []
looks-push [] path = refl
looks-push (first ∷ looked) path = ap (λ rest. Look first ∷ rest) (looks-push looked path)

-- one look more at a veil, where what is seen below stays as it is
look-more : (meaning : Meaning) (hidden looked : Paths) (path : List ℕ) (Own : State → List Happening → Type 0)
    (old new : History) → new.base ≡ old.base
    → flat_map (seen hidden) new.events ≡ flat_map (seen hidden) old.events
    → Own (state_of (veiled hidden looked old)) (Look path ∷ [])
    → AddsEvents meaning Own (veiled hidden looked old) (veiled hidden (looked ++ path ∷ []) new)
look-more meaning hidden looked path Own old new base events own =
    adds_own meaning Own (veiled hidden looked old) (veiled hidden (looked ++ path ∷ []) new) (Look path ∷ [])
    (ap (bare hidden) base)
    (ap₂ (λ (one other : List Happening). one ++ other) events (looks-push looked path)
    ∙ sym (append_assoc (flat_map (seen hidden) old.events) (map Look looked) (Look path ∷ [])))
    ((tt, tt), tt) own

-- a look at a hidden path
hidden-look : (meaning : Meaning) (hidden looked : Paths) (silent : Bool) (path : List ℕ)
    (Own : State → List Happening → Type 0) (below : Option History)
    → ((history : History) → Own (state_of (veiled hidden looked history)) (Look path ∷ []))
    → Adds meaning (told_by hidden looked silent below) (told_by hidden (looked ++ path ∷ []) silent below) Own
hidden-look meaning hidden looked silent path Own None own = tt
hidden-look meaning hidden looked true path Own (Some history) own = tt
hidden-look meaning hidden looked false path Own (Some history) own =
    by (are_none (state_of history).children)
  where
    by : (a : Bool) → Told (if not a then None else Some (veiled hidden looked history))
        (if not a then None else Some (veiled hidden (looked ++ path ∷ []) history)) (AddsEvents meaning Own)
    by true = look-more meaning hidden looked path Own history history refl refl (own history)
    by false = tt

pub hidden-read : (meaning : Meaning) (hidden looked : Paths) (silent : Bool) (path : List ℕ)
    (below : Option History) → is_among hidden path ≡ true
    → Adds meaning (told_by hidden looked silent below) (told_by hidden (looked ++ path ∷ []) silent below)
    (OwnRead path None)
hidden-read meaning hidden looked silent path below is =
    hidden-look meaning hidden looked silent path (OwnRead path None) below (λ history.
    (refl, sym (ap (option_map (λ file. file.bytes)) (hidden-missing hidden looked history path is))))

pub hidden-time : (meaning : Meaning) (hidden looked : Paths) (silent : Bool) (path : List ℕ)
    (below : Option History) → is_among hidden path ≡ true
    → Adds meaning (told_by hidden looked silent below) (told_by hidden (looked ++ path ∷ []) silent below)
    (OwnTime path Missing)
hidden-time meaning hidden looked silent path below is =
    hidden-look meaning hidden looked silent path (OwnTime path Missing) below (λ history.
    (refl, sym (ap when_of (hidden-missing hidden looked history path is))))

-- a look at another path, which goes through

one-look : (hidden : Paths) (old new : History) (path : List ℕ) → new.events ≡ old.events ++ Look path ∷ []
    → flat_map (seen hidden) new.events ≡ flat_map (seen hidden) old.events
one-look hidden old new path is =
    ap (flat_map (seen hidden)) is ∙ flat_map-append (seen hidden) old.events (Look path ∷ [])
    ∙ append-nil (flat_map (seen hidden) old.events)

tickets-none : (children : List Child) → are_none children ≡ true → tickets_of children ≡ []
tickets-none children is = ap tickets_of (none-is children is)

read-leaves : (path : List ℕ) (answer : Option (List ℕ)) → LeavesChildren (OwnRead path answer)
read-leaves path answer state own is = ap (λ (l : List Happening). (after_all state l).children) is.0

time-leaves : (path : List ℕ) (when : When) → LeavesChildren (OwnTime path when)
time-leaves path when state own is = ap (λ (l : List Happening). (after_all state l).children) is.0

pub visible-read : (meaning : Meaning) (hidden looked : Paths) (silent : Bool) (path : List ℕ)
    (answer : Option (List ℕ)) (before after : Option History) → is_among hidden path ≡ false
    → Adds meaning before after (OwnRead path answer)
    → Adds meaning (told_by hidden looked silent before) (told_by hidden (looked ++ path ∷ []) silent after)
    (OwnRead path answer)
visible-read meaning hidden looked silent path answer before after off adds =
    through meaning hidden looked (looked ++ path ∷ []) silent (OwnRead path answer) (OwnRead path answer)
    before after (read-leaves path answer) (λ old new idle below.
    let alone = adds_alone
    (λ state own is none. subst (λ l. (after_all state l).children ≡ []) (sym is.0) none)
    (tickets-none (state_of old).children idle) below in
    look-more meaning hidden looked path (OwnRead path answer) old new alone.base
    (one-look hidden old new path (alone.events ∙ ap (λ l. old.events ++ l) alone.is_own.0)) (
      refl,
      alone.is_own.1
          ∙ sym (ap (option_map (λ file. file.bytes)) (visible-below hidden looked old path off)),
    ))
    adds

pub visible-time : (meaning : Meaning) (hidden looked : Paths) (silent : Bool) (path : List ℕ)
    (when : When) (before after : Option History) → is_among hidden path ≡ false
    → Adds meaning before after (OwnTime path when)
    → Adds meaning (told_by hidden looked silent before) (told_by hidden (looked ++ path ∷ []) silent after)
    (OwnTime path when)
visible-time meaning hidden looked silent path when before after off adds =
    through meaning hidden looked (looked ++ path ∷ []) silent (OwnTime path when) (OwnTime path when)
    before after (time-leaves path when) (λ old new idle below.
    let alone = adds_alone
    (λ state own is none. subst (λ l. (after_all state l).children ≡ []) (sym is.0) none)
    (tickets-none (state_of old).children idle) below in
    look-more meaning hidden looked path (OwnTime path when) old new alone.base
    (one-look hidden old new path (alone.events ∙ ap (λ l. old.events ++ l) alone.is_own.0))
    (refl, alone.is_own.1 ∙ sym (ap when_of (visible-below hidden looked old path off))))
    adds

nothing-leaves : LeavesChildren OwnNothing
nothing-leaves state own is = ap (λ (l : List Happening). (after_all state l).children) is

-- a call that was refused below
pub refused-below : (meaning : Meaning) (hidden looked : Paths) (silent : Bool) (before after : Option History)
    → Adds meaning before after OwnNothing
    → Adds meaning (told_by hidden looked silent before) (told_by hidden looked silent after) OwnNothing
refused-below meaning hidden looked silent before after adds =
    through meaning hidden looked looked silent OwnNothing OwnNothing before after nothing-leaves
    (λ old new idle below.
    let alone = adds_alone
    (λ state own is none. subst (λ l. (after_all state l).children ≡ []) (sym is) none)
    (tickets-none (state_of old).children idle) below in
    let events : new.events ≡ old.events =
    alone.events ∙ ap (λ l. old.events ++ l) alone.is_own ∙ append-nil old.events in
    adds_own meaning OwnNothing (veiled hidden looked old) (veiled hidden looked new) []
    (ap (bare hidden) alone.base)
    (ap (λ l. flat_map (seen hidden) l ++ map Look looked) events
    ∙ sym (append-nil (flat_map (seen hidden) old.events ++ map Look looked)))
    tt refl)
    adds

-- nothing was done
pub nothing-done : (meaning : Meaning) (hidden looked : Paths) (told : Option History) → Adds meaning told told OwnNothing
nothing-done meaning hidden looked None = tt
nothing-done meaning hidden looked (Some history) = adds_nothing meaning OwnNothing history refl

-- there is nothing to give up
pub nothing-left : (meaning : Meaning) (hidden looked : Paths) (silent : Bool) (below : Option History)
    → Adds meaning (told_by hidden looked silent below) (told_by hidden looked silent below) OwnLeft
nothing-left meaning hidden looked silent None = tt
nothing-left meaning hidden looked true (Some history) = tt
nothing-left meaning hidden looked false (Some history) = by (are_none (state_of history).children)
  where
    by : (a : Bool) → Told (if not a then None else Some (veiled hidden looked history))
        (if not a then None else Some (veiled hidden looked history)) (AddsEvents meaning OwnLeft)
    by true =
        adds_nothing meaning OwnLeft (veiled hidden looked history)
        (sym (ap left_all (veiled-idle hidden looked history)))
    by false = tt

-- The causes of faults, where those of the veil are counted beside those below.
pub cause-below : {T : Type 0} {E : Type 0} (failed : E) (before after own : ℕ) (result : Result T E)
    → HasCause failed before after result → HasCause failed (before + own) (after + own) result
cause-below failed before after own result cause = record {
  kept = (let k = cause.kept in omega arith);
  answered = λ less. cause.answered (omega arith);
  rose = λ is. by (cause.rose is);
}
  where
    by : Rose before after → Rose (before + own) (after + own)
    by (inl less) = inl (omega arith)
    by (inr last) = inr (omega arith)

pub cause-own : {T : Type 0} {E : Type 0} (failed : E) (below before after : ℕ) (result : Result T E)
    → before ≤ after → Rose before after → result ≡ Err failed
    → HasCause failed (below + before) (below + after) result
cause-own failed below before after result kept rose is = record {
  kept = omega arith;
  answered = λ less. is;
  rose = λ same. by rose;
}
  where
    by : Rose before after → Rose (below + before) (below + after)
    by (inl less) = inl (omega arith)
    by (inr last) = inr (omega arith)

pub cause-none : {T : Type 0} {E : Type 0} (failed : E) (count : ℕ) (result : T)
    → HasCause failed count count (Ok result)
cause-none failed count result = record {
  kept = omega arith;
  answered = λ less. absurd (omega arith);
  rose = λ is. absurd cc;
}
