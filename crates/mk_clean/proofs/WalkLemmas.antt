-- Through the events of a job: its steps find what stands at the end.
use Rattle.std.proofs.Common.{◌≡◌, ◌∙◌, ◌⊎◌, ℕ, ◌<◌, ◌≤◌, ◌==◌, List, [], ◌∷◌, ◌++◌, Option, Some, None, Bool, true, false, if◌then◌else◌, inl, inr, refl, sym, ap, subst, lt_irrefl, lt_of_lt_of_le, le_trans}
use Rattle.std.proofs.lemmas.Bool.{false_from_ne_true}
use Rattle.std.proofs.lemmas.Slice.Eq.{bytes_eq-Decides}
use Rattle.std.specs.List.{Contains}
use Rattle.std.specs.Option.{option_map}
use Rattle.std.specs.Str.{bytes_eq}
use Rattle.mk_world.specs.Records.{EachLook, LookAt}
use Rattle.mk_meta.specs.TrueHistory.{JobEvent, begun, did, ended, if_same, job_event, job_events, LeavesAlone, Alone}
use Rattle.mk_world.specs.Deeds.{Spot, saw, changes, Holds, IsRight, Meets}
use Rattle.mk_world.specs.History.{Filed, FileMap, Effect, State, effects, at_time, filed, effected, effected_all, contents, last_time, after, after_all, NotEarlier, MayStep, MayAll}
use Rattle.mk_world.specs.Outer.{Over, over_spot, over_spots, over_deed, over_deeds, or_stood, on}
use Rattle.mk_world.specs.Talks.{Meaning, NextOf}
use Rattle.mk_world.specs.declared.history.Child.{Child}
use Rattle.mk_world.specs.declared.history.Happening.{Happening}
use Rattle.mk_world.specs.declared.history.Happening.TheVariants.{Edit, Look, Stamp, Put, Gone, Ask, Start, Step, End, Left}
use Rattle.mk_world.specs.declared.step.Deed.{Deed}
use Rattle.mk_world.proofs.OuterLemmas.{on-over_spots}

-- the files behind events
abbrev pub files_after : FileMap → List Happening → FileMap
files_after files [] = files
files_after files (event ∷ events) = files_after (effected_all files (effects event)) events

pub files-after_all : (state : State) (events : List Happening)
    → (after_all state events).files ≡ files_after state.files events
files-after_all state [] = refl
files-after_all state (event ∷ events) = files-after_all (after state event) events

-- each step found what stood there at its moment
abbrev pub RightNow : FileMap → Happening → Type 0
RightNow files (Edit path bytes time) = Unit {0}
RightNow files (Look path) = Unit {0}
RightNow files (Stamp path bytes time) = Unit {0}
RightNow files (Put path bytes time) = Unit {0}
RightNow files (Gone path time) = Unit {0}
RightNow files (Ask cmd steps) = Unit {0}
RightNow files (Start ticket owner cmd) = Unit {0}
RightNow files (Step ticket owner deed time) = IsRight (contents files) deed
RightNow files (End ticket owner) = Unit {0}
RightNow files (Left ticket owner) = Unit {0}

abbrev pub RightAll : FileMap → List Happening → Type 0
RightAll files [] = Unit {0}
RightAll files (event ∷ events) = RightNow files event × RightAll (effected_all files (effects event)) events

step_right : (next : NextOf) (state : State) (owner : ℕ) (deed : Deed) (child : Option Child)
    → MayStep next (contents state.files) owner deed child → IsRight (contents state.files) deed
step_right next state owner deed None may = absurd may
step_right next state owner deed (Some child) may = may.right

pub lawful_right : (meaning : Meaning) (state : State) (events : List Happening)
    → MayAll meaning state events → RightAll state.files events
lawful_right meaning state [] may = tt
lawful_right meaning state (Edit path bytes time ∷ events) may =
    (tt, lawful_right meaning (after state (Edit path bytes time)) events may.1)
lawful_right meaning state (Look path ∷ events) may =
    (tt, lawful_right meaning (after state (Look path)) events may.1)
lawful_right meaning state (Stamp path bytes time ∷ events) may =
    (tt, lawful_right meaning (after state (Stamp path bytes time)) events may.1)
lawful_right meaning state (Put path bytes time ∷ events) may =
    (tt, lawful_right meaning (after state (Put path bytes time)) events may.1)
lawful_right meaning state (Gone path time ∷ events) may =
    (tt, lawful_right meaning (after state (Gone path time)) events may.1)
lawful_right meaning state (Ask cmd steps ∷ events) may =
    (tt, lawful_right meaning (after state (Ask cmd steps)) events may.1)
lawful_right meaning state (Start ticket owner cmd ∷ events) may =
    (tt, lawful_right meaning (after state (Start ticket owner cmd)) events may.1)
lawful_right meaning state (Step ticket owner deed time ∷ events) may = (
  step_right meaning.next state owner deed _ may.0.1,
  lawful_right meaning (after state (Step ticket owner deed time)) events may.1,
)
lawful_right meaning state (End ticket owner ∷ events) may =
    (tt, lawful_right meaning (after state (End ticket owner)) events may.1)
lawful_right meaning state (Left ticket owner ∷ events) may =
    (tt, lawful_right meaning (after state (Left ticket owner)) events may.1)

-- all changes at a time or later
abbrev pub From : ℕ → List Effect → Type 0
From time [] = Unit {0}
From time (effect ∷ more) = (time ≤ effect.time) × From time more

abbrev pub FromAll : ℕ → List Happening → Type 0
FromAll time [] = Unit {0}
FromAll time (event ∷ events) = From time (effects event) × FromAll time events

not_earlier : (time clock : ℕ) (all : List Effect) → time ≤ clock → NotEarlier clock all
    → From time all × (time ≤ last_time clock all)
not_earlier time clock [] le later = (tt, le)
not_earlier time clock (effect ∷ more) le later =
    let rest = not_earlier time effect.time more (le_trans le later.0) later.1 in
    ((le_trans le later.0, rest.0), rest.1)

pub lawful_from : (meaning : Meaning) (time : ℕ) (state : State) (events : List Happening)
    → time ≤ state.clock → MayAll meaning state events → FromAll time events
lawful_from meaning time state [] le may = tt
lawful_from meaning time state (event ∷ events) le may =
    let rest = not_earlier time state.clock (effects event) le may.0.0 in
    (rest.0, lawful_from meaning time (after state event) events rest.1 may.1)

-- a file that is older than a time stood before all changes from then on

time_of : Option Filed → ℕ → ℕ
time_of None other = other
time_of (Some file) other = file.time

older_at : (here : Bool) (bytes : Option (List ℕ)) (time stamp : ℕ) (stood : Option Filed) (file : Filed)
    → file.time < stamp → stamp ≤ time → (if here then filed bytes time else stood) ≡ Some file
    → stood ≡ Some file
unfolding time_of
older_at false bytes time stamp stood file less le is = is
older_at true None time stamp stood file less le is = cc
older_at true (Some bytes) time stamp stood file less le is =
    let same : time ≡ file.time = ap (λ one. time_of one time) is in
    absurd (lt_irrefl file.time (lt_of_lt_of_le less (subst (λ k. stamp ≤ k) same le)))

older_one : (path : List ℕ) (file : Filed) (stamp : ℕ) → file.time < stamp → (files : FileMap)
    (all : List Effect) → From stamp all → effected_all files all path ≡ Some file
    → files path ≡ Some file
older_one path file stamp less files [] from is = is
older_one path file stamp less files (effect ∷ more) from is =
    older_at (bytes_eq effect.path path) effect.bytes effect.time stamp (files path) file less from.0
    (older_one path file stamp less (effected files effect) more from.1 is)

pub older : (path : List ℕ) (file : Filed) (stamp : ℕ) → file.time < stamp → (files : FileMap)
    (events : List Happening) → FromAll stamp events → files_after files events path ≡ Some file
    → files path ≡ Some file
older path file stamp less files [] from is = is
older path file stamp less files (event ∷ events) from is =
    older_one path file stamp less files (effects event) from.0
    (older path file stamp less (effected_all files (effects event)) events from.1 is)

-- paths that are left alone

pub left_alone : (path : List ℕ) (files : FileMap) (all : List Effect) → LeavesAlone path all
    → effected_all files all path ≡ files path
left_alone path files [] alone = refl
left_alone path files (effect ∷ more) alone =
    left_alone path (effected files effect) more alone.1
    ∙ ap (λ b. if b then filed effect.bytes effect.time else files path)
    (false_from_ne_true (bytes_eq effect.path path)
    (λ is. alone.0 ((bytes_eq-Decides effect.path path).0 is)))

-- what the changes so far left stands in the files
abbrev pub Tied : Over → FileMap → Type 0
Tied over files =
    (path : List ℕ) (stands : Option (List ℕ)) → over path ≡ Some stands → contents files path ≡ stands

abbrev pub Within : Over → List (List ℕ) → Type 0
Within over paths =
    (path : List ℕ) (stands : Option (List ℕ)) → over path ≡ Some stands → Contains paths path

abbrev pub CoversSpots : List (List ℕ) → List Spot → Type 0
CoversSpots paths [] = Unit {0}
CoversSpots paths (spot ∷ spots) = Contains paths spot.path × CoversSpots paths spots

abbrev pub Covers : List (List ℕ) → List Deed → Type 0
Covers paths [] = Unit {0}
Covers paths (deed ∷ deeds) = CoversSpots paths (changes deed) × Covers paths deeds

tied_at : (here : Bool) (bytes : Option (List ℕ)) (time : ℕ) (over : Option (Option (List ℕ)))
    (stood : Option Filed) (stands : Option (List ℕ))
    → (over ≡ Some stands → option_map (λ (file : Filed). file.bytes) stood ≡ stands)
    → (if here then Some bytes else over) ≡ Some stands
    → option_map (λ (file : Filed). file.bytes) (if here then filed bytes time else stood) ≡ stands
tied_at false bytes time over stood stands tied is = tied is
tied_at true None time over stood stands tied is = cc
tied_at true (Some bytes) time over stood stands tied is = cc

tied_put : (over : Over) (files : FileMap) (spot : Spot) (time : ℕ) → Tied over files
    → Tied (over_spot over spot)
    (effected files (record { path = spot.path; bytes = spot.bytes; time = time }))
tied_put over files spot time tied path stands is =
    tied_at (bytes_eq spot.path path) spot.bytes time (over path) (files path) stands (tied path stands) is

pub tied_puts : (over : Over) (files : FileMap) (spots : List Spot) (time : ℕ) → Tied over files
    → Tied (over_spots over spots) (effected_all files (at_time time spots))
tied_puts over files [] time tied = tied
tied_puts over files (spot ∷ spots) time tied =
    tied_puts (over_spot over spot)
    (effected files (record { path = spot.path; bytes = spot.bytes; time = time })) spots time
    (tied_put over files spot time tied)

within_at : (here : Bool) (bytes : Option (List ℕ)) (over : Option (Option (List ℕ)))
    (stands : Option (List ℕ)) (P : Type 0) → (here ≡ true → P) → (over ≡ Some stands → P)
    → (if here then Some bytes else over) ≡ Some stands → P
within_at true bytes over stands P first second is = first refl
within_at false bytes over stands P first second is = second is

within_puts : (over : Over) (paths : List (List ℕ)) (spots : List Spot) → CoversSpots paths spots
    → Within over paths → Within (over_spots over spots) paths
within_puts over paths [] covers within = within
within_puts over paths (spot ∷ spots) covers within =
    within_puts (over_spot over spot) paths spots covers.1
    (λ path stands is.
    within_at (bytes_eq spot.path path) spot.bytes (over path) stands (Contains paths path)
    (λ same. subst (Contains paths) ((bytes_eq-Decides spot.path path).0 same) covers.0)
    (within path stands) is)

-- What a look found: a file that stands was there before the job, and no file stands where it found none,
-- unless one was there before the job, so that there was no such look.
abbrev pub FoundAt : Option Filed → ℕ → Option (List ℕ) → Type 0
FoundAt None stamp None = Unit {0}
FoundAt None stamp (Some bytes) = ⊥
FoundAt (Some file) stamp bytes = file.time < stamp

abbrev pub Found : FileMap → ℕ → List ℕ → Option (List ℕ) → Type 0
Found files stamp path bytes = FoundAt (files path) stamp bytes

-- the steps of a job among its events
abbrev pub own_deeds : List JobEvent → List Deed
own_deeds [] = []
own_deeds (begun cmd ∷ events) = own_deeds events
own_deeds (did deed ∷ events) = deed ∷ own_deeds events
own_deeds (ended ∷ events) = own_deeds events

module _ (stamp : ℕ) (paths : List (List ℕ)) (seen : FileMap) where
  -- from here on, the job's steps are right at the end, and what they changed stands
  abbrev pub Claim : Over → FileMap → List Deed → FileMap → Type 0
  Claim over files deeds last =
      Tied over files → Within over paths → Covers paths deeds
      → EachLook (Found seen stamp) over deeds
      → Meets (on over (contents seen)) deeds × Tied (over_deeds over deeds) last

  pub other : (all : List Effect) (files : FileMap) (deeds : List Deed) (last : FileMap)
      → ((path : List ℕ) → Contains paths path → LeavesAlone path all)
      → ((over : Over) → Claim over (effected_all files all) deeds last)
      → (over : Over) → Claim over files deeds last
  other all files deeds last alone rest over tied within =
      rest over (λ path stands is.
      ap (option_map (λ (file : Filed). file.bytes))
      (left_alone path files all (alone path (within path stands is))) ∙ tied path stands is) within

  seen_at : (over : Option (Option (List ℕ))) (stood now : Option Filed) (bytes : Option (List ℕ))
      → ((stands : Option (List ℕ)) → over ≡ Some stands
      → option_map (λ (file : Filed). file.bytes) stood ≡ stands)
      → option_map (λ (file : Filed). file.bytes) stood ≡ bytes
      → (over ≡ None → FoundAt now stamp bytes)
      → ((file : Filed) → file.time < stamp → now ≡ Some file → stood ≡ Some file)
      → or_stood over (option_map (λ (file : Filed). file.bytes) now) ≡ bytes
  seen_at (Some stands) stood now bytes tied right fresh old = sym (tied stands refl) ∙ right
  seen_at None stood None None tied right fresh old = refl
  seen_at None stood None (Some bytes) tied right fresh old = absurd (fresh refl)
  seen_at None stood (Some file) bytes tied right fresh old =
      sym (ap (option_map (λ (one : Filed). one.bytes)) (old file (fresh refl) refl)) ∙ right

  seen_by : (over : Over) (files : FileMap) (spot : Option Spot)
      → ((path : List ℕ) (file : Filed) → file.time < stamp → seen path ≡ Some file
      → files path ≡ Some file)
      → Tied over files → Holds (contents files) spot → LookAt (Found seen stamp) over spot
      → Holds (on over (contents seen)) spot
  seen_by over files None old tied right fresh = tt
  seen_by over files (Some spot) old tied right fresh =
      seen_at (over spot.path) (files spot.path) (seen spot.path) spot.bytes (tied spot.path) right fresh
      (old spot.path)

  pub own : (deed : Deed) (time : ℕ) (files : FileMap) (deeds : List Deed) (last : FileMap)
      → ((path : List ℕ) (file : Filed) → file.time < stamp → seen path ≡ Some file
      → files path ≡ Some file)
      → IsRight (contents files) deed
      → ((over : Over) → Claim over (effected_all files (at_time time (changes deed))) deeds last)
      → (over : Over) → Claim over files (deed ∷ deeds) last
  own deed time files deeds last old right rest over tied within covers fresh =
      let behind = rest (over_deed over deed) (tied_puts over files (changes deed) time tied)
      (within_puts over paths (changes deed) covers.0 within) covers.1 fresh.1 in (
        (
          seen_by over files (saw deed) old tied right fresh.0,
          subst (λ store. Meets store deeds) (on-over_spots over (contents seen) (changes deed)) behind.0,
        ),
        behind.1,
      )

  -- an event that is no step of the job leaves its paths alone
  alone_other : (event : Happening) → job_event stamp event ≡ []
      → (((deed : Deed) × (job_event stamp event ≡ did deed ∷ []))
      ⊎ ((path : List ℕ) → Contains paths path → LeavesAlone path (effects event)))
      → (path : List ℕ) → Contains paths path → LeavesAlone path (effects event)
  alone_other event none (inl own_step) =
      let clash : [] ≡ did own_step.0 ∷ [] = sym none ∙ own_step.1 in absurd cc
  alone_other event none (inr alone) = alone

  step_turn : (ticket owner : ℕ) (deed : Deed) (time : ℕ) (mine : Bool) (files : FileMap)
      (events : List JobEvent) (last : FileMap) → (owner == stamp) ≡ mine
      → ((path : List ℕ) (file : Filed) → file.time < stamp → seen path ≡ Some file
      → files path ≡ Some file)
      → IsRight (contents files) deed
      → (((d : Deed) × (job_event stamp (Step ticket owner deed time) ≡ did d ∷ []))
      ⊎ ((path : List ℕ) → Contains paths path → LeavesAlone path (at_time time (changes deed))))
      → ((over : Over)
      → Claim over (effected_all files (at_time time (changes deed))) (own_deeds events) last)
      → (over : Over) → Claim over files (own_deeds (if_same mine (did deed) ++ events)) last
  step_turn ticket owner deed time true files events last is old right alone rest over =
      own deed time files (own_deeds events) last old right rest over
  step_turn ticket owner deed time false files events last is old right alone rest over =
      other (at_time time (changes deed)) files (own_deeds events) last
      (alone_other (Step ticket owner deed time) (ap (λ b. if_same b (did deed)) is) alone) rest over

  -- no deed, no change
  quiet : (mine : Bool) (event : JobEvent) (files : FileMap) (events : List JobEvent) (last : FileMap)
      → own_deeds (event ∷ events) ≡ own_deeds events
      → ((over : Over) → Claim over files (own_deeds events) last)
      → (over : Over) → Claim over files (own_deeds (if_same mine event ++ events)) last
  quiet true event files events last is rest over =
      subst (λ deeds. Claim over files deeds last) (sym is) (rest over)
  quiet false event files events last is rest over = rest over

  pub walk : (files : FileMap) (events : List Happening) (post : List ℕ → List Happening)
      → ((path : List ℕ) → files_after files (events ++ post path) path ≡ seen path)
      → ((path : List ℕ) → FromAll stamp (events ++ post path)) → RightAll files events
      → Alone stamp paths events → (over : Over)
      → Claim over files (own_deeds (job_events stamp events)) (files_after files events)
  walk files [] post at from right alone over = λ tied within covers fresh. (tt, tied)
  walk files (Edit path bytes time ∷ events) post at from right alone over =
      other (effects (Edit path bytes time)) files (own_deeds (job_events stamp events)) _
      (alone_other (Edit path bytes time) refl alone.0)
      (walk (effected_all files (effects (Edit path bytes time))) events post at (λ q. (from q).1) right.1
      alone.1) over
  walk files (Look path ∷ events) post at from right alone over =
      walk files events post at (λ q. (from q).1) right.1 alone.1 over
  walk files (Stamp path bytes time ∷ events) post at from right alone over =
      other (effects (Stamp path bytes time)) files (own_deeds (job_events stamp events)) _
      (alone_other (Stamp path bytes time) refl alone.0)
      (walk (effected_all files (effects (Stamp path bytes time))) events post at (λ q. (from q).1)
      right.1 alone.1) over
  walk files (Put path bytes time ∷ events) post at from right alone over =
      other (effects (Put path bytes time)) files (own_deeds (job_events stamp events)) _
      (alone_other (Put path bytes time) refl alone.0)
      (walk (effected_all files (effects (Put path bytes time))) events post at (λ q. (from q).1) right.1
      alone.1) over
  walk files (Gone path time ∷ events) post at from right alone over =
      other (effects (Gone path time)) files (own_deeds (job_events stamp events)) _
      (alone_other (Gone path time) refl alone.0)
      (walk (effected_all files (effects (Gone path time))) events post at (λ q. (from q).1) right.1
      alone.1) over
  walk files (Ask cmd steps ∷ events) post at from right alone over =
      other (effects (Ask cmd steps)) files (own_deeds (job_events stamp events)) _
      (alone_other (Ask cmd steps) refl alone.0)
      (walk (effected_all files (effects (Ask cmd steps))) events post at (λ q. (from q).1) right.1
      alone.1) over
  walk files (Start ticket owner cmd ∷ events) post at from right alone over =
      quiet (owner == stamp) (begun cmd) files (job_events stamp events) _ refl
      (walk files events post at (λ q. (from q).1) right.1 alone.1) over
  walk files (Step ticket owner deed time ∷ events) post at from right alone over =
      step_turn ticket owner deed time (owner == stamp) files (job_events stamp events) _ refl
      (λ q file less is.
      older q file stamp less files (Step ticket owner deed time ∷ events ++ post q) (from q) (at q ∙ is))
      right.0 alone.0
      (walk (effected_all files (effects (Step ticket owner deed time))) events post at (λ q. (from q).1)
      right.1 alone.1) over
  walk files (End ticket owner ∷ events) post at from right alone over =
      quiet (owner == stamp) ended files (job_events stamp events) _ refl
      (walk files events post at (λ q. (from q).1) right.1 alone.1) over
  walk files (Left ticket owner ∷ events) post at from right alone over =
      walk files events post at (λ q. (from q).1) right.1 alone.1 over
