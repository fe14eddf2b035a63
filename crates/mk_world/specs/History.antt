-- What has happened in a world, how things stand then, and what may happen next.
use Rattle.std.specs.Prelude.{◌≡◌, ℕ, ◌<◌, ◌≤◌, ◌==◌, List, [], ◌∷◌, ◌++◌, map, Option, Some, None}
use Rattle.std.specs.Prelude.{if◌then◌else◌}
use Rattle.std.specs.Option.{option_map}
use Rattle.std.specs.Str.{bytes_eq}
use Rattle.mk_world.specs.Deeds.{Store, Spot, changes, IsRight}
use Rattle.mk_world.specs.Talks.{Meaning, NextOf, answer, deed_at, does, IsOver}
use Rattle.mk_world.specs.declared.history.Child.{Child}
use Rattle.mk_world.specs.declared.history.File.{File}
use Rattle.mk_world.specs.declared.history.Happening.{Happening}
use Rattle.mk_world.specs.declared.history.Happening.TheVariants.{Edit, Look, Stamp, Put, Gone, Ask}
use Rattle.mk_world.specs.declared.history.Happening.TheVariants.{Start, Step, End, Left}
use Rattle.mk_world.specs.declared.history.History.{History}
use Rattle.mk_world.specs.declared.history.Timed.{Timed}
use Rattle.mk_world.specs.declared.step.Deed.{Deed}
use Rattle.mk_world.specs.declared.step.Next.TheVariants.{More}
use Rattle.mk_world.specs.declared.step.Request.{Request}

-- a file's bytes, and the time of its last change
pub record Filed : Type 0 where
  pub bytes : List ℕ
  pub time : ℕ

abbrev pub FileMap : Type 0
FileMap = List ℕ → Option Filed

-- one path changed, to these bytes or to missing
pub record Effect : Type 0 where
  pub path : List ℕ
  pub bytes : Option (List ℕ)
  pub time : ℕ

-- the two changes of a move share a time
abbrev pub at_time : ℕ → List Spot → List Effect
at_time time [] = []
at_time time (spot ∷ spots) =
    record { path = spot.path; bytes = spot.bytes; time = time } ∷ at_time time spots

abbrev pub timed_effects : List Timed → List Effect
timed_effects [] = []
timed_effects (step ∷ steps) = at_time step.time (changes step.deed) ++ timed_effects steps

abbrev pub effects : Happening → List Effect
effects (Edit path bytes time) = record { path = path; bytes = bytes; time = time } ∷ []
effects (Look path) = []
effects (Stamp path bytes time) = record { path = path; bytes = Some bytes; time = time } ∷ []
effects (Put path bytes time) = record { path = path; bytes = Some bytes; time = time } ∷ []
effects (Gone path time) = record { path = path; bytes = None; time = time } ∷ []
effects (Ask cmd steps) = timed_effects steps
effects (Start ticket owner cmd) = []
effects (Step ticket owner deed time) = at_time time (changes deed)
effects (End ticket owner) = []
effects (Left ticket owner) = []

abbrev pub filed : Option (List ℕ) → ℕ → Option Filed
filed None time = None
filed (Some bytes) time = Some (record { bytes = bytes; time = time })

abbrev pub effected : FileMap → Effect → FileMap
effected files effect =
    λ path. if bytes_eq effect.path path then filed effect.bytes effect.time else files path

abbrev pub effected_all : FileMap → List Effect → FileMap
effected_all files [] = files
effected_all files (effect ∷ more) = effected_all (effected files effect) more

-- the bytes alone
abbrev pub contents : FileMap → Store
contents files = λ path. option_map (λ file. file.bytes) (files path)

abbrev pub last_time : ℕ → List Effect → ℕ
last_time time [] = time
last_time time (effect ∷ more) = last_time effect.time more

-- how things stand: the files, the time of the last change, that of the last stamp, and the
-- children that run
pub record State : Type 0 where
  pub files : FileMap
  pub clock : ℕ
  pub stamped : ℕ
  pub children : List Child

abbrev pub child_in : List Child → ℕ → Option Child
child_in [] ticket = None
child_in (child ∷ children) ticket =
    if child.ticket == ticket then Some child else child_in children ticket

abbrev pub without_child : ℕ → List Child → List Child
without_child ticket [] = []
without_child ticket (child ∷ children) =
    if child.ticket == ticket then children else child ∷ without_child ticket children

-- a child has done one step more
abbrev pub stepped : ℕ → Deed → List Child → List Child
stepped ticket deed [] = []
stepped ticket deed (child ∷ children) =
    if child.ticket == ticket then record child { deeds = child.deeds ++ deed ∷ [] } ∷ children
    else child ∷ stepped ticket deed children

abbrev pub children_after : List Child → Happening → List Child
children_after children (Start ticket owner cmd) =
    children ++ record { ticket = ticket; owner = owner; cmd = cmd; deeds = [] } ∷ []
children_after children (Step ticket owner deed time) = stepped ticket deed children
children_after children (End ticket owner) = without_child ticket children
children_after children (Left ticket owner) = without_child ticket children
children_after children (Edit path bytes time) = children
children_after children (Look path) = children
children_after children (Stamp path bytes time) = children
children_after children (Put path bytes time) = children
children_after children (Gone path time) = children
children_after children (Ask cmd steps) = children

-- the time of the last stamp behind an event
abbrev pub stamped_after : ℕ → Happening → ℕ
stamped_after stamped (Stamp path bytes time) = time
stamped_after stamped (Edit path bytes time) = stamped
stamped_after stamped (Look path) = stamped
stamped_after stamped (Put path bytes time) = stamped
stamped_after stamped (Gone path time) = stamped
stamped_after stamped (Ask cmd steps) = stamped
stamped_after stamped (Start ticket owner cmd) = stamped
stamped_after stamped (Step ticket owner deed time) = stamped
stamped_after stamped (End ticket owner) = stamped
stamped_after stamped (Left ticket owner) = stamped

abbrev pub after : State → Happening → State
after state event = record {
  files = effected_all state.files (effects event);
  clock = last_time state.clock (effects event);
  stamped = stamped_after state.stamped event;
  children = children_after state.children event;
}

abbrev pub after_all : State → List Happening → State
after_all state [] = state
after_all state (event ∷ events) = after_all (after state event) events

abbrev pub of_file : File → Effect
of_file file = record { path = file.path; bytes = Some file.bytes; time = file.time }

abbrev pub first_state : List File → State
first_state base = record {
  files = effected_all (λ path. None) (map of_file base);
  clock = last_time 0 (map of_file base);
  stamped = 0;
  children = [];
}

-- How things stand at the end of a history.
abbrev pub state_of : History → State
state_of history = after_all (first_state history.base) history.events

abbrev pub tickets_of : List Child → List ℕ
tickets_of children = map (λ child. child.ticket) children

-- the files as make reads them
abbrev pub files_of : History → Store
files_of history = contents (state_of history).files

-- no change is earlier than a time, or than one before it
abbrev pub NotEarlier : ℕ → List Effect → Type 0
NotEarlier time [] = Unit {0}
NotEarlier time (effect ∷ more) = (time ≤ effect.time) × NotEarlier effect.time more

-- a step is that of a running child of this owner: it is what the child asks for next, by what
-- stands there, and it tells what stands there
pub record IsStep (next : NextOf) (store : Store) (owner : ℕ) (deed : Deed) (child : Child)
    : Type 0 where
  pub owned : child.owner ≡ owner
  pub right : IsRight store deed
  pub request : Request
  pub stands : Option (List ℕ)
  pub asked : next child.cmd (map answer child.deeds) ≡ More request
  pub done : deed ≡ deed_at request stands

abbrev pub MayStep : NextOf → Store → ℕ → Deed → Option Child → Type 0
MayStep next store owner deed None = ⊥
MayStep next store owner deed (Some child) = IsStep next store owner deed child

-- a child may be taken in when it is at its end
abbrev pub MayEnd : NextOf → ℕ → Option Child → Type 0
MayEnd next owner None = ⊥
MayEnd next owner (Some child) =
    (child.owner ≡ owner) × IsOver (next child.cmd (map answer child.deeds))

abbrev pub MayLeave : ℕ → Option Child → Type 0
MayLeave owner None = ⊥
MayLeave owner (Some child) = child.owner ≡ owner

-- what may happen, beside the times of changes: no edit falls while a child runs, a started ticket
-- is free, the steps of an asked command are its doing on the files at that moment, one after the
-- other, and a stamp is later than each stamp before it
abbrev pub MayNow : Meaning → State → Happening → Type 0
MayNow meaning state (Edit path bytes time) = state.children ≡ []
MayNow meaning state (Ask cmd steps) =
    map (λ step. step.deed) steps ≡ (does meaning cmd (contents state.files)).deeds
MayNow meaning state (Start ticket owner cmd) = child_in state.children ticket ≡ None
MayNow meaning state (Step ticket owner deed time) =
    MayStep meaning.next (contents state.files) owner deed (child_in state.children ticket)
MayNow meaning state (End ticket owner) =
    MayEnd meaning.next owner (child_in state.children ticket)
MayNow meaning state (Left ticket owner) = MayLeave owner (child_in state.children ticket)
MayNow meaning state (Look path) = Unit {0}
MayNow meaning state (Stamp path bytes time) = state.stamped < time
MayNow meaning state (Put path bytes time) = Unit {0}
MayNow meaning state (Gone path time) = Unit {0}

-- An event may happen: it may now, and none of its changes is earlier than one before it. Changes
-- of one time are allowed, since the clocks of file systems go in steps.
abbrev pub May : Meaning → State → Happening → Type 0
May meaning state event = NotEarlier state.clock (effects event) × MayNow meaning state event

abbrev pub MayAll : Meaning → State → List Happening → Type 0
MayAll meaning state [] = Unit {0}
MayAll meaning state (event ∷ events) =
    May meaning state event × MayAll meaning (after state event) events
