-- A build as one list: what its report tells and what happened in the world, woven together.
use Rattle.std.specs.Prelude.{◌≡◌, ℕ, List, [], ◌∷◌, ◌++◌, Option, Some, None}
use Rattle.mk_values.specs.declared.fault.ExpandFault.{ExpandFault}
use Rattle.mk_world.specs.Calls.{EndsAs, when_of}
use Rattle.mk_world.specs.History.{State as Stand, MayAll as MayHappen, after_all as stand_after}
use Rattle.mk_world.specs.History.{child_in, contents, state_of}
use Rattle.mk_world.specs.Looks.{Seen, dated, read}
use Rattle.mk_world.specs.Talks.{Meaning}
use Rattle.mk_world.specs.declared.command.Cmd.{Cmd}
use Rattle.mk_world.specs.declared.history.Child.{Child}
use Rattle.mk_world.specs.declared.history.Happening.{Happening}
use Rattle.mk_world.specs.declared.history.Happening.TheVariants as world
use Rattle.mk_world.specs.declared.history.History.{History}
use Rattle.mk_world.specs.declared.step.Deed.{Deed}
use Rattle.mk_world.specs.declared.step.Ended.{Ended}
use Rattle.mk_trace.specs.declared.event.Event.{Event}
use Rattle.mk_trace.specs.declared.event.Event.TheVariants.{Kept, Refused, Start, End, Wait}

-- What make itself changes for a node.
pub data Change : Type 0 where
  -- the target of a failed job was removed
  gone : (path : List ℕ) → (time : ℕ) → Change
  -- the head of a meta file was written, with which a job begins
  head : (path bytes : List ℕ) → (time : ℕ) → Change
  -- the whole meta file of a job was written
  whole : (path bytes : List ℕ) → (time : ℕ) → Change
  -- a head was refused, and this part of it stands
  cut_head : (path part : List ℕ) → (time : ℕ) → Change
  -- a whole file was refused, and this part of it stands
  cut_whole : (path part : List ℕ) → (time : ℕ) → Change

pub data Item : Type 0 where
  -- make looked at a path, to decide a node, or at its target when its job was over
  looks : (node : ℕ) → (seen : Seen) → Item
  -- a node was kept
  keeps : (node : ℕ) → Item
  -- a line of a node could not be expanded
  refuses : (node number : ℕ) → (what : ExpandFault) → Item
  -- a child was started for a line of a node
  starts : (node number ticket owner : ℕ) → (cmd : Cmd) → Item
  -- an empty line of a node began and ended
  passes : (node number : ℕ) → Item
  -- make waited for a child
  waits : Item
  -- a child did one step
  steps : (ticket owner : ℕ) → (deed : Deed) → (time : ℕ) → Item
  -- the child of a line of a node was taken in
  ends : (node number owner : ℕ) → (ended : Ended) → Item
  -- make changed a file for a node
  changes : (node : ℕ) → (change : Change) → Item
  -- a child was given up
  leaves : (ticket owner : ℕ) → Item

-- what the report tells of it
abbrev pub reported : Item → List Event
reported (looks node seen) = []
reported (keeps node) = Kept node ∷ []
reported (refuses node number what) = Refused node number ∷ []
reported (starts node number ticket owner cmd) = Start node number ∷ []
reported (passes node number) = Start node number ∷ End node number 0 ∷ []
reported waits = Wait ∷ []
reported (steps ticket owner deed time) = []
reported (ends node number owner ended) = End node number ended.status ∷ []
reported (changes node change) = []
reported (leaves ticket owner) = []

abbrev pub reported_all : List Item → List Event
reported_all [] = []
reported_all (item ∷ items) = reported item ++ reported_all items

-- the path of a look
abbrev pub path_of : Seen → List ℕ
path_of (dated one) = one.path
path_of (read path bytes) = path

abbrev pub changed : Change → Happening
changed (gone path time) = world.Gone path time
changed (head path bytes time) = world.Stamp path bytes time
changed (whole path bytes time) = world.Put path bytes time
changed (cut_head path part time) = world.Stamp path part time
changed (cut_whole path part time) = world.Put path part time

-- what happened in the world
abbrev pub happened : Item → List Happening
happened (looks node seen) = world.Look (path_of seen) ∷ []
happened (keeps node) = []
happened (refuses node number what) = []
happened (starts node number ticket owner cmd) = world.Start ticket owner cmd ∷ []
happened (passes node number) = []
happened waits = []
happened (steps ticket owner deed time) = world.Step ticket owner deed time ∷ []
happened (ends node number owner ended) = world.End ended.ticket.0 owner ∷ []
happened (changes node change) = changed change ∷ []
happened (leaves ticket owner) = world.Left ticket owner ∷ []

abbrev pub happened_all : List Item → List Happening
happened_all [] = []
happened_all (item ∷ items) = happened item ++ happened_all items

-- the outputs of the children that were taken in, in order
abbrev pub output_of : Item → List (List ℕ)
output_of (looks node seen) = []
output_of (keeps node) = []
output_of (refuses node number what) = []
output_of (starts node number ticket owner cmd) = []
output_of (passes node number) = []
output_of waits = []
output_of (steps ticket owner deed time) = []
output_of (ends node number owner ended) = ended.output ∷ []
output_of (changes node change) = []
output_of (leaves ticket owner) = []

abbrev pub outputs_of : List Item → List (List ℕ)
outputs_of [] = []
outputs_of (item ∷ items) = output_of item ++ outputs_of items

-- a child that is taken in ends as its steps say
abbrev pub IsEndOf : Meaning → Ended → ℕ → Option Child → Type 0
IsEndOf meaning ended owner None = ⊥
IsEndOf meaning ended owner (Some child) =
    (child.ticket ≡ ended.ticket.0) × (child.owner ≡ owner) × EndsAs meaning ended child

-- a look was answered with what stood there
abbrev pub IsSeenIn : Stand → Seen → Type 0
IsSeenIn stand (dated one) = one.when ≡ when_of (stand.files one.path)
IsSeenIn stand (read path bytes) = bytes ≡ contents stand.files path

-- what the world answered fits to how things stood
abbrev pub Fits : Meaning → Stand → Item → Type 0
Fits meaning stand (looks node seen) = IsSeenIn stand seen
Fits meaning stand (keeps node) = Unit {0}
Fits meaning stand (refuses node number what) = Unit {0}
Fits meaning stand (starts node number ticket owner cmd) = Unit {0}
Fits meaning stand (passes node number) = Unit {0}
Fits meaning stand waits = Unit {0}
Fits meaning stand (steps ticket owner deed time) = Unit {0}
Fits meaning stand (ends node number owner ended) =
    IsEndOf meaning ended owner (child_in stand.children ended.ticket.0)
Fits meaning stand (changes node change) = Unit {0}
Fits meaning stand (leaves ticket owner) = Unit {0}

abbrev pub FitsAll : Meaning → Stand → List Item → Type 0
FitsAll meaning stand [] = Unit {0}
FitsAll meaning stand (item ∷ items) =
    Fits meaning stand item × FitsAll meaning (stand_after stand (happened item)) items

-- The history of a world gained what these items tell, and nothing else.
pub record Happened (meaning : Meaning) (items : List Item) (old new : History) : Type 0 where
  pub base : new.base ≡ old.base
  pub events : new.events ≡ old.events ++ happened_all items
  pub lawful : MayHappen meaning (state_of old) (happened_all items)
  pub fits : FitsAll meaning (state_of old) items
