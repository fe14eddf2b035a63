-- What one call of a world adds to its history.
use Rattle.std.specs.Prelude.{◌≡◌, ◌⊎◌, ℕ, List, [], ◌∷◌, ◌++◌, map, Option, Some, None}
use Rattle.mk_world.specs.History.{Filed, State, MayAll, after_all, child_in, contents, state_of}
use Rattle.mk_world.specs.Listings.{Lists}
use Rattle.mk_world.specs.Records.{AreRecords}
use Rattle.mk_world.specs.Sinks.{Begins}
use Rattle.mk_world.specs.Talks.{Meaning, Doing, answer, does}
use Rattle.mk_world.specs.Told.{Told}
use Rattle.mk_world.specs.declared.command.Cmd.{Cmd}
use Rattle.mk_world.specs.declared.history.Child.{Child}
use Rattle.mk_world.specs.declared.history.Happening.{Happening}
use Rattle.mk_world.specs.declared.history.Happening.TheVariants.{Look, Stamp, Put, Gone, Ask}
use Rattle.mk_world.specs.declared.history.Happening.TheVariants.{Start, Step, End, Left}
use Rattle.mk_world.specs.declared.history.History.{History}
use Rattle.mk_world.specs.declared.history.Timed.{Timed}
use Rattle.mk_world.specs.declared.step.Deed.{Deed}
use Rattle.mk_world.specs.declared.step.Ended.{Ended}
use Rattle.mk_world.specs.declared.step.Next.TheVariants.{Over}
use Rattle.mk_world.specs.declared.time.When.{When}
use Rattle.mk_world.specs.declared.time.When.TheVariants.{Missing, At}

-- events that are all steps of running children
abbrev pub AreSteps : List Happening → Type 0
AreSteps [] = Unit {0}
AreSteps (event ∷ events) =
    ((ticket owner : ℕ) × (d : Deed) × (time : ℕ) × (event ≡ Step ticket owner d time))
    × AreSteps events

-- A call adds steps of running children, its own events at one moment, and steps again, and
-- nothing else. Its own events are said by `Own` of how things stand at that moment.
pub record AddsEvents (meaning : Meaning) (Own : State → List Happening → Type 0) (old new : History) : Type 0 where
  pub early : List Happening
  pub own : List Happening
  pub late : List Happening
  pub base : new.base ≡ old.base
  pub events : new.events ≡ old.events ++ (early ++ (own ++ late))
  pub early_steps : AreSteps early
  pub late_steps : AreSteps late
  pub lawful : MayAll meaning (state_of old) (early ++ (own ++ late))
  pub is_own : Own (after_all (state_of old) early) own

abbrev pub Adds : Meaning → Option History → Option History → (State → List Happening → Type 0)
    → Type 0
Adds meaning before after Own = Told before after (AddsEvents meaning Own)

-- no event of its own
abbrev pub OwnNothing : State → List Happening → Type 0
OwnNothing state own = own ≡ []

-- a look, answered with what stands there
abbrev pub OwnRead : List ℕ → Option (List ℕ) → State → List Happening → Type 0
OwnRead path found state own = (own ≡ Look path ∷ []) × (found ≡ contents state.files path)

abbrev pub when_of : Option Filed → When
when_of None = Missing
when_of (Some file) = At (record { 0 = file.time })

abbrev pub OwnTime : List ℕ → When → State → List Happening → Type 0
OwnTime path when state own = (own ≡ Look path ∷ []) × (when ≡ when_of (state.files path))

-- a look at a directory, answered with the names of what stands below it
abbrev pub OwnList : List ℕ → Option (List (List ℕ)) → State → List Happening → Type 0
OwnList dir names state own = (own ≡ Look dir ∷ []) × Lists (contents state.files) dir names

-- a removal, at some time
abbrev pub OwnGone : List ℕ → State → List Happening → Type 0
OwnGone path state own = (time : ℕ) × (own ≡ Gone path time ∷ [])

-- a meta file's head was written at this time
abbrev pub OwnStamp : List ℕ → List ℕ → ℕ → State → List Happening → Type 0
OwnStamp path bytes time state own = own ≡ Stamp path bytes time ∷ []

-- a whole file was written at this time
abbrev pub OwnPut : List ℕ → List ℕ → ℕ → State → List Happening → Type 0
OwnPut path bytes time state own = own ≡ Put path bytes time ∷ []

-- A write that was refused has left the file as it was, or with a part of the bytes, from their
-- beginning.
abbrev pub OwnPart : (List ℕ → ℕ → Happening) → List ℕ → State → List Happening → Type 0
OwnPart written bytes state own =
    (own ≡ []) ⊎ ((part : List ℕ) × (time : ℕ) × Begins part bytes × (own ≡ written part time ∷ []))

abbrev pub OwnStampPart : List ℕ → List ℕ → State → List Happening → Type 0
OwnStampPart path bytes = OwnPart (λ part time. Stamp path part time) bytes

abbrev pub OwnPutPart : List ℕ → List ℕ → State → List Happening → Type 0
OwnPutPart path bytes = OwnPart (λ part time. Put path part time) bytes

abbrev pub OwnStart : ℕ → ℕ → Cmd → State → List Happening → Type 0
OwnStart ticket owner cmd state own = own ≡ Start ticket owner cmd ∷ []

-- a command that was run to its end, with times for its steps
abbrev pub IsAsk : Cmd → List Happening → Type 0
IsAsk cmd own = (steps : List Timed) × (own ≡ Ask cmd steps ∷ [])

-- the answer to a command: the status, the output and the records of its doing
pub record Answers (doing : Doing) (ended : Ended) : Type 0 where
  pub status : ended.status ≡ doing.status
  pub output : ended.output ≡ doing.output
  pub records : AreRecords ended.records doing.deeds

-- a command that is answered with its doing on the files at that moment
abbrev pub OwnAsk : Meaning → Cmd → Ended → State → List Happening → Type 0
OwnAsk meaning cmd ended state own =
    IsAsk cmd own × Answers (does meaning cmd (contents state.files)) ended

-- a command that is not answered may have been run
abbrev pub OwnUnanswered : Cmd → State → List Happening → Type 0
OwnUnanswered cmd state own = (own ≡ []) ⊎ IsAsk cmd own

-- a child that is at its end: its status and output are those of its command by its steps
pub record EndsAs (meaning : Meaning) (ended : Ended) (child : Child) : Type 0 where
  pub over : meaning.next child.cmd (map answer child.deeds) ≡ Over ended.status ended.output
  pub records : AreRecords ended.records child.deeds

abbrev pub IsTaken : Meaning → Ended → Option Child → List Happening → Type 0
IsTaken meaning ended None own = ⊥
IsTaken meaning ended (Some child) own =
    (own ≡ End child.ticket child.owner ∷ []) × EndsAs meaning ended child

abbrev pub OwnEnd : Meaning → Ended → State → List Happening → Type 0
OwnEnd meaning ended state own = IsTaken meaning ended (child_in state.children ended.ticket.0) own

abbrev pub left_all : List Child → List Happening
left_all children = map (λ child. Left child.ticket child.owner) children

abbrev pub OwnLeft : State → List Happening → Type 0
OwnLeft state own = own ≡ left_all state.children

-- one ticket is taken out, and the others stay in order
pub record TakenOut (ticket : ℕ) (old new : List ℕ) : Type 0 where
  pub front : List ℕ
  pub back : List ℕ
  pub was : old ≡ front ++ ticket ∷ back
  pub now : new ≡ front ++ back
