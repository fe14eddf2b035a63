-- What a command asks, by the answers so far, and what it does on a map by itself.
use Rattle.std.specs.Prelude.{
  ◌≡◌,
  ℕ,
  zero,
  suc,
  ◌≤◌,
  List,
  [],
  ◌∷◌,
  ◌++◌,
  length,
  Option,
  Some,
  None,
}
use Rattle.mk_world.specs.Deeds.{Store, Meets, after_deed, after_deeds}
use Rattle.mk_world.specs.declared.command.Cmd.{Cmd}
use Rattle.mk_world.specs.declared.step.Answer.{Answer}
use Rattle.mk_world.specs.declared.step.Answer.TheVariants as answered
use Rattle.mk_world.specs.declared.step.Deed.{Deed}
use Rattle.mk_world.specs.declared.step.Deed.TheVariants as deed
use Rattle.mk_world.specs.declared.step.Next.{Next}
use Rattle.mk_world.specs.declared.step.Next.TheVariants.{More, Over}
use Rattle.mk_world.specs.declared.step.Request.{Request}
use Rattle.mk_world.specs.declared.step.Request.TheVariants as ask

abbrev pub NextOf : Type 0
NextOf = Cmd → List Answer → Next

-- how a step was answered
abbrev pub answer : Deed → Answer
answer (deed.Read path bytes) = answered.Found bytes
answer (deed.Miss path) = answered.Missing
answer (deed.Write path bytes) = answered.Done
answer (deed.Delete path) = answered.Done
answer (deed.Move from to bytes) = answered.Stands

abbrev pub looked : List ℕ → Option (List ℕ) → Deed
looked path None = deed.Miss path
looked path (Some bytes) = deed.Read path bytes

-- a move changes nothing where its first file is missing
abbrev pub moved : List ℕ → List ℕ → Option (List ℕ) → Deed
moved from to None = deed.Miss from
moved from to (Some bytes) = deed.Move from to bytes

-- what a request does where this stands at its place
abbrev pub deed_at : Request → Option (List ℕ) → Deed
deed_at (ask.Look path) stands = looked path stands
deed_at (ask.Write path bytes) stands = deed.Write path bytes
deed_at (ask.Delete path) stands = deed.Delete path
deed_at (ask.Move from to) stands = moved from to stands

-- the path at which a request looks
abbrev pub place : Request → List ℕ
place (ask.Look path) = path
place (ask.Write path bytes) = path
place (ask.Delete path) = path
place (ask.Move from to) = from

abbrev pub deed_on : Request → Store → Deed
deed_on request store = deed_at request (store (place request))

-- the steps of a command from some answers to its end, on whatever map they were done
abbrev pub Talks : NextOf → Cmd → List Answer → List Deed → ℕ → List ℕ → Type 0
Talks next cmd seen [] status output = next cmd seen ≡ Over status output
Talks next cmd seen (d ∷ deeds) status output =
    (request : Request) × (stands : Option (List ℕ)) × (next cmd seen ≡ More request)
    × (d ≡ deed_at request stands) × Talks next cmd (seen ++ answer d ∷ []) deeds status output

-- what a command does where all its steps are done one after the other, with nothing between them
pub record Doing : Type 0 where
  pub deeds : List Deed
  pub status : ℕ
  pub output : List ℕ

abbrev pub with_deed : Deed → Doing → Doing
with_deed d doing = record doing { deeds = d ∷ doing.deeds }

abbrev pub at_next : Next → (Request → Doing) → Doing
at_next (Over status output) go_on = record { deeds = []; status = status; output = output }
at_next (More request) go_on = go_on request

-- the doing on a map, of a command that asks for at most so much
abbrev pub does_in : ℕ → NextOf → Cmd → List Answer → Store → Doing
does_in zero next cmd seen store = record { deeds = []; status = 0; output = [] }
does_in (suc most) next cmd seen store =
    at_next (next cmd seen) (λ request.
    let d = deed_on request store in
    with_deed d (does_in most next cmd (seen ++ answer d ∷ []) (after_deed store d)))

abbrev pub IsOver : Next → Type 0
IsOver (Over status output) = Unit {0}
IsOver (More request) = ⊥

-- What the commands of a world mean: what each asks next, and after how many answers it is at its
-- end at the latest, whatever they are.
pub record Meaning : Type 0 where
  pub next : NextOf
  pub limit : Cmd → ℕ
  pub ends : (cmd : Cmd) (seen : List Answer) → limit cmd ≤ length seen → IsOver (next cmd seen)

-- What a command does on a map.
abbrev pub does : Meaning → Cmd → Store → Doing
does meaning cmd store = does_in (suc (meaning.limit cmd)) meaning.next cmd [] store

-- the bytes after a command, with nothing between its steps
abbrev pub after_doing : Meaning → Cmd → Store → Store
after_doing meaning cmd store = after_deeds store (does meaning cmd store).deeds

-- a doing is one of the command, and it is right on the map
abbrev pub IsDoing : NextOf → Cmd → List Answer → Store → Doing → Type 0
IsDoing next cmd seen store doing =
    Talks next cmd seen doing.deeds doing.status doing.output × Meets store doing.deeds

-- the meaning of commands that ask for nothing, for a world that tells nothing
abbrev pub silent : Meaning
silent = record { next = λ cmd seen. Over 0 []; limit = λ cmd. 0; ends = λ cmd seen past. tt }
