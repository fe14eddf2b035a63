-- What a running child still has to do, its steps and its end.
use Rattle.std.specs.Prelude.{◌≡◌, ℕ, List, [], ◌∷◌, ◌++◌, Some, map}
use Rattle.mk_world.specs.Calls.{AreSteps}
use Rattle.mk_world.specs.History.{State, MayAll, contents, state_of}
use Rattle.mk_world.specs.Talks.{Doing, IsDoing, answer}
use Rattle.mk_world.specs.declared.history.Child.{Child}
use Rattle.mk_world.specs.declared.history.Happening.{Happening}
use Rattle.mk_world.specs.declared.history.Happening.TheVariants.{Step, Left}
use Rattle.mk_world.specs.declared.history.History.{History}
use Rattle.mk_world.specs.declared.step.Deed.{Deed}
use Rattle.mk_world.specs.declared.step.Ended.{Ended}
use Rattle.mk_world.specs.declared.step.Op.{Op}
use Rattle.mk_commands.specs.Clock.{time_of}
use Rattle.mk_commands.specs.Meaning.{language}
use Rattle.mk_memworld.specs.Children.{OfChild}
use Rattle.mk_memworld.specs.Chronicle.{with_event}

-- what a child does from here to its end, on the files as they stand
abbrev pub IsRestOf : State → Doing → Child → Type 0
IsRestOf state rest child =
    IsDoing language.next child.cmd (map answer child.deeds) (contents state.files) rest

abbrev pub IsRest : State → ℕ → Doing → Type 0
IsRest state ticket rest = OfChild ticket state.children (IsRestOf state rest)

-- a child did one step
abbrev pub DidStep : History → ℕ → Deed → History → Type 0
DidStep old ticket deed new = OfChild ticket (state_of old).children (λ child.
    new ≡ with_event old
    (Step ticket child.owner deed (time_of (state_of old).clock deed)))

-- steps of running children, each of which may happen
pub record AddsSteps (old new : History) : Type 0 where
  pub events : List Happening
  pub base : new.base ≡ old.base
  pub longer : new.events ≡ old.events ++ events
  pub steps : AreSteps events
  pub lawful : MayAll language (state_of old) events

-- what is told of a child that was taken in
abbrev pub ended_of : ℕ → ℕ → List ℕ → List Op → Ended
ended_of ticket status output records = record {
  ticket = record { 0 = ticket };
  status = status;
  output = output;
  records = Some records;
}

-- a fact on the oldest of the running children, which there is
abbrev pub OfOldest : List Child → (Child → Type 0) → Type 0
OfOldest [] Fact = ⊥
OfOldest (child ∷ others) Fact = Fact child

-- the oldest child was given up
abbrev pub GivesUp : History → History → Child → Type 0
GivesUp old new child = new ≡ with_event old (Left child.ticket child.owner)
