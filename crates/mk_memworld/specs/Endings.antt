-- How a child is taken in: it does all its remaining steps and ends, and this is told of it.
use Rattle.std.specs.Prelude.{◌≡◌, ℕ, suc, List, [], ◌∷◌, ◌++◌, map, Option, Some, None}
use Rattle.std.specs.Option.{option_map}
use Rattle.mk_world.specs.Records.{op_of}
use Rattle.mk_world.specs.History.{State, child_in, contents, state_of}
use Rattle.mk_world.specs.Talks.{Doing, answer, does_in}
use Rattle.mk_world.specs.declared.history.Child.{Child}
use Rattle.mk_world.specs.declared.history.Happening.{Happening}
use Rattle.mk_world.specs.declared.history.Happening.TheVariants.{Step, End}
use Rattle.mk_world.specs.declared.history.History.{History}
use Rattle.mk_world.specs.declared.history.Timed.{Timed}
use Rattle.mk_world.specs.declared.step.Deed.{Deed}
use Rattle.mk_world.specs.declared.step.Ended.{Ended}
use Rattle.mk_commands.specs.Clock.{numbers, timed}
use Rattle.mk_commands.specs.Meaning.{language}
use Rattle.mk_memworld.specs.Children.{OfChild}
use Rattle.mk_memworld.specs.Chronicle.{with_events}
use Rattle.mk_memworld.specs.Running.{ended_of}

-- what a child does from here to its end, on the files as they stand
abbrev pub rest_of : State → Child → Doing
rest_of state child =
    does_in (suc (language.limit child.cmd)) language.next child.cmd (map answer child.deeds)
    (contents state.files)

-- steps of a child at their times, as events
abbrev pub steps_of : Child → List Timed → List Happening
steps_of child steps = map (λ step. Step child.ticket child.owner step.deed step.time) steps

-- these steps of a child, each at the next time, and its end
abbrev pub to_end : State → Child → Doing → List Happening
to_end state child rest =
    steps_of child (timed state.clock rest.deeds) ++ End child.ticket child.owner ∷ []

-- a child did these steps, each at the next time, and ended
abbrev pub DidLast : History → ℕ → List Deed → History → Type 0
DidLast old ticket deeds new = OfChild ticket (state_of old).children (λ child. new
    ≡ with_events old (steps_of child (timed (state_of old).clock deeds)
    ++ End child.ticket child.owner ∷ []))

-- what is told of a child that has done these remaining steps
abbrev pub told_of : Child → Doing → Ended
told_of child rest =
    ended_of child.ticket rest.status rest.output (map op_of (child.deeds ++ rest.deeds))

abbrev pub ended_as : History → Option Child → History
ended_as history None = history
ended_as history (Some child) =
    with_events history (to_end (state_of history) child (rest_of (state_of history) child))

-- The history after the child with a ticket was taken in.
abbrev pub ended_by : History → ℕ → History
ended_by history ticket = ended_as history (child_in (state_of history).children ticket)

-- What is told of it.
abbrev pub told_by : History → ℕ → Option Ended
told_by history ticket =
    option_map (λ child. told_of child (rest_of (state_of history) child))
    (child_in (state_of history).children ticket)

abbrev pub numbers_in : State → Option Child → ℕ
numbers_in state None = 0
numbers_in state (Some child) = numbers (rest_of state child).deeds

-- How many numbers of the clock the remaining steps of a child take, where there is one.
abbrev pub numbers_left : State → Option ℕ → ℕ
numbers_left state None = 0
numbers_left state (Some ticket) = numbers_in state (child_in state.children ticket)
