-- The schedule: which child goes on before a call does what it is called for, and which child is
-- taken in.
--
-- Each call but `abandon` takes the next number of the schedule, 0 at its end. Where it is 1 to the
-- number of running children that have not come to their end, that one of them, in the order of
-- start, does its next step. A child comes to its end with its last step, and one that has none at
-- its first turn. `wait_any` takes a second number, and with it one of the children that have come
-- to their end; where none has, it takes the oldest child, which does all its remaining steps.
use Rattle.std.specs.Prelude.{ℕ, zero, suc, ◌%◌, not, List, [], ◌∷◌, ◌++◌, length, map, drop}
use Rattle.std.specs.Prelude.{Option, Some, None, nat_eq, slice_get, if◌then◌else◌}
use Rattle.std.specs.List.{filter, list_any}
use Rattle.mk_world.specs.History.{State, child_in, contents, state_of, tickets_of}
use Rattle.mk_world.specs.Talks.{answer}
use Rattle.mk_world.specs.declared.history.Child.{Child}
use Rattle.mk_world.specs.declared.history.Happening.TheVariants.{Step}
use Rattle.mk_world.specs.declared.history.History.{History}
use Rattle.mk_world.specs.declared.step.Deed.{Deed}
use Rattle.mk_commands.specs.Clock.{time_of}
use Rattle.mk_commands.specs.Language.{language_next}
use Rattle.mk_commands.specs.Steps.{deed_at_next}
use Rattle.mk_memworld.specs.Children.{without_first}
use Rattle.mk_memworld.specs.Chronicle.{with_event}

-- what is left of a schedule, and the tickets of the running children that have come to their end,
-- in the order of coming to it
pub record Course : Type 0 where
  pub numbers : List ℕ
  pub ended : List ℕ

-- the next number of a schedule
abbrev pub first_number : List ℕ → ℕ
first_number [] = 0
first_number (number ∷ numbers) = number

-- a number is taken
abbrev pub with_number_taken : Course → Course
with_number_taken course = record course { numbers = drop 1 course.numbers }

-- the tickets of those that have not come to their end
abbrev pub going : List ℕ → List ℕ → List ℕ
going ended tickets = filter (λ ticket. not (list_any (λ one. nat_eq one ticket) ended)) tickets

-- the one that a number names, counted from 1
abbrev pub named : ℕ → List ℕ → Option ℕ
named zero tickets = None
named (suc number) tickets = slice_get tickets number

-- the child that the next number names
abbrev pub next_child : State → Course → Option ℕ
next_child state course =
    named (first_number course.numbers) (going course.ended (tickets_of state.children))

-- the next step of a child on the files as they stand; at its end it has none
abbrev pub next_deed : State → Child → Option Deed
next_deed state child =
    deed_at_next (contents state.files) (language_next child.cmd (map answer child.deeds))

abbrev pub deed_of : State → Option Child → Option Deed
deed_of state None = None
deed_of state (Some child) = next_deed state child

-- the next step of the child with a ticket
abbrev pub deed_by : State → ℕ → Option Deed
deed_by state ticket = deed_of state (child_in state.children ticket)

-- the next step of the child that is named, where one is
abbrev pub deed_for : State → Option ℕ → Option Deed
deed_for state None = None
deed_for state (Some ticket) = deed_by state ticket

-- the history after a step of a child, where there is one
abbrev pub stepped_on : History → ℕ → Option Child → Option Deed → History
stepped_on history ticket child None = history
stepped_on history ticket None (Some deed) = history
stepped_on history ticket (Some child) (Some deed) =
    with_event history (Step ticket child.owner deed (time_of (state_of history).clock deed))

-- the history after the turn of this child, where one is named
abbrev pub gone_on : History → Option ℕ → History
gone_on history None = history
gone_on history (Some ticket) =
    let state = state_of history in
    stepped_on history ticket (child_in state.children ticket) (deed_by state ticket)

-- a child that has no step left has come to its end
abbrev pub at_end : ℕ → Option Deed → Option ℕ
at_end ticket None = Some ticket
at_end ticket (Some deed) = None

-- the child that went on, where it has come to its end, by how things stand then
abbrev pub newly_ended : State → Option ℕ → Option ℕ
newly_ended state None = None
newly_ended state (Some ticket) = at_end ticket (deed_by state ticket)

-- those that have come to their end, with this one behind them, where there is one
abbrev pub with_ended : List ℕ → Option ℕ → List ℕ
with_ended ended None = ended
with_ended ended (Some ticket) = ended ++ ticket ∷ []

-- The history after the turn of the child that the next number names, if it names one.
abbrev pub after_turn : History → Course → History
after_turn history course = gone_on history (next_child (state_of history) course)

-- The course after this turn.
abbrev pub course_after : History → Course → Course
course_after history course = record {
  numbers = drop 1 course.numbers;
  ended = with_ended course.ended
      (newly_ended (state_of (after_turn history course)) (next_child (state_of history) course));
}

-- the one that a number chooses of those that have come to their end, counted from 0 and round
abbrev pub chosen : ℕ → List ℕ → Option ℕ
chosen number ended = slice_get ended (number % length ended)

-- that one, where it still runs, and else the oldest
abbrev pub or_oldest : List ℕ → Option ℕ → Option ℕ
or_oldest tickets None = slice_get tickets 0
or_oldest tickets (Some ticket) =
    if list_any (nat_eq ticket) tickets then Some ticket else slice_get tickets 0

-- The child that `wait_any` takes in, of those that run, by the number that it takes for this.
abbrev pub next_taken : Course → List ℕ → Option ℕ
next_taken course tickets =
    or_oldest tickets (chosen (first_number course.numbers) course.ended)

-- the course after a child was taken in
abbrev pub taken_in : Course → ℕ → Course
taken_in course ticket = record {
  numbers = drop 1 course.numbers;
  ended = without_first ticket course.ended;
}
