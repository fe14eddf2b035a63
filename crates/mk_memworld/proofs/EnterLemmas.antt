-- What is known of a call by the turn that it found, before anybody went on.
use Rattle.std.proofs.Common.{◌≡◌, ℕ, ◌+◌, ◌<◌, List, Some, slice_get, sym, ◌∙◌, ap, subst}
use Rattle.mk_world.specs.History.{state_of}
use Rattle.mk_world.specs.Talks.{Doing}
use Rattle.mk_commands.specs.Clock.{last_number, numbers}
use Rattle.mk_memworld.specs.Endings.{numbers_left}
use Rattle.mk_memworld.specs.Going.{IsTurn}
use Rattle.mk_memworld.specs.Running.{IsRest}
use Rattle.mk_memworld.specs.Schedule.{Course, course_after, gone_on, newly_ended, next_child, next_taken, with_ended, with_number_taken}
use Rattle.mk_memworld.specs.Turned.{HasFailed, HasGoneOn, HasRefused, HasStayed, IsTooShort, IsTurnShort, changes_to_end, turned}
use Rattle.mk_memworld.specs.declared.going.Going.{Going}
use Rattle.mk_memworld.specs.declared.world.MemWorld.{MemWorld}
use Rattle.mk_memworld.proofs.EndingLemmas.{numbers_left-is}

-- a world, and the same before anybody went on, with the turn that was found
pub record Entered (old mid : MemWorld) (going : Going) : Type 0 where
  pub ticket : going.ticket ≡ next_child (state_of old.chronicle) old.schedule
  pub turn : IsTurn old.chronicle going
  pub history : mid.chronicle ≡ old.chronicle
  pub course : mid.schedule ≡ with_number_taken old.schedule

-- the history after that turn
pub turned-is : (old mid : MemWorld) (going : Going) → Entered old mid going
    → gone_on mid.chronicle going.ticket ≡ turned old
turned-is old mid going e =
    ap (λ h. gone_on h going.ticket) e.history ∙ ap (gone_on old.chronicle) e.ticket

-- the course after that turn
pub course-is : (old mid : MemWorld) (going : Going) → Entered old mid going
    → record mid.schedule { ended = with_ended mid.schedule.ended going.ended }
    ≡ course_after old.chronicle old.schedule
course-is old mid going e =
    ap (λ (c : Course). record c { ended = with_ended c.ended going.ended }) e.course
    ∙ ap (λ ended. record (with_number_taken old.schedule)
    { ended = with_ended old.schedule.ended ended })
    (e.turn.ended
    ∙ ap (λ ticket. newly_ended (state_of (gone_on old.chronicle ticket)) ticket) e.ticket)

-- a clock that is too short for the turn and what comes behind it
pub IsTooShort-is : (old mid : MemWorld) (going : Going) (more : ℕ) → Entered old mid going
    → IsTurnShort mid going more → IsTooShort old more
IsTooShort-is old mid going more e short =
    subst (λ h. last_number < (state_of h).clock + more) (turned-is old mid going e) short

pub long_enough : (old mid : MemWorld) (going : Going) (more : ℕ) → Entered old mid going
    → (IsTurnShort mid going more → ⊥) → IsTooShort old more → ⊥
long_enough old mid going more e enough short =
    enough (subst (λ h. last_number < (state_of h).clock + more) (sym (turned-is old mid going e))
    short)

-- a call that has failed at that turn
pub HasFailed-is : (old mid new : MemWorld) (going : Going) (more : ℕ) → Entered old mid going
    → HasRefused going more mid new → HasFailed more old new
HasFailed-is old mid new going more e refused = record {
  short = λ short.
      let stayed : HasStayed mid new = refused.short (subst
      (λ h. last_number < (state_of h).clock + more) (sym (turned-is old mid going e)) short) in
      record {
        history = stayed.history ∙ e.history;
        course = stayed.course ∙ e.course;
      };
  struck = λ enough.
      let gone : HasGoneOn going mid new = refused.struck
      (λ short. enough (IsTooShort-is old mid going more e short)) in record {
        history = gone.history ∙ turned-is old mid going e;
        course = gone.course ∙ course-is old mid going e;
      };
}

-- the child that is taken in behind that turn
pub next_taken-is : (old mid : MemWorld) (going : Going) (tickets : List ℕ) (place ticket : ℕ)
    → Entered old mid going → slice_get tickets place ≡ Some ticket
    → slice_get tickets place ≡ next_taken
    (record mid.schedule { ended = with_ended mid.schedule.ended going.ended }) tickets
    → Some ticket ≡ next_taken (course_after old.chronicle old.schedule) tickets
next_taken-is old mid going tickets place ticket e at taken =
    sym at ∙ taken ∙ ap (λ course. next_taken course tickets) (course-is old mid going e)

-- and how many changes its remaining steps make
pub changes-are : (old mid : MemWorld) (going : Going) (tickets : List ℕ) (place ticket count : ℕ)
    (rest : Doing) → Entered old mid going → slice_get tickets place ≡ Some ticket
    → slice_get tickets place ≡ next_taken
    (record mid.schedule { ended = with_ended mid.schedule.ended going.ended }) tickets
    → IsRest (state_of (gone_on mid.chronicle going.ticket)) ticket rest
    → count ≡ numbers rest.deeds → count ≡ changes_to_end old tickets
changes-are old mid going tickets place ticket count rest e at taken is counted =
    let now = state_of (turned old) in
    counted
    ∙ sym (numbers_left-is now ticket rest
    (subst (λ h. IsRest (state_of h) ticket rest) (turned-is old mid going e) is))
    ∙ ap (numbers_left now) (next_taken-is old mid going tickets place ticket e at taken)
