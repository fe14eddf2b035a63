use Rattle.std.proofs.Common.{rules, ◌≡◌, Err, Some, inl, inr, slice_get, sym, ◌∙◌, ap, subst}
use Rattle.std.proofs.lemmas.Option.{slice_get-get_or}
use Rattle.mk_world.specs.History.{state_of, tickets_of}
use Rattle.mk_commands.specs.Rest.{doing_of}
use Rattle.mk_memworld.specs.Children.{without_first}
use Rattle.mk_memworld.specs.Endings.{ended_by, told_by}
use Rattle.mk_memworld.specs.Running.{AddsSteps, IsRest}
use Rattle.mk_memworld.specs.Schedule.{course_after, next_taken, taken_in}
use Rattle.mk_memworld.specs.Turned.{HasFailed, IsTooShort, changes_to_end, turned}
use Rattle.mk_memworld.proofs.EndingLemmas.{Taken, Taken-ended_by}
use Rattle.mk_memworld.proofs.EnterLemmas.{Entered, HasFailed-is, IsTooShort-is, changes-are, course-is, long_enough, next_taken-is, turned-is}
use Rattle.mk_memworld.proofs.WorldLemmas.{FailsWhere-passed, OnFailed-passed, TakenOut-at, either, held_by, neither, refused_after, refused_here, refused_later, refused_same}
use Rattle.mk_memworld.proofs.world.MemWorldWorld.wait_any.Goals as goal

pub rest-requires-clause-held : goal.rest-requires-clause-held
rest-requires-clause-held c =
    let tickets = c.args.kids.now.tickets in
    let place = c.place-place.result in
    let at : slice_get tickets place ≡ Some c.ticket-ticket.result.0 =
    slice_get-get_or tickets place 0 c.place-place.ensures.within
    ∙ ap Some (sym c.ticket-ticket.ensures) in
    held_by c.ticket-ticket.result.0 place (state_of c.next.new.self.chronicle).children
    (ap (λ ks. slice_get ks place) (ap (λ h. tickets_of (state_of h).children) c.next.ensures.history ∙ c.requires.exact) ∙ at)

-- the turn that was found, where the call is refused
entered_err : (c : goal.After-drop-rest-in_err-proceed)
    → Entered c.args.self.now c.next.new.self c.in_ok-going.going
entered_err c = record {
  ticket = c.in_ok-going.ensures.turn.ticket;
  turn = c.in_ok-going.ensures.turn.turn;
  history = c.next.ensures.history;
  course = c.next.ensures.taken;
}

-- and the changes that were counted
changes_err : (c : goal.After-drop-rest-in_err-proceed)
    → c.numbers.result ≡ changes_to_end c.args.self.now c.args.kids.now.tickets
changes_err c =
    let tickets = c.args.kids.now.tickets in
    changes-are c.args.self.now c.next.new.self c.in_ok-going.going tickets
    c.place-place.result c.ticket-ticket.result.0 c.numbers.result (doing_of c.in-Ok.rest)
    (entered_err c) (slice_get-get_or tickets c.place-place.result 0 c.place-place.ensures.within
    ∙ ap Some (sym c.ticket-ticket.ensures)) c.place-place.ensures.taken c.in-Ok.ensures
    c.numbers.ensures

pub returns-in_err-proceed-clause-exactly : goal.returns-in_err-proceed-clause-exactly
returns-in_err-proceed-clause-exactly c =
    let passed : c.from_residual-in_err-proceed.result ≡ Err c.in_err-proceed.field-0.0 =
    search rules in
    FailsWhere-passed _ _ c.proceed.result c.from_residual-in_err-proceed.result
    c.in_err-proceed.field-0.0 c.in_err-proceed.was passed c.proceed.ensures.exactly
    (either c.strikes-is_struck.ensures.struck.0
    (λ short. subst (IsTooShort c.args.self.now) (changes_err c)
    (IsTooShort-is c.args.self.now c.next.new.self c.in_ok-going.going c.numbers.result
    (entered_err c) short)))

pub returns-in_err-proceed-clause-failed : goal.returns-in_err-proceed-clause-failed
returns-in_err-proceed-clause-failed c =
    let passed : c.from_residual-in_err-proceed.result ≡ Err c.in_err-proceed.field-0.0 =
    search rules in
    OnFailed-passed _ _ c.proceed.result c.from_residual-in_err-proceed.result
    c.in_err-proceed.field-0.0 c.in_err-proceed.was passed c.proceed.ensures.failed
    (λ refused. subst (λ n. HasFailed n c.args.self.now c.proceed.new.self) (changes_err c)
    (HasFailed-is c.args.self.now c.next.new.self c.proceed.new.self c.in_ok-going.going
    c.numbers.result (entered_err c) refused))

-- the turn that was found
entered_at : (c : goal.After-take) → Entered c.args.self.now c.next.new.self c.in_ok-going.going
entered_at c = record {
  ticket = c.in_ok-going.ensures.turn.ticket;
  turn = c.in_ok-going.ensures.turn.turn;
  history = c.next.ensures.history;
  course = c.next.ensures.taken;
}

-- the child that is taken in, by its place
at_place : (c : goal.After-take)
    → slice_get c.args.kids.now.tickets c.place-place.result ≡ Some c.ticket-ticket.result.0
at_place c =
    slice_get-get_or c.args.kids.now.tickets c.place-place.result 0 c.place-place.ensures.within
    ∙ ap Some (sym c.ticket-ticket.ensures)

next_at : (c : goal.After-take) → Some c.ticket-ticket.result.0
    ≡ next_taken (course_after c.args.self.now.chronicle c.args.self.now.schedule)
    c.args.kids.now.tickets
next_at c =
    next_taken-is c.args.self.now c.next.new.self c.in_ok-going.going c.args.kids.now.tickets
    c.place-place.result c.ticket-ticket.result.0 (entered_at c) (at_place c)
    c.place-place.ensures.taken

-- it was taken in behind its steps
taken_at : (c : goal.After-take) → Taken c.args.self.now.chronicle c.proceed.new.self.chronicle
    c.finish.new.self c.ticket-ticket.result.0 c.in_ok-ended.ended
taken_at c =
    let ticket = c.ticket-ticket.result.0 in
    let rest = doing_of c.in-Ok.rest in
    Taken-ended_by c.args.self.now.chronicle c.proceed.new.self.chronicle c.finish.new.self ticket
    rest c.in_ok-ended.ended (subst (λ h. AddsSteps h c.proceed.new.self.chronicle) c.next.ensures.history
    c.proceed.ensures.steps)
    (subst (λ h. IsRest (state_of h) ticket rest) (sym c.in_ok-proceed.ensures.went_on.history)
    c.in-Ok.ensures) c.in_ok-ended.ensures.history c.in_ok-ended.ensures.told

pub returns-clause-done : goal.returns-clause-done
returns-clause-done c = (taken_at c).adds

pub returns-clause-taken : goal.returns-clause-taken
returns-clause-taken c =
    TakenOut-at c.in_ok-ended.ended.ticket.0 c.place-place.result c.args.kids.now.tickets
    c.take.new.self.tickets (at_place c ∙ ap Some (sym (taken_at c).named)) c.take.ensures.tickets

pub returns-clause-chosen : goal.returns-clause-chosen
returns-clause-chosen c = ap Some (taken_at c).named ∙ next_at c

pub returns-clause-history : goal.returns-clause-history
returns-clause-history c =
    c.in_ok-ended.ensures.history
    ∙ ap (λ h. ended_by h c.ticket-ticket.result.0) (c.in_ok-proceed.ensures.went_on.history
    ∙ turned-is c.args.self.now c.next.new.self c.in_ok-going.going (entered_at c))
    ∙ ap (ended_by (turned c.args.self.now)) (sym (taken_at c).named)

pub returns-clause-told : goal.returns-clause-told
returns-clause-told c =
    c.in_ok-ended.ensures.told
    ∙ ap (λ h. told_by h c.ticket-ticket.result.0) (c.in_ok-proceed.ensures.went_on.history
    ∙ turned-is c.args.self.now c.next.new.self c.in_ok-going.going (entered_at c))
    ∙ ap (told_by (turned c.args.self.now)) (sym (taken_at c).named)

pub returns-clause-course : goal.returns-clause-course
returns-clause-course c =
    c.take_in.ensures
    ∙ ap (λ course. taken_in course c.ticket-ticket.result.0) (c.in_ok-proceed.ensures.went_on.course
    ∙ course-is c.args.self.now c.next.new.self c.in_ok-going.going (entered_at c))
    ∙ ap (taken_in (course_after c.args.self.now.chronicle c.args.self.now.schedule))
    (sym (taken_at c).named)

pub returns-clause-children : goal.returns-clause-children
returns-clause-children c =
    (taken_at c).tickets
    ∙ ap (without_first c.ticket-ticket.result.0)
    (c.proceed.ensures.tickets ∙ ap (λ h. tickets_of (state_of h).children) c.next.ensures.history
    ∙ c.requires.exact)
    ∙ ap (λ one. without_first one c.args.kids.now.tickets) c.ticket-ticket.ensures
    ∙ c.place-place.ensures.first ∙ sym c.take.ensures.tickets

pub returns-clause-exactly : goal.returns-clause-exactly
returns-clause-exactly c =
    let changes = changes-are c.args.self.now c.next.new.self c.in_ok-going.going
    c.args.kids.now.tickets c.place-place.result c.ticket-ticket.result.0 c.numbers.result
    (doing_of c.in-Ok.rest) (entered_at c) (at_place c) c.place-place.ensures.taken
    c.in-Ok.ensures c.numbers.ensures in
    neither (λ struck. c.in_ok-proceed.ensures.exactly (inl (c.strikes-is_struck.ensures.struck.1 struck)))
    (subst (λ n. IsTooShort c.args.self.now n → ⊥) changes
    (long_enough c.args.self.now c.next.new.self c.in_ok-going.going c.numbers.result
    (entered_at c) (λ short. c.in_ok-proceed.ensures.exactly (inr short))))

pub returns-in_err-going-clause-refused : goal.returns-in_err-going-clause-refused
returns-in_err-going-clause-refused c = refused_same _ _ _ c.next.ensures.history

pub returns-in-Err-clause-refused : goal.returns-in-Err-clause-refused
returns-in-Err-clause-refused c =
    rw c.next.ensures.history (refused_here c.args.self.now.chronicle)

pub returns-in_err-proceed-clause-refused : goal.returns-in_err-proceed-clause-refused
returns-in_err-proceed-clause-refused c =
    refused_after _ _ _
    (subst (λ h. AddsSteps h c.proceed.new.self.chronicle) c.next.ensures.history
    c.proceed.ensures.steps)

pub returns-in_err-ended-clause-refused : goal.returns-in_err-ended-clause-refused
returns-in_err-ended-clause-refused c =
    refused_later _ _ c.proceed.new.self.chronicle _
    (subst (λ h. AddsSteps h c.proceed.new.self.chronicle) c.next.ensures.history
    c.proceed.ensures.steps) c.in_err-ended.ensures.same
