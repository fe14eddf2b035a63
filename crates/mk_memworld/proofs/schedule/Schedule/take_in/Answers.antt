use Rattle.std.proofs.Common.{◌≡◌, ◌==◌, drop, position, None, Some, sym, ◌∙◌, ap}
use Rattle.mk_memworld.specs.Children.{without_first}
use Rattle.mk_memworld.specs.Schedule.{Course}
use Rattle.mk_memworld.proofs.TicketLemmas.{kept-all, taken-at}
use Rattle.mk_memworld.proofs.schedule.Schedule.take_in.Goals as goal

pub returns-in-Some : goal.returns-in-Some
returns-in-Some c =
    let ticket = c.args.ticket in
    let ended = c.self.inside.ended.items in
    let found : position (λ one. one == ticket) ended ≡ Some c.in-Some.place =
    ap (position (λ one. one == ticket)) (sym c.as_slice.ensures.value)
    ∙ sym c.place_of.ensures ∙ c.in-Some.is in
    ap (λ left. record { numbers = drop c.self.inside.taken c.self.inside.numbers; ended = left })
    (c.remove.ensures.items ∙ taken-at ticket c.in-Some.place ended found)
    ∙ ap (λ (course : Course). record course { ended = without_first ticket course.ended })
    (c.self.view_is ∙ c.take.ensures.taken)

pub returns-in-None : goal.returns-in-None
returns-in-None c =
    let ticket = c.args.ticket in
    let old = c.args.self.now in
    let same : c.self.inside.ended.items ≡ old.ended =
    ap (λ (course : Course). course.ended) (c.self.view_is ∙ c.take.ensures.taken) in
    let none : position (λ one. one == ticket) old.ended ≡ None =
    ap (position (λ one. one == ticket)) (sym (c.as_slice.ensures.value ∙ same))
    ∙ sym c.place_of.ensures ∙ c.in-None.is in
    c.take.ensures.taken
    ∙ ap (λ left. record { numbers = drop 1 old.numbers; ended = left })
    (sym (kept-all ticket old.ended none))
