use Rattle.std.proofs.Common.{◌∙◌, ap}
use Rattle.mk_memworld.specs.Schedule.{Course, first_number}
use Rattle.mk_memworld.proofs.TicketLemmas.{first_number-at}
use Rattle.mk_memworld.proofs.schedule.Schedule.number.Goals as goal

pub returns-then-self-len : goal.returns-then-self-len
returns-then-self-len c =
    first_number-at c.self.inside.numbers c.self.inside.taken c.get.result.now c.get.ensures
    ∙ ap (λ (course : Course). first_number course.numbers) c.self.view_is
