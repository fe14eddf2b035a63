use Rattle.std.proofs.Common.{◌∙◌, ap}
use Rattle.mk_memworld.specs.Schedule.{with_number_taken}
use Rattle.mk_memworld.proofs.TicketLemmas.{drop-one_more}
use Rattle.mk_memworld.proofs.schedule.Schedule.take.Goals as goal

pub returns-then-self-len-clause-taken : goal.returns-then-self-len-clause-taken
returns-then-self-len-clause-taken c =
    ap (λ numbers. record { numbers = numbers; ended = c.self.inside.ended.items })
    (drop-one_more c.self.inside.numbers c.self.inside.taken)
    ∙ ap with_number_taken c.self.view_is
