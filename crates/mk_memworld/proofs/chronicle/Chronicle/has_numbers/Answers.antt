use Rattle.std.proofs.Common.{◌≡◌, ◌+◌, sym, ◌∙◌, ap, arith}
use Rattle.mk_world.specs.History.{state_of}
use Rattle.mk_world.specs.declared.history.History.{History}
use Rattle.mk_commands.specs.Steps.{numbers_of_step}
use Rattle.mk_memworld.specs.Schedule.{gone_on}
use Rattle.mk_memworld.proofs.TurnLemmas.{clock-turn}
use Rattle.mk_memworld.proofs.chronicle.Chronicle.has_numbers.Goals as goal

pub returns-then-taken-left : goal.returns-then-taken-left
returns-then-taken-left c =
    let deed = c.args.going.now.deed in
    let after : (state_of (gone_on c.args.self.now c.args.going.now.ticket)).clock
    ≡ c.self.inside.clock + c.taken_by_step-taken.result =
    clock-turn c.args.self.now c.args.going.now c.requires
    ∙ ap (λ n. n + numbers_of_step deed) (sym (c.self.invariant.clock
    ∙ ap (λ (h : History). (state_of h).clock) c.self.view_is))
    ∙ ap (λ n. c.self.inside.clock + n) (sym (c.taken_by_step-taken.ensures
    ∙ ap numbers_of_step c.as_ref.ensures.value)) in
    rw after (grind arith)

pub returns-else-taken-left : goal.returns-else-taken-left
returns-else-taken-left c =
    let deed = c.args.going.now.deed in
    let after : (state_of (gone_on c.args.self.now c.args.going.now.ticket)).clock
    ≡ c.self.inside.clock + c.taken_by_step-taken.result =
    clock-turn c.args.self.now c.args.going.now c.requires
    ∙ ap (λ n. n + numbers_of_step deed) (sym (c.self.invariant.clock
    ∙ ap (λ (h : History). (state_of h).clock) c.self.view_is))
    ∙ ap (λ n. c.self.inside.clock + n) (sym (c.taken_by_step-taken.ensures
    ∙ ap numbers_of_step c.as_ref.ensures.value)) in
    rw after (grind arith)
