use Rattle.std.proofs.Common.{◌+◌, ◌≤◌, subst}
use Rattle.mk_world.specs.History.{state_of}
use Rattle.mk_commands.specs.Clock.{last_number}
use Rattle.mk_commands.specs.Steps.{numbers_of_step}
use Rattle.mk_memworld.proofs.TurnLemmas.{clock-turn}
use Rattle.mk_memworld.proofs.chronicle.Chronicle.go_on.Goals as goal

pub step-requires-clause-numbers : goal.step-requires-clause-numbers
step-requires-clause-numbers c =
    let clock = (state_of c.args.self.now).clock in
    subst (λ step. clock + numbers_of_step step ≤ last_number) c.in-Some-deed.is
    (subst (λ n. n ≤ last_number)
    (clock-turn c.args.self.now c.args.going.now c.requires.turn) c.requires.numbers)
