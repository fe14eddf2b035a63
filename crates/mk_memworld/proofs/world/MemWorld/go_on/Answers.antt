use Rattle.mk_memworld.proofs.TurnLemmas.{tickets-turn}
use Rattle.mk_memworld.proofs.world.MemWorld.go_on.Goals as goal

pub returns-in_err-note-clause-tickets : goal.returns-in_err-note-clause-tickets
returns-in_err-note-clause-tickets c =
    tickets-turn c.args.self.now.chronicle c.go_on.new.self c.args.going.now.ticket
    c.in_ok-go_on.ensures.ok

pub returns-clause-tickets : goal.returns-clause-tickets
returns-clause-tickets c =
    tickets-turn c.args.self.now.chronicle c.go_on.new.self c.args.going.now.ticket
    c.in_ok-go_on.ensures.ok
