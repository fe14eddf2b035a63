use Rattle.std.proofs.Common.{sym, ◌∙◌, ap}
use Rattle.std.specs.List.{remove}
use Rattle.mk_world.specs.History.{state_of}
use Rattle.mk_memworld.proofs.WorldLemmas.{GaveUp-leave, adds_left, some_children}
use Rattle.mk_memworld.proofs.world.MemWorldWorld.abandon.Goals as goal

pub leave-requires : goal.leave-requires
leave-requires c =
    some_children (state_of c.loop-self.self.chronicle).children c.loop-self.kids.tickets
    c.loop-self.invariant.runs
    (λ none. let empty = c.is_empty.ensures.1 none in absurd (cc (empty, c.loop-self-test.true)))

pub loop-self-preserved : goal.loop-self-preserved
loop-self-preserved c =
    let mid = c.loop-self.self.chronicle in
    let gone = GaveUp-leave mid c.leave.new.self c.leave.ensures in record {
      base = gone.base ∙ c.loop-self.invariant.base;
      events = gone.events ∙ c.loop-self.invariant.events;
      runs = gone.tickets ∙ ap (λ ks. remove ks 0) c.loop-self.invariant.runs
          ∙ sym c.take.ensures.tickets;
      outages = c.loop-self.invariant.outages;
      schedule = c.loop-self.invariant.schedule;
      room = c.take.ensures.room ∙ c.loop-self.invariant.room;
    }

pub returns-clause-done : goal.returns-clause-done
returns-clause-done c =
    adds_left c.args.self.now.chronicle c.loop-self.self.chronicle c.loop-self.invariant.base
    c.loop-self.invariant.events
    (c.loop-self.invariant.runs ∙ c.is_empty.ensures.0 c.loop-self-test.false)
