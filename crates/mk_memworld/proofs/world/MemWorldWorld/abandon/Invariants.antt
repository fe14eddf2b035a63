use Rattle.std.proofs.Common.{◌≡◌, ◌++◌, length}
use Rattle.mk_world.specs.Calls.{left_all}
use Rattle.mk_world.specs.History.{state_of, tickets_of}
use Rattle.mk_memworld.proofs.world.MemWorldWorld.abandon.Given as goal

-- the children that were there are given up, or are still to be
abbrev pub invariant-loop-self : goal.invariant-loop-self
invariant-loop-self l = record {
  base : l.self.chronicle.base ≡ l.initial.self.chronicle.base;
  events : l.self.chronicle.events ++ left_all (state_of l.self.chronicle).children
      ≡ l.initial.self.chronicle.events ++ left_all (state_of l.initial.self.chronicle).children;
  runs : tickets_of (state_of l.self.chronicle).children ≡ l.kids.tickets;
  outages : l.self.outages ≡ l.initial.self.outages;
  schedule : l.self.schedule ≡ l.initial.self.schedule;
  room : l.kids.room ≡ l.initial.kids.room;
}

abbrev pub decreases-loop-self : goal.decreases-loop-self
decreases-loop-self l = length l.kids.tickets
