use Rattle.std.proofs.Common.{◌≡◌, drop}
use Rattle.mk_world.specs.History.{tickets_of}
use Rattle.mk_memworld.specs.Schedule.{going, named}
use Rattle.mk_memworld.proofs.chronicle.nth_going.Given as goal

-- the child is still to come, and so many are to be counted
abbrev pub invariant-loop-child : goal.invariant-loop-child
invariant-loop-child l =
    named l.left (going l.ended (tickets_of (drop l.child-index l.children)))
    ≡ named l.number (going l.ended (tickets_of l.children))
