use Rattle.std.proofs.Common.{◌≡◌, drop}
use Rattle.mk_world.specs.History.{child_in}
use Rattle.mk_memworld.proofs.chronicle.find.Given as goal

-- no child so far has the ticket
abbrev pub invariant-loop-child : goal.invariant-loop-child
invariant-loop-child l =
    child_in (drop l.child-index l.children) l.ticket ≡ child_in l.children l.ticket
