use Rattle.std.proofs.Common.{◌≡◌, false, nat_eq, take}
use Rattle.std.specs.List.{list_any}
use Rattle.mk_memworld.proofs.world.place_in.Given as goal

-- no ticket so far is this one
abbrev pub invariant-loop-place : goal.invariant-loop-place
invariant-loop-place l = list_any (nat_eq l.ticket) (take l.place l.kids.tickets) ≡ false
