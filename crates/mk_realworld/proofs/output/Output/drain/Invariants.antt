use Rattle.std.proofs.Common.{◌≡◌, length}
use Rattle.mk_realworld.proofs.output.Output.drain.Given as goal

-- the buffer is as long as before
abbrev pub invariant-loop : goal.invariant-loop
invariant-loop l = length l.buffer ≡ length l.fn.buffer
