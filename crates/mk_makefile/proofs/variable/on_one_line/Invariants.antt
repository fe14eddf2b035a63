use Rattle.std.proofs.Common.{◌≡◌, map, take}
use Rattle.mk_makefile.specs.Variables.{as_space}
use Rattle.mk_makefile.proofs.variable.on_one_line.Given as goal

-- the bytes so far
abbrev pub invariant-loop-byte : goal.invariant-loop-byte
invariant-loop-byte l = l.line ≡ map as_space (take l.byte-index l.rest)
