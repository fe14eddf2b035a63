use Rattle.std.proofs.Common.{◌≡◌, ◌<◌, ◌^◌, drop}
use Rattle.mk_commands.specs.Words as spec
use Rattle.mk_commands.proofs.word.number_of.Given as goal

-- the digits so far are a number, which the rest continues
abbrev pub invariant-loop-byte : goal.invariant-loop-byte
invariant-loop-byte l =
    (l.number < 10 ^ l.byte-index)
    × (spec.continued l.number (drop l.byte-index l.word) ≡ spec.continued 0 l.word)
