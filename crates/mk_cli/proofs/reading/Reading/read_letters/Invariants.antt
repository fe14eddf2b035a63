use Rattle.std.proofs.Common.{◌≡◌, length}
use Rattle.mk_cli.specs.Words.{read_letters}
use Rattle.mk_cli.proofs.reading.Reading.read_letters.Given as goal

-- the letters that are left, read from here, give what all letters give
abbrev pub invariant-loop-rest : goal.invariant-loop-rest
invariant-loop-rest l =
    read_letters l.place l.self l.rest ≡ read_letters l.place l.fn.self l.letters

abbrev pub decreases-loop-rest : goal.decreases-loop-rest
decreases-loop-rest l = length l.rest
