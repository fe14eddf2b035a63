use Rattle.std.proofs.Common.{◌≡◌, ◌++◌, drop}
use Rattle.mk_pieces.specs.Letters.{in_case}
use Rattle.mk_pieces.proofs.letters.push_recased.Given as goal

-- the bytes so far, and those of the text that is left
abbrev pub invariant-loop-byte : goal.invariant-loop-byte
invariant-loop-byte l =
    l.out.items ++ in_case l.small (drop l.byte-index l.text)
    ≡ l.initial.out.items ++ in_case l.small l.text
