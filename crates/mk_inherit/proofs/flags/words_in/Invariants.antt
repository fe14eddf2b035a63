use Rattle.std.proofs.Common.{◌≡◌, drop}
use Rattle.mk_inherit.specs.Flags.{all_taken, no_words}
use Rattle.mk_inherit.proofs.flags.words_in.Given as goal

-- the bytes that are left, taken from here, give what all give
abbrev pub invariant-loop-byte : goal.invariant-loop-byte
invariant-loop-byte l =
    all_taken l.split (drop l.byte-index l.text) ≡ all_taken no_words l.text
