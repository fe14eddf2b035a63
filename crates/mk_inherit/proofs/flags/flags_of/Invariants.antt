use Rattle.std.proofs.Common.{◌≡◌, ◌++◌, drop}
use Rattle.mk_inherit.specs.Flags.{flags}
use Rattle.mk_inherit.proofs.flags.flags_of.Given as goal

-- the bytes so far, and those of the words that are left
abbrev pub invariant-loop-word : goal.invariant-loop-word
invariant-loop-word l = l.out ++ flags (drop l.word-index l.words) ≡ flags l.words
