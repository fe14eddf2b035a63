use Rattle.std.proofs.Common.{◌≡◌, ◌++◌, drop}
use Rattle.mk_mods.specs.Quotes.{quoted}
use Rattle.mk_inherit.proofs.flags.push_all_quoted.Given as goal

-- the bytes so far, and those of the word that is left
abbrev pub invariant-loop-byte : goal.invariant-loop-byte
invariant-loop-byte l =
    l.out ++ quoted (drop l.byte-index l.word) ≡ l.fn.out ++ quoted l.word
