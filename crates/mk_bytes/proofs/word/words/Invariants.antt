use Rattle.std.proofs.Common.{◌≡◌, ◌≤◌, ◌-◌, ◌++◌, drop, length}
use Rattle.mk_bytes.specs.Words.{words_of}
use Rattle.mk_bytes.proofs.word.words.Given as goal

-- the words so far, and those of the rest
abbrev pub invariant-words : goal.invariant-words
invariant-words l = record {
  within : l.from ≤ length l.text;
  words : l.words ++ words_of (drop l.from l.text) ≡ words_of l.text;
}

abbrev pub decreases-words : goal.decreases-words
decreases-words l = length l.text - l.from
