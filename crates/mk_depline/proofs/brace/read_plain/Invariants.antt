use Rattle.std.proofs.Common.{◌≡◌, ◌-◌, length}
use Rattle.mk_depline.specs.Braces.{IsPlaced, word_of}
use Rattle.mk_depline.proofs.brace.read_plain.Given as goal

-- the same word
abbrev pub invariant-bytes : goal.invariant-bytes
invariant-bytes l = record {
  word : word_of l.word l.reading ≡ word_of l.word l.initial.reading;
  most : l.reading.most ≡ l.initial.reading.most;
  placed : IsPlaced l.word l.reading.text l.reading.at l.reading.depth;
}

abbrev pub decreases-bytes : goal.decreases-bytes
decreases-bytes l = length l.word - l.reading.at
