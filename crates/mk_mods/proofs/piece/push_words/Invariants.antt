use Rattle.std.proofs.Common.{◌≡◌, ◌≤◌, ◌-◌, ◌++◌, length, drop}
use Rattle.mk_mods.specs.State.{words_in}
use Rattle.mk_pieces.specs.Pieces.{texts_of, furthest}
use Rattle.mk_mods.proofs.piece.push_words.Given as goal

-- the words so far, and those of what is left of the item
abbrev pub invariant-words : goal.invariant-words
invariant-words l = record {
  from : l.from ≤ length l.text;
  within : furthest l.words.items ≤ length l.region.bytes;
  words : texts_of l.region.bytes l.words.items ++ words_in (drop l.from l.text)
      ≡ texts_of l.region.bytes l.initial.words.items ++ words_in l.text;
}

abbrev pub decreases-words : goal.decreases-words
decreases-words l = length l.text - l.from
