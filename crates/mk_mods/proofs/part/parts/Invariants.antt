use Rattle.std.proofs.Common.{◌≡◌, ◌≤◌, length, take, drop, map}
use Rattle.mk_mods.specs.Parts.{part_of}
use Rattle.mk_pieces.specs.Pieces.{texts_of, furthest}
use Rattle.mk_mods.proofs.part.parts.Given as goal

-- the words so far are cut, and those that are left are as they were
abbrev pub invariant-loop-word : goal.invariant-loop-word
invariant-loop-word l = record {
  within : furthest l.word-items ≤ length l.region.bytes;
  cut : texts_of l.region.bytes (take l.word-index l.word-items)
      ≡ map (part_of l.part) (texts_of l.region.bytes (take l.word-index l.fn.words.items));
  left : drop l.word-index l.word-items ≡ drop l.word-index l.fn.words.items;
  len : length l.word-items ≡ length l.fn.words.items;
}
