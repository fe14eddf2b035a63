use Rattle.std.proofs.Common.{◌≡◌, ◌≤◌, ◌++◌, length, drop}
use Rattle.std.specs.List.{flat_map}
use Rattle.mk_mods.specs.State.{words_in}
use Rattle.mk_pieces.specs.Pieces.{texts_of, furthest}
use Rattle.mk_mods.proofs.piece.cut_words.Given as goal

-- the words so far, and those of the items that are left
abbrev pub invariant-loop-item : goal.invariant-loop-item
invariant-loop-item l = record {
  within : furthest l.words.items ≤ length l.region.bytes;
  words : texts_of l.region.bytes l.words.items
      ++ flat_map words_in (texts_of l.region.bytes (drop l.item-index l.items))
      ≡ flat_map words_in (texts_of l.region.bytes l.items);
}
