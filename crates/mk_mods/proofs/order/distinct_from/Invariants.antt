use Rattle.std.proofs.Common.{◌≡◌, ◌≤◌, ◌++◌, length, drop}
use Rattle.std.specs.List.{dedup_from}
use Rattle.std.specs.Str.{bytes_eq}
use Rattle.mk_pieces.specs.Pieces.{bytes_of, texts_of, furthest}
use Rattle.mk_mods.proofs.order.distinct_from.Given as goal

-- the words so far, and those that are left beside the last one
abbrev pub invariant-loop-word : goal.invariant-loop-word
invariant-loop-word l = record {
  last : l.last.end ≤ length l.region.bytes;
  within : furthest l.kept.items ≤ length l.region.bytes;
  words : texts_of l.region.bytes l.kept.items
      ++ dedup_from bytes_eq (bytes_of l.region.bytes l.last)
      (texts_of l.region.bytes (drop l.word-index l.rest))
      ≡ dedup_from bytes_eq (bytes_of l.region.bytes l.fn.first) (texts_of l.region.bytes l.rest);
}
