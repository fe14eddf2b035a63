use Rattle.std.proofs.Common.{◌≡◌, ◌+◌, ◌++◌, ◌∷◌, [], decimal, arith}
use Rattle.std.proofs.lemmas.List.FromFn.{map-range_with_len_more}
use Rattle.mk_mods.specs.Places.{numbers}
use Rattle.mk_pieces.proofs.PieceLemmas.{Begins-trans}
use Rattle.mk_mods.proofs.PieceLemmas.{Shows-begins, Shows-push}
use Rattle.mk_mods.proofs.places.place_numbers.Goals as goal

pub loop-before-preserved : goal.loop-before-preserved
loop-before-preserved c =
    let here = c.loop-before.region.bytes in
    let new = c.place_number.new.region.bytes in
    let count = c.loop-before.before in
    let pieces = c.loop-before.pieces.items in
    let begins = c.place_number.ensures.begins in
    let before = Shows-begins here new pieces (numbers count) begins c.loop-before.invariant.shows in
    let more : numbers (count + 1) ≡ numbers count ++ decimal (count + 1) ∷ [] =
    map-range_with_len_more decimal 1 count (count + 1) (omega arith)
    in
    record {
      shows = rw (c.in_ok-push.ensures.items, more)
          (Shows-push new pieces (numbers count) c.in_ok-place_number.field-0 (decimal (count + 1)) before
          c.in_ok-place_number.ensures.within c.in_ok-place_number.ensures.shown);
      begins = Begins-trans c.args.region.now.bytes here new c.loop-before.invariant.begins begins;
    }
