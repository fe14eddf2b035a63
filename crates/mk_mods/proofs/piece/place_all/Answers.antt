use Rattle.std.proofs.Common.{◌≡◌, ◌+◌, ◌++◌, ◌∷◌, [], ◌∙◌, take, get_or, arith}
use Rattle.std.proofs.lemmas.List.{take_more}
use Rattle.mk_pieces.proofs.PieceLemmas.{Begins-trans}
use Rattle.mk_mods.proofs.PieceLemmas.{Shows-begins, Shows-push}
use Rattle.mk_mods.proofs.piece.place_all.Goals as goal

pub loop-text-preserved : goal.loop-text-preserved
loop-text-preserved c =
    let old = c.loop-text.region.bytes in
    let new = c.place.new.region.bytes in
    let texts = c.args.texts.now in
    let at = c.loop-text.text-index in
    let begins = c.place.ensures.begins in
    let before = Shows-begins old new c.loop-text.pieces.items (take at texts) begins
    c.loop-text.invariant.shows
    in
    let more : take (at + 1) texts ≡ take at texts ++ get_or texts at c.text-item.result ∷ [] =
    take_more texts at c.text-item.result (omega arith)
    in
    record {
      shows = rw (c.in_ok-push.ensures.items, more)
          (Shows-push new c.loop-text.pieces.items (take at texts) c.in_ok-place.field-0 _ before
          c.in_ok-place.ensures.within (c.in_ok-place.ensures.shown ∙ c.bytes.ensures.value ∙ c.text-item.is));
      begins = Begins-trans c.args.region.now.bytes old new c.loop-text.invariant.begins begins;
    }
