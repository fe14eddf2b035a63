use Rattle.std.proofs.Common.{◌≡◌, ◌+◌, true, false, length, drop, get_or, sym, ap, ◌∙◌, arith}
use Rattle.std.proofs.lemmas.List.{append_assoc}
use Rattle.std.proofs.lemmas.Grind.{common_steps}
use Rattle.std.specs.List.{dedup_from}
use Rattle.std.specs.Str.{bytes_eq}
use Rattle.mk_pool.specs.declared.region.Piece.{Piece}
use Rattle.mk_pieces.specs.Pieces.{bytes_of, texts_of}
use Rattle.mk_pieces.proofs.PieceLemmas.{texts_of-push, furthest-push, furthest-at}
use Rattle.mk_pieces.proofs.PieceLemmas.{texts_of-more}
use Rattle.mk_mods.proofs.TextLemmas.{dedup_from-same, dedup_from-other}
use Rattle.mk_mods.proofs.order.distinct_from.Goals as goal

pub loop-word-preserved-then-eq : goal.loop-word-preserved-then-eq
loop-word-preserved-then-eq c =
    let region = c.args.region.now.bytes in
    let nowhere : Piece = record { start = 0; end = 0 } in
    let place = c.loop-word.word-index in
    let rest = c.args.rest.now in
    let more = texts_of-more region rest place nowhere c.loop-word-test.true in
    let same : bytes_eq (bytes_of region (get_or rest place nowhere)) (bytes_of region c.loop-word.last) ≡ true =
    rw (← c.shown.ensures.value, ← c.shown-in-loop-word.ensures.value) (sym c.if-eq.ensures)
    in
    let step = ap (dedup_from bytes_eq (bytes_of region c.loop-word.last)) more
    ∙ dedup_from-same _ _ (texts_of region (drop (place + 1) rest)) same
    in
    record {
      last = c.loop-word.invariant.last;
      within = c.loop-word.invariant.within;
      words = rw step at c.loop-word.invariant.words;
    }

pub loop-word-preserved : goal.loop-word-preserved
loop-word-preserved c =
    let region = c.args.region.now.bytes in
    let nowhere : Piece = record { start = 0; end = 0 } in
    let place = c.loop-word.word-index in
    let rest = c.args.rest.now in
    let last = c.loop-word.last in
    let more = texts_of-more region rest place nowhere c.loop-word-test.true in
    let other : bytes_eq (bytes_of region (get_or rest place nowhere)) (bytes_of region last) ≡ false =
    rw (← c.shown.ensures.value, ← c.shown-in-loop-word.ensures.value) (sym c.if-eq.ensures)
    in
    let step = ap (dedup_from bytes_eq (bytes_of region last)) more
    ∙ dedup_from-other _ _ (texts_of region (drop (place + 1) rest)) other
    in
    let inside = furthest-at rest place nowhere c.loop-word-test.true in
    record {
      last = omega (arith, inside, c.requires.rest);
      within = rw c.in_ok-push.ensures.items
          (furthest-push (length region) _ last c.loop-word.invariant.within c.loop-word.invariant.last);
      words = rw (c.in_ok-push.ensures.items, texts_of-push, append_assoc)
          (rw step at c.loop-word.invariant.words);
    }

pub returns : goal.returns
returns c =
    let region = c.args.region.now.bytes in
    let last = c.loop-word.last in
    record {
      within = rw c.in_ok-push-2.ensures.items
          (furthest-push (length region) _ last c.loop-word.invariant.within c.loop-word.invariant.last);
      shown = rw (c.in_ok-push-2.ensures.items, texts_of-push)
          (grind (arith, common_steps, c.loop-word.invariant.words));
    }
