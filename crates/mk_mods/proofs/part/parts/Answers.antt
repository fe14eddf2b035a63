use Rattle.std.proofs.Common.{◌≡◌, ◌<◌, length, take, get_or, refl, ap, ◌∙◌, arith}
use Rattle.std.proofs.lemmas.List.{take_more, take_more_set, map-append, length-set}
use Rattle.mk_pool.specs.declared.region.Piece.{Piece}
use Rattle.mk_mods.specs.Parts.{part_of}
use Rattle.mk_pieces.specs.Pieces.{bytes_of}
use Rattle.mk_pieces.proofs.PieceLemmas.{texts_of-push, furthest-at}
use Rattle.mk_mods.proofs.TextLemmas.{furthest-set, same_item, same_left}
use Rattle.mk_mods.proofs.part.parts.Goals as goal

pub part_of-requires : goal.part_of-requires
part_of-requires c =
    let inside = furthest-at c.loop-word.word-items c.loop-word.word-index (record { start = 0; end = 0 })
    (omega arith)
    in
    omega (arith, inside, c.loop-word.invariant.within)

pub loop-word-preserved : goal.loop-word-preserved
loop-word-preserved c =
    let region = c.args.region.now.bytes in
    let nowhere : Piece = record { start = 0; end = 0 } in
    let place = c.loop-word.word-index in
    let items = c.loop-word.word-items in
    let old = c.args.words.items in
    let cut = c.part_of.result in
    let part = part_of c.args.part in
    let before = c.loop-word.invariant in
    let inside : place < length items = omega arith in
    let inside_old : place < length old = omega (arith, inside, before.len) in
    let one = take_more_set items place cut inside in
    let one_old = take_more old place nowhere inside_old in
    let same = same_item items old place nowhere before.left in
    let here : bytes_of region cut ≡ part (bytes_of region (get_or old place nowhere)) =
    c.part_of.ensures.shown ∙ ap (λ piece. part (bytes_of region piece)) same
    in
    let pushed = texts_of-push region (take place items) cut in
    let pushed_old = texts_of-push region (take place old) (get_or old place nowhere) in
    record {
      within = furthest-set (length region) items place cut before.within c.part_of.ensures.within;
      cut = rw (one, one_old, pushed, pushed_old, map-append, here, before.cut) refl;
      left = same_left items old place cut before.left;
      len = length-set items place cut ∙ before.len;
    }
