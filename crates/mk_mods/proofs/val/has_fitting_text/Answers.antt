use Rattle.std.proofs.Common.{◌+◌, ◌-◌, take, drop, length, sym, ◌∙◌}
use Rattle.mk_pool.specs.declared.region.Piece.{Piece}
use Rattle.mk_pieces.specs.Pieces.{texts_of}
use Rattle.mk_pieces.proofs.PieceLemmas.{texts_of-more}
use Rattle.mk_mods.proofs.ResultLemmas.{fits-less, none_fits}
use Rattle.mk_mods.proofs.val.has_fitting_text.Goals as goal

pub loop-piece-preserved : goal.loop-piece-preserved
loop-piece-preserved c =
    let region = c.args.region.now.bytes in
    let pieces = c.as_slice.result.now in
    let rest = take (length pieces - 1) (drop 1 pieces) in
    let l = c.loop-piece in
    let sep = c.args.val.now.separator in
    let nowhere : Piece = record { start = 0; end = 0 } in
    let more = texts_of-more region rest l.piece-index nowhere c.loop-piece-test.true in
    let left = rw (more, ← c.shown-item.ensures.value) at l.invariant in
    fits-less sep l.left.now c.shown-item.result.now
    (texts_of region (drop (l.piece-index + 1) rest)) l.room c.in-Some-room_behind.less
    c.in-Some-room_behind.ensures.0 c.in-Some-room_behind.ensures.1
    ∙ left

pub returns-in_default-room_behind : goal.returns-in_default-room_behind
returns-in_default-room_behind c =
    let region = c.args.region.now.bytes in
    let pieces = c.as_slice.result.now in
    let rest = take (length pieces - 1) (drop 1 pieces) in
    let l = c.loop-piece in
    let sep = c.args.val.now.separator in
    let nowhere : Piece = record { start = 0; end = 0 } in
    let more = texts_of-more region rest l.piece-index nowhere c.loop-piece-test.true in
    let left = rw (more, ← c.shown-item.ensures.value) at l.invariant in
    sym (none_fits sep l.left.now c.shown-item.result.now
    (texts_of region (drop (l.piece-index + 1) rest)) l.room c.in_default-room_behind.ensures)
    ∙ left
