use Rattle.std.proofs.Common.{◌≡◌, ◌≤◌, ◌+◌, ◌++◌, ◌∷◌, [], length, length-append, take, get_or, refl, ◌∙◌, arith}
use Rattle.std.proofs.lemmas.Grind.{common_steps}
use Rattle.std.proofs.lemmas.List.{take_more}
use Rattle.mk_pool.specs.declared.region.Piece.{Piece}
use Rattle.mk_pieces.specs.Pieces.{texts_of}
use Rattle.mk_pieces.proofs.PieceLemmas.{Begins-append, Begins-under, bytes_of-new, texts_of-push}
use Rattle.mk_mods.proofs.PieceLemmas.{Shows-begins, Shows-push, total-push}
use Rattle.mk_mods.proofs.val.lined_up.Goals as goal

pub loop-piece-preserved : goal.loop-piece-preserved
loop-piece-preserved c =
    let region = c.args.region.now.bytes in
    let first = take c.args.len region in
    let before = c.loop-piece.bytes in
    let text = c.shown-text.result.now in
    let pieces = c.args.pieces.now in
    let at = c.loop-piece.piece-index in
    let texts = texts_of region (take at pieces) in
    let nowhere : Piece = record { start = 0; end = 0 } in
    let more : take (at + 1) pieces ≡ take at pieces ++ get_or pieces at nowhere ∷ [] =
    take_more pieces at nowhere c.loop-piece-test.true in
    let grown : texts_of region (take (at + 1) pieces) ≡ texts ++ text ∷ [] =
    rw (more, texts_of-push, c.shown-text.ensures.value) refl in
    let long : length first ≡ c.args.len = grind (arith, common_steps, c.requires) in
    let start : c.args.len + c.len.result ≡ length first + length before =
    omega (arith, long, c.len.ensures.value) in
    let end : c.args.len + c.len-in-loop-piece.result ≡ length first + length (before ++ text) =
    rw (← c.in_ok-push.ensures.ok) (omega (arith, long, c.len-in-loop-piece.ensures.value)) in
    let piece = c.in_ok-piece_between.field-0 in
    let lies = c.in_ok-piece_between.ensures in
    let shows = Shows-begins (first ++ before) (first ++ (before ++ text)) c.loop-piece.moved.items
    texts (Begins-under first before (before ++ text) (Begins-append before text))
    c.loop-piece.invariant.shows in
    let within : piece.end ≤ length (first ++ (before ++ text)) = rw length-append (omega (arith, end, lies.1)) in
    record {
      shows = rw (c.in_ok-push-2.ensures.items, c.in_ok-push.ensures.ok, grown)
          (Shows-push (first ++ (before ++ text)) c.loop-piece.moved.items texts piece text shows within
          (bytes_of-new first before text piece.start piece.end (lies.0 ∙ start) (lies.1 ∙ end)));
      small = rw (c.in_ok-push.ensures.ok, grown, total-push, length-append)
          (omega (arith, c.loop-piece.invariant.small));
    }
