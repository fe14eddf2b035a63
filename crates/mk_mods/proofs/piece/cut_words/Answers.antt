use Rattle.std.proofs.Common.{arith}
use Rattle.mk_pieces.proofs.PieceLemmas.{furthest-at}
use Rattle.mk_mods.proofs.piece.cut_words.Goals as goal

pub push_words-requires-clause-item : goal.push_words-requires-clause-item
push_words-requires-clause-item c =
    let inside = furthest-at c.args.items.now c.loop-item.item-index (record { start = 0; end = 0 })
    (omega arith) in
    omega (arith, inside, c.requires)
