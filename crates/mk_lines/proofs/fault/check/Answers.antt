use Rattle.std.proofs.Common.{refl, sym}
use Rattle.mk_lines.proofs.PieceLemmas.{checked-none}
use Rattle.mk_lines.proofs.fault.check.Goals as goal

pub returns-then-falls_into_short_pieces : goal.returns-then-falls_into_short_pieces
returns-then-falls_into_short_pieces c =
    sym (checked-none c.args.text.now (sym c.if-not-zeros.ensures)
    (c.if-falls_into_short_pieces.ensures refl))
