use Rattle.std.proofs.Common.{◌≡◌, ◌+◌, ◌-◌, length, take, drop, sym, ◌∙◌, arith}
use Rattle.std.proofs.lemmas.Grind.{common_steps}
use Rattle.mk_bytes.specs.Words.{is_white}
use Rattle.mk_bytes.proofs.PieceLemmas.{slice_split-found, slice_split-none}
use Rattle.mk_bytes.proofs.word.first_piece.Goals as goal

pub returns-in-Some-clause-pieces : goal.returns-in-Some-clause-pieces
returns-in-Some-clause-pieces c =
    let text = c.args.text.now in
    let at = c.in-Some.at in
    let rest : take (length text - (at + 1)) (drop (at + 1) text) ≡ drop (at + 1) text =
    grind (arith, common_steps) in
    rw rest (slice_split-found is_white text at (sym c.first_white.ensures ∙ c.in-Some.is))

pub returns-in-None-clause-pieces : goal.returns-in-None-clause-pieces
returns-in-None-clause-pieces c =
    slice_split-none is_white c.args.text.now (sym c.first_white.ensures ∙ c.in-None.is)
