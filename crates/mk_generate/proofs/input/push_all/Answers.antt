use denote.Ref.{Bor}
use Rattle.std.proofs.Common.{List, ℕ, [], ◌++◌, get_or, sym, ◌∙◌, ap}
use Rattle.mk_generate.proofs.InputLemmas.{all_of-take}
use Rattle.mk_generate.proofs.input.push_all.Goals as goal

pub loop-piece-preserved : goal.loop-piece-preserved
loop-piece-preserved c =
    let nothing : Bor (List ℕ) = record { ref_ptr = (0, 0); now = [] } in
    let pieces = c.args.pieces.now in
    let i = c.loop-piece.piece-index in
    let next = all_of-take pieces i nothing c.args.text.now c.loop-piece-test.true in
    c.in_ok-push.ensures.ok ∙ ap (λ text. text ++ (get_or pieces i nothing).now) c.loop-piece.invariant
    ∙ sym next
