use denote.Ref.{Bor}
use Rattle.std.proofs.Common.{◌∙◌, ◌+◌, ◌++◌, ℕ, List, [], take, drop, get_or, ap, sym, append_assoc, arith}
use Rattle.std.proofs.lemmas.Grind.{common_steps}
use Rattle.mk_world.specs.Sinks.{all_of}
use Rattle.mk_world.proofs.SinkLemmas.{all_of-drop}
use Rattle.mk_child.proofs.joined.join.Goals as goal

pub loop-piece-preserved : goal.loop-piece-preserved
loop-piece-preserved c =
    let l = c.loop-piece in
    let pieces = c.args.pieces.now in
    let nothing : Bor (List ℕ) = record { ref_ptr = (0, 0); now = [] } in
    let here = (get_or pieces l.piece-index nothing).now in
    let after = all_of (drop (l.piece-index + 1) pieces) in
    let step = all_of-drop pieces l.piece-index nothing c.loop-piece-test.true in
    record {
      within = grind (arith, common_steps);
      joined = rw c.in_ok-end.ensures.behind
          (l.invariant.joined ∙ (ap (λ b. take l.end l.buffer ++ b) step
          ∙ sym (append_assoc (take l.end l.buffer) here after)));
    }
