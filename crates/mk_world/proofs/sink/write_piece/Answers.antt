use Rattle.std.proofs.Common.{◌≡◌, ◌++◌, ◌-◌, length, take, drop, sym, ap, ◌∙◌, arith, append_assoc}
use Rattle.std.proofs.lemmas.Grind.{common_steps}
use Rattle.std.proofs.lemmas.List.{take-append-drop}
use Rattle.mk_world.proofs.SinkLemmas.{Gains-then}
use Rattle.mk_world.proofs.sink.write_piece.Goals as goal

pub loop-rest-preserved : goal.loop-rest-preserved
loop-rest-preserved g c =
    let l = c.loop-rest in
    let rest = l.rest.now in
    let n = c.in_ok-written.written in
    let part = l.invariant.written.0 in
    let back : take (length rest - n) (drop n rest) ≡ drop n rest = grind (arith, common_steps) in
    let whole : c.args.piece.now ≡ (part ++ take n rest) ++ drop n rest =
    l.invariant.written.1 ∙ ap (λ bytes. part ++ bytes) (sym (take-append-drop n rest))
    ∙ sym (append_assoc part _ _) in
    record {
      written = (
        part
            ++ take n rest,
        rw back whole,
        Gains-then _ _ _ part (take n rest) l.invariant.written.2 c.in_ok-written.ensures.done,
      );
      faults = grind (arith, common_steps);
    }
