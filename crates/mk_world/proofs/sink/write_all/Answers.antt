use denote.Ref.{Bor}
use Rattle.std.proofs.Common.{◌≡◌, ◌++◌, ◌+◌, List, ℕ, [], drop, get_or, sym, ap, ◌∙◌, arith, append_assoc}
use Rattle.std.proofs.lemmas.Grind.{common_steps}
use Rattle.mk_world.specs.Sinks.{GainsPart, all_of}
use Rattle.mk_world.proofs.SinkLemmas.{Gains-then, GainsPart-more, GainsPart-then, OnErr-from, all_of-drop}
use Rattle.mk_world.proofs.sink.write_all.Goals as goal

pub returns-in_err-write_piece-clause-cut : goal.returns-in_err-write_piece-clause-cut
returns-in_err-write_piece-clause-cut g c =
    let l = c.loop-piece in
    let pieces = c.args.pieces.now in
    let nothing : Bor (List ℕ) = record { ref_ptr = (0, 0); now = [] } in
    let here = (get_or pieces l.piece-index nothing).now in
    let after = all_of (drop (l.piece-index + 1) pieces) in
    let whole : all_of pieces ≡ l.invariant.written.0 ++ (here ++ after) =
    l.invariant.written.1
    ∙ ap (λ b. l.invariant.written.0 ++ b)
    (all_of-drop pieces l.piece-index nothing c.loop-piece-test.true) in
    let cut : GainsPart (g.S.Sink.held l.sink) (g.S.Sink.held c.write_piece.new.sink)
    (here ++ after) =
    GainsPart-more _ _ here after c.in_err-write_piece.ensures.cut in
    let all : GainsPart (g.S.Sink.held c.args.sink.now) (g.S.Sink.held c.write_piece.new.sink)
    (all_of pieces) =
    rw whole (GainsPart-then _ _ _ _ _ l.invariant.written.2 cut) in
    OnErr-from _ all

pub loop-piece-preserved : goal.loop-piece-preserved
loop-piece-preserved g c =
    let l = c.loop-piece in
    let pieces = c.args.pieces.now in
    let nothing : Bor (List ℕ) = record { ref_ptr = (0, 0); now = [] } in
    let here = (get_or pieces l.piece-index nothing).now in
    let part = l.invariant.written.0 in
    let step = all_of-drop pieces l.piece-index nothing c.loop-piece-test.true in
    record {
      written = (
        part ++ here,
        l.invariant.written.1 ∙ ap (λ b. part ++ b) step ∙ sym (append_assoc part _ _),
        Gains-then _ _ _ part here l.invariant.written.2 c.in_ok-write_piece.ensures.done,
      );
      faults = grind (arith, common_steps);
    }
