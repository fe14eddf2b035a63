use Rattle.std.proofs.Common.{◌≡◌, ◌∙◌, ◌++◌, Some, false, refl, sym}
use Rattle.mk_world.proofs.SinkLemmas.{Gains-then, GainsPart-more, GainsPart-then, OnErr-from}
use Rattle.mk_trace.specs.Output.{echo}
use Rattle.mk_trace.specs.Runs.{is_empty}
use Rattle.mk_decision.proofs.PieceLemmas.{on_ok, on_err}
use Rattle.mk_child.proofs.child.print_end.Goals as goal

pub returns-in_err-print_marker-clause-cut : goal.returns-in_err-print_marker-clause-cut
returns-in_err-print_marker-clause-cut g c =
    let some : is_empty (echo (Some c.args.line.now) ++ c.args.output.now) ≡ false =
    sym c.prints_nothing.ensures ∙ c.if-prints_nothing.false in
    OnErr-from c.from_residual.result
    (rw some (GainsPart-more _ _ _ _ c.in_err-print_marker.ensures.cut))

pub returns-in_err-print_marker-clause-last : goal.returns-in_err-print_marker-clause-last
returns-in_err-print_marker-clause-last g c =
    let some : is_empty (echo (Some c.args.line.now) ++ c.args.output.now) ≡ false =
    sym c.prints_nothing.ensures ∙ c.if-prints_nothing.false in
    rw some refl

pub returns-clause-done : goal.returns-clause-done
returns-clause-done g c =
    let some : is_empty (echo (Some c.args.line.now) ++ c.args.output.now) ≡ false =
    sym c.prints_nothing.ensures ∙ c.if-prints_nothing.false in
    rw some (on_ok c.print_piece.result
    (Gains-then _ _ _ _ _ c.in_ok-print_marker.ensures.done) c.print_piece.ensures.done)

pub returns-clause-cut : goal.returns-clause-cut
returns-clause-cut g c =
    let some : is_empty (echo (Some c.args.line.now) ++ c.args.output.now) ≡ false =
    sym c.prints_nothing.ensures ∙ c.if-prints_nothing.false in
    rw some (on_err c.print_piece.result
    (GainsPart-then _ _ _ _ _ c.in_ok-print_marker.ensures.done) c.print_piece.ensures.cut)

pub returns-clause-last : goal.returns-clause-last
returns-clause-last g c =
    let some : is_empty (echo (Some c.args.line.now) ++ c.args.output.now) ≡ false =
    sym c.prints_nothing.ensures ∙ c.if-prints_nothing.false in
    rw some refl
