use Rattle.std.proofs.Common.{◌≡◌, ◌++◌, ◌+◌, ◌<◌, length, [], drop, get_or, sym, ap, ◌∙◌, arith, append_assoc}
use Rattle.std.proofs.lemmas.Grind.{common_steps}
use Rattle.std.proofs.lemmas.List.{append-nil, drop_more}
use Rattle.mk_explain.specs.declared.reason.Reason.{Reason}
use Rattle.mk_oodate.specs.declared.reason.Why.TheVariants.{Always}
use Rattle.mk_modes.specs.Explaining.{lines_of}
use Rattle.mk_world.specs.Sinks.{GainsPart}
use Rattle.mk_world.proofs.SinkLemmas.{Gains-then, GainsPart-more, GainsPart-then, OnErr-from}
use Rattle.mk_modes.proofs.explaining.print_reasons.Goals as goal

abbrev no_reason : Reason
no_reason = record { node = 0; why = Always; line = [] }

pub returns-in_err-write_all-clause-cut : goal.returns-in_err-write_all-clause-cut
returns-in_err-write_all-clause-cut g c =
    let l = c.loop-reason in
    let reasons = c.args.reasons.now in
    let within : l.reason-index < length reasons = grind (arith, common_steps) in
    let here = (get_or reasons l.reason-index no_reason).line in
    let same : c.bytes.result.now ++ [] ≡ here = append-nil c.bytes.result.now ∙ grind (arith, common_steps) in
    let after = lines_of (drop (l.reason-index + 1) reasons) in
    let whole : lines_of reasons ≡ l.invariant.written.0 ++ (here ++ after) =
    l.invariant.written.1 ∙ ap (λ b. l.invariant.written.0 ++ lines_of b)
    (drop_more reasons l.reason-index no_reason within) in
    let cut : GainsPart (g.S.Sink.held l.out) (g.S.Sink.held c.write_all.new.sink) (here ++ after) =
    GainsPart-more _ _ here after (rw same at c.in_err-write_all.ensures.cut) in
    let all : GainsPart (g.S.Sink.held c.args.out.now) (g.S.Sink.held c.write_all.new.sink)
    (lines_of reasons) =
    rw whole (GainsPart-then _ _ _ _ _ l.invariant.written.2 cut) in
    OnErr-from _ all

pub loop-reason-preserved : goal.loop-reason-preserved
loop-reason-preserved g c =
    let l = c.loop-reason in
    let reasons = c.args.reasons.now in
    let within : l.reason-index < length reasons = grind (arith, common_steps) in
    let here = (get_or reasons l.reason-index no_reason).line in
    let same : c.bytes.result.now ++ [] ≡ here = append-nil c.bytes.result.now ∙ grind (arith, common_steps) in
    let part = l.invariant.written.0 in
    let step = ap lines_of (drop_more reasons l.reason-index no_reason within) in
    record {
      written = (
        part ++ here,
        l.invariant.written.1 ∙ ap (λ b. part ++ b) step ∙ sym (append_assoc part _ _),
        Gains-then _ _ _ part here l.invariant.written.2 (rw same at c.in_ok-write_all.ensures.done),
      );
      faults = grind (arith, common_steps);
    }
