use Rattle.std.proofs.Common.{◌≡◌, ◌∷◌, ◌++◌, ◌+◌, ◌<◌, length, [], drop, get_or, sym, ap, ◌∙◌, arith, append_assoc}
use Rattle.std.proofs.lemmas.Grind.{common_steps}
use Rattle.std.proofs.lemmas.List.{append-nil, drop_more}
use Rattle.mk_bytes.specs.Bytes.{space}
use Rattle.mk_world.specs.Sinks.{GainsPart}
use Rattle.mk_world.proofs.SinkLemmas.{Gains-then, GainsPart-more, GainsPart-then, OnErr-from}
use Rattle.mk_modes.specs.Messages.{spaced}
use Rattle.mk_modes.proofs.message.write_names.Goals as goal

pub returns-in_err-write_all-clause-cut : goal.returns-in_err-write_all-clause-cut
returns-in_err-write_all-clause-cut g c =
    let l = c.loop-name in
    let names = c.args.names.now in
    let within : l.name-index < length names = grind (arith, common_steps) in
    let here = (space ∷ []) ++ get_or names l.name-index [] in
    let same : c.bytes.result.now ++ [] ≡ get_or names l.name-index [] =
    append-nil c.bytes.result.now ∙ grind (arith, common_steps) in
    let after = spaced (drop (l.name-index + 1) names) in
    let whole : spaced names ≡ l.invariant.written.0 ++ (here ++ after) =
    l.invariant.written.1 ∙ ap (λ b. l.invariant.written.0 ++ spaced b)
    (drop_more names l.name-index [] within) in
    let cut : GainsPart (g.S.Sink.held l.sink) (g.S.Sink.held c.write_all.new.sink)
    (here ++ after) =
    GainsPart-more _ _ here after (rw same at c.in_err-write_all.ensures.cut) in
    let all : GainsPart (g.S.Sink.held c.args.sink.now) (g.S.Sink.held c.write_all.new.sink)
    (spaced names) =
    rw whole (GainsPart-then _ _ _ _ _ l.invariant.written.2 cut) in
    OnErr-from _ all

pub loop-name-preserved : goal.loop-name-preserved
loop-name-preserved g c =
    let l = c.loop-name in
    let names = c.args.names.now in
    let within : l.name-index < length names = grind (arith, common_steps) in
    let here = (space ∷ []) ++ get_or names l.name-index [] in
    let same : c.bytes.result.now ++ [] ≡ get_or names l.name-index [] =
    append-nil c.bytes.result.now ∙ grind (arith, common_steps) in
    let part = l.invariant.written.0 in
    let step = ap spaced (drop_more names l.name-index [] within) in
    record {
      written = (
        part ++ here,
        l.invariant.written.1 ∙ ap (λ b. part ++ b) step ∙ sym (append_assoc part _ _),
        Gains-then _ _ _ part here l.invariant.written.2
            (rw same at c.in_ok-write_all.ensures.done),
      );
      faults = grind (arith, common_steps);
    }
