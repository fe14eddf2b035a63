use Rattle.std.proofs.Common.{[], ◌∷◌, ◌++◌}
use Rattle.mk_bytes.specs.Bytes.{newline}
use Rattle.mk_modes.specs.Messages.{what_text}
use Rattle.mk_modes.proofs.MessageLemmas.{OnErr-map, OnOk-map, place-line, place_head}
use Rattle.mk_world.specs.Sinks.{Gains, GainsPart}
use Rattle.mk_world.proofs.SinkLemmas.{Gains-then, GainsPart-more, GainsPart-then, OnErr-from}
use Rattle.mk_modes.proofs.message.write_place.Goals as goal

pub returns-in_err-write_all-clause-cut : goal.returns-in_err-write_all-clause-cut
returns-in_err-write_all-clause-cut g c =
    let f = c.args.file.now in
    let n = c.args.number.now in
    let wrong = what_text c.args.what.now in
    rw (place-line f n wrong) (OnErr-from _ (GainsPart-more _ _ (place_head f n) (wrong ++ newline ∷ [])
    c.in_err-write_all.ensures.cut))

pub returns-in_err-write_all-2-clause-cut : goal.returns-in_err-write_all-2-clause-cut
returns-in_err-write_all-2-clause-cut g c =
    let f = c.args.file.now in
    let n = c.args.number.now in
    let wrong = what_text c.args.what.now in
    let part = rw c.what_text-wrong.ensures at c.in_err-write_all-2.ensures.cut in
    rw (place-line f n wrong) (OnErr-from _ (GainsPart-then _ _ _ (place_head f n) (wrong ++ newline ∷ [])
    c.in_ok-write_all.ensures.done (GainsPart-more _ _ wrong (newline ∷ []) part)))

pub returns-clause-done : goal.returns-clause-done
returns-clause-done g c =
    let f = c.args.file.now in
    let n = c.args.number.now in
    let wrong = what_text c.args.what.now in
    let end = newline ∷ [] in
    let before = g.S.Sink.held c.args.sink.now in
    let between = g.S.Sink.held c.write_all-2.new.sink in
    let after = g.S.Sink.held c.write_all-3.new.sink in
    let part = rw c.what_text-wrong.ensures at c.in_ok-write_all-2.ensures.done in
    rw (place-line f n wrong) (OnOk-map c.write_all-3.result (Gains between after end)
    (Gains before after (place_head f n ++ (wrong ++ end)))
    (λ last. Gains-then _ _ _ (place_head f n) (wrong ++ end) c.in_ok-write_all.ensures.done
    (Gains-then _ _ _ wrong end part last))
    c.write_all-3.ensures.done)

pub returns-clause-cut : goal.returns-clause-cut
returns-clause-cut g c =
    let f = c.args.file.now in
    let n = c.args.number.now in
    let wrong = what_text c.args.what.now in
    let end = newline ∷ [] in
    let before = g.S.Sink.held c.args.sink.now in
    let between = g.S.Sink.held c.write_all-2.new.sink in
    let after = g.S.Sink.held c.write_all-3.new.sink in
    let part = rw c.what_text-wrong.ensures at c.in_ok-write_all-2.ensures.done in
    rw (place-line f n wrong) (OnErr-map c.write_all-3.result (GainsPart between after end)
    (GainsPart before after (place_head f n ++ (wrong ++ end)))
    (λ last. GainsPart-then _ _ _ (place_head f n) (wrong ++ end) c.in_ok-write_all.ensures.done
    (GainsPart-then _ _ _ wrong end part last))
    c.write_all-3.ensures.cut)
