use Rattle.std.proofs.Common.{[], ◌∷◌, ◌++◌}
use Rattle.std.specs.Prelude.{codes}
use Rattle.mk_bytes.specs.Bytes.{newline}
use Rattle.mk_modes.specs.Messages.{spaced}
use Rattle.mk_modes.proofs.MessageLemmas.{OnOk-map}
use Rattle.mk_world.specs.Sinks.{Gains}
use Rattle.mk_world.proofs.SinkLemmas.{Gains-then, GainsPart-more, GainsPart-then, OnErr-from}
use Rattle.mk_modes.proofs.message.write_cycle.Goals as goal

pub returns-in_err-write_all-clause-cut : goal.returns-in_err-write_all-clause-cut
returns-in_err-write_all-clause-cut g c =
    OnErr-from _ (GainsPart-more _ _ (codes "bmake: graph cycles through")
    (spaced c.args.names.now ++ newline ∷ []) c.in_err-write_all.ensures.cut)

pub returns-in_err-write_names-clause-cut : goal.returns-in_err-write_names-clause-cut
returns-in_err-write_names-clause-cut g c =
    OnErr-from _ (GainsPart-then _ _ _ (codes "bmake: graph cycles through")
    (spaced c.args.names.now ++ newline ∷ []) c.in_ok-write_all.ensures.done
    (GainsPart-more _ _ (spaced c.args.names.now) (newline ∷ []) c.in_err-write_names.ensures.cut))

pub returns-clause-done : goal.returns-clause-done
returns-clause-done g c =
    let head = codes "bmake: graph cycles through" in
    let names = spaced c.args.names.now in
    let end = newline ∷ [] in
    let before = g.S.Sink.held c.args.sink.now in
    let between = g.S.Sink.held c.write_names.new.sink in
    let after = g.S.Sink.held c.write_all-2.new.sink in
    OnOk-map c.write_all-2.result (Gains between after end)
    (Gains before after (head ++ (names ++ end)))
    (λ last. Gains-then _ _ _ head (names ++ end) c.in_ok-write_all.ensures.done
    (Gains-then _ _ _ names end c.in_ok-write_names.ensures.done last))
    c.write_all-2.ensures.done
