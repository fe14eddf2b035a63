use Rattle.std.proofs.Common.{◌∷◌, []}
use Rattle.mk_world.proofs.SinkLemmas.{OnErr-from}
use Rattle.mk_world.specs.Looks.{read}
use Rattle.mk_decision.proofs.LookLemmas.{looks-read, looks-refused, looks-then, looks-timed}
use Rattle.mk_decision.proofs.SightLemmas.{some-next}
use Rattle.mk_decision.proofs.opening.look_at_file.Goals as goal

pub returns-in_err-bytes-clause-some : goal.returns-in_err-bytes-clause-some
returns-in_err-bytes-clause-some g c =
    OnErr-from c.from_residual.result (record {
      seen = [];
      looked = looks-refused g.W.World.meaning _ _ c.in_err-bytes.ensures.refused;
    })

pub returns-in_err-when-clause-some : goal.returns-in_err-when-clause-some
returns-in_err-when-clause-some g c =
    OnErr-from c.from_residual-in_err-when.result
    (some-next g.W.World.meaning _ _ _ (read c.args.path.now c.in_ok-bytes.bytes ∷ []) []
    (looks-read g.W.World.meaning _ _ c.args.path.now c.in_ok-bytes.bytes c.in_ok-bytes.ensures.done)
    (looks-refused g.W.World.meaning _ _ c.in_err-when.ensures.refused))

pub returns-in_err-value-clause-some : goal.returns-in_err-value-clause-some
returns-in_err-value-clause-some g c =
    OnErr-from c.from_residual-in_err-value.result
    (some-next g.W.World.meaning _ _ _ (read c.args.path.now c.in_ok-bytes.bytes ∷ []) _
    (looks-read g.W.World.meaning _ _ c.args.path.now c.in_ok-bytes.bytes c.in_ok-bytes.ensures.done)
    (looks-timed g.W.World.meaning _ _ c.args.path.now c.in_ok-when.when c.in_ok-when.ensures.done))

pub returns-clause-seen : goal.returns-clause-seen
returns-clause-seen g c =
    let path = c.args.path.now in
    let bytes = c.in_ok-bytes.bytes in (
      bytes,
      c.in_ok-value.ensures,
      looks-then g.W.World.meaning _ _ _ (read path bytes ∷ []) _
          (looks-read g.W.World.meaning _ _ path bytes c.in_ok-bytes.ensures.done)
          (looks-timed g.W.World.meaning _ _ path c.in_ok-when.when c.in_ok-when.ensures.done),
    )
