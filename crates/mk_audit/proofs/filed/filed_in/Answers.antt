use Rattle.std.proofs.Common.{◌∙◌, Some, None, refl, sym}
use Rattle.mk_decision.proofs.LookLemmas.{looks-none, looks-then}
use Rattle.mk_decision.proofs.SightLemmas.{some-behind}
use Rattle.mk_decision.specs.Metas.{file_looks, path_looks}
use Rattle.mk_meta.specs.TrueHistory.{meta_path}
use Rattle.mk_plan.specs.Plans.{node_at}
use Rattle.mk_world.proofs.SinkLemmas.{OnErr-from}
use Rattle.mk_audit.proofs.filed.filed_in.Goals as goal

pub returns-then-not-is_meta-clause-filed : goal.returns-then-not-is_meta-clause-filed
returns-then-not-is_meta-clause-filed g c = (
  None,
  sym c.is_meta.ensures ∙ c.if-not-is_meta.true,
  looks-none g.W.World.meaning _,
  rw c.in_ok-times.ensures refl,
)

pub returns-clause-filed : goal.returns-clause-filed
returns-clause-filed g c =
    let path = meta_path (node_at c.args.maker.now.plan.now c.args.node).name in
    let file = c.in_ok-file.file in
    let seen = c.in_ok-file.ensures.seen in
    let more = c.in_ok-paths.ensures.seen in (
      Some (record { bytes = seen.0; value = file.value; when = file.when; paths = more.0 }),
      (sym c.is_meta.ensures ∙ c.if-not-is_meta.false, seen.1, more.1),
      looks-then g.W.World.meaning _ _ _ (file_looks path seen.0 file.when) (path_looks more.0)
          seen.2 more.2,
      rw more.3 refl,
    )

pub returns-in_err-paths-clause-some : goal.returns-in_err-paths-clause-some
returns-in_err-paths-clause-some g c =
    let path = meta_path (node_at c.args.maker.now.plan.now c.args.node).name in
    let file = c.in_ok-file.file in
    let seen = c.in_ok-file.ensures.seen in
    OnErr-from c.from_residual-in_err-paths.result
    (some-behind g.W.World.meaning _ _ _ (file_looks path seen.0 file.when) seen.2
    c.in_err-paths.ensures.some)
