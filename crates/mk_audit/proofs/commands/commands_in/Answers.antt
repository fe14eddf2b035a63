use Rattle.std.proofs.Common.{map, refl}
use Rattle.mk_decision.proofs.LookLemmas.{looks-then}
use Rattle.mk_decision.proofs.SightLemmas.{some-behind}
use Rattle.mk_world.proofs.SinkLemmas.{OnErr-from}
use Rattle.mk_world.specs.Looks.{dated}
use Rattle.mk_audit.proofs.commands.commands_in.Goals as goal

pub returns-in_err-task-clause-some : goal.returns-in_err-task-clause-some
returns-in_err-task-clause-some g c =
    let named = c.in_ok-named.ensures.named.0 in
    OnErr-from c.from_residual-in_err-task.result
    (some-behind g.W.World.meaning _ _ _ (map dated named.dates) named.looked
    c.in_err-task.ensures.some)

pub returns-clause-commands : goal.returns-clause-commands
returns-clause-commands g c =
    let named = c.in_ok-named.ensures.named in
    let found = named.0 in
    let task = c.in_ok-task.ensures.task in (
      found.dates,
      task.dates,
      looks-then g.W.World.meaning _ _ _ (map dated found.dates) (map dated task.dates) found.looked
          task.looked,
      found.all,
      task.all,
      rw (found.is, named.1, task.is) refl,
    )
