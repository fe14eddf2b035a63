use Rattle.std.proofs.Common.{subst}
use Rattle.mk_decision.proofs.LookLemmas.{looks-none}
use Rattle.mk_decision.proofs.ReasonLemmas.{none-of}
use Rattle.mk_decision.specs.Metas.{AreOf, no_paths}
use Rattle.mk_audit.proofs.filed.path_times.Goals as goal

pub returns-in_default-clause-seen : goal.returns-in_default-clause-seen
returns-in_default-clause-seen g c =
    let ignored = c.args.maker.now.made.now.mode.ignore_paths in (
      no_paths,
      subst (λ r. AreOf ignored r no_paths) c.in_default.ensures (none-of ignored),
      looks-none g.W.World.meaning _,
      c.in_ok-no_times.ensures,
    )
