use Rattle.std.proofs.Common.{◌≡◌, ◌++◌, List, map, refl}
use Rattle.mk_decision.proofs.LookLemmas.{looks-then}
use Rattle.mk_decision.proofs.SightLemmas.{some-behind}
use Rattle.mk_decision.specs.Ages.{source_ages}
use Rattle.mk_decision.specs.Decisions.{newer_of}
use Rattle.mk_decision.specs.Makers.{work_of}
use Rattle.mk_decision.specs.Metas.{meta_looks}
use Rattle.mk_decision.specs.Sights.{seen_of}
use Rattle.mk_meta.specs.TrueHistory.{meta_path}
use Rattle.mk_plan.specs.Plans.{node_at}
use Rattle.mk_world.proofs.SinkLemmas.{OnErr-from}
use Rattle.mk_world.specs.Looks.{Seen, dated}
use Rattle.mk_audit.proofs.SeenLemmas.{some-of}
use Rattle.mk_audit.proofs.view.view_of.Goals as goal

pub returns-in_err-verdict-clause-some : goal.returns-in_err-verdict-clause-some
returns-in_err-verdict-clause-some g c =
    OnErr-from c.from_residual-in_err-verdict.result
    (some-of g.W.World.meaning _ _ _ c.in_ok-times.ensures.seen)

pub returns-in_err-commands-clause-some : goal.returns-in_err-commands-clause-some
returns-in_err-commands-clause-some g c =
    OnErr-from c.from_residual-in_err-commands.result
    (some-behind g.W.World.meaning _ _ _ _ c.in_ok-times.ensures.seen
    c.in_err-commands.ensures.some)

pub returns-in_err-filed-clause-some : goal.returns-in_err-filed-clause-some
returns-in_err-filed-clause-some g c =
    let commands = c.in_ok-commands.ensures.commands in
    OnErr-from c.from_residual-in_err-filed.result
    (some-behind g.W.World.meaning _ _ _ _ c.in_ok-times.ensures.seen
    (some-behind g.W.World.meaning _ _ _ _ commands.2 c.in_err-filed.ensures.some))

pub returns-clause-seen : goal.returns-clause-seen
returns-clause-seen g c =
    let work = work_of c.args.maker.now in
    let n = c.args.node in
    let times = c.in_ok-times.times in
    let newer : c.in_ok-verdict.verdict.newer ≡ newer_of work n times.target times.sources =
    c.in_ok-verdict.ensures.newer in
    let ages : c.in_ok-verdict.verdict.ages ≡ source_ages work.plan n times.sources =
    c.in_ok-verdict.ensures.ages in
    let commands = rw newer at c.in_ok-commands.ensures.commands in
    let filed = rw ages at c.in_ok-filed.ensures.filed in
    let first = seen_of work.plan n times.target times.sources in
    let second : List Seen = map dated commands.0 ++ map dated commands.1 in
    let third = meta_looks (meta_path (node_at work.plan n).name) filed.0 in (
      record {
        target = times.target;
        sources = times.sources;
        named = commands.0;
        asked = commands.1;
        meta = filed.0;
      },
      record {
        walk = c.in_ok-times.ensures.walk;
        named = commands.3;
        asked = commands.4;
        meta = filed.1;
      },
      looks-then g.W.World.meaning _ _ _ first (second ++ third) c.in_ok-times.ensures.seen
          (looks-then g.W.World.meaning _ _ _ second third commands.2 filed.2),
      rw (commands.5, filed.3) refl,
    )
