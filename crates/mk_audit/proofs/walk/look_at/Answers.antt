use Rattle.std.proofs.Common.{◌≡◌, ◌<◌, ◌∙◌, [], length, inl, inr, ap, refl, arith}
use Rattle.std.proofs.lemmas.Grind.{common_steps}
use Rattle.mk_decision.proofs.LookLemmas.{looks-none}
use Rattle.mk_decision.specs.Makers.{work_of}
use Rattle.mk_plan.specs.Plans.{node_at}
use Rattle.mk_world.proofs.SinkLemmas.{OnErr-from}
use Rattle.mk_audit.proofs.SeenLemmas.{some-of}
use Rattle.mk_audit.specs.Facts.{facts_by}
use Rattle.mk_audit.specs.Looks.{looks_of}
use Rattle.mk_audit.proofs.walk.look_at.Goals as goal

pub returns-then-is_empty-clause-audited : goal.returns-then-is_empty-clause-audited
returns-then-is_empty-clause-audited g c =
    let nothing : (node_at c.args.maker.now.plan.now c.args.node).commands ≡ [] =
    grind (arith, common_steps) in
    ([], looks-none g.W.World.meaning _, inl (nothing, refl, c.in_ok-plain_facts.ensures))

pub returns-in_err-facts_of-clause-some : goal.returns-in_err-facts_of-clause-some
returns-in_err-facts_of-clause-some g c =
    let seen = c.in_ok-view.ensures.seen in
    OnErr-from c.from_residual-in_err-facts_of.result (some-of g.W.World.meaning _ _ _ seen.2)

pub returns-clause-audited : goal.returns-clause-audited
returns-clause-audited g c =
    let seen = c.in_ok-view.ensures.seen in
    let work = work_of c.args.maker.now in
    let some : 0 < length (node_at c.args.maker.now.plan.now c.args.node).commands =
    grind (arith, common_steps) in (
      looks_of work c.args.node seen.0,
      seen.2,
      inr (
        some,
        seen.0,
        seen.1,
        refl,
        c.in_ok-facts_of.ensures ∙ ap (facts_by work c.args.node) seen.3,
      ),
    )
