use Rattle.mk_decision.proofs.LookLemmas.{looks-then}
use Rattle.mk_decision.proofs.SightLemmas.{some-behind}
use Rattle.mk_world.proofs.SinkLemmas.{OnErr-from}
use Rattle.mk_audit.proofs.SeenLemmas.{some-of}
use Rattle.mk_audit.proofs.TurnLemmas.{walked-more}
use Rattle.mk_audit.specs.Turns.{looks_in}
use Rattle.mk_audit.proofs.walk.audit_node.Goals as goal

pub returns-in_err-facts-clause-some : goal.returns-in_err-facts-clause-some
returns-in_err-facts-clause-some g c =
    OnErr-from c.from_residual.result (λ start walked.
    some-behind g.W.World.meaning start _ _ (looks_in walked.turns) walked.looked
    c.in_err-facts.ensures.some)

pub returns-in_err-push-clause-some : goal.returns-in_err-push-clause-some
returns-in_err-push-clause-some g c =
    let one = c.in_ok-facts.ensures.audited in
    OnErr-from c.from_residual-in_err-push.result (λ start walked.
    some-behind g.W.World.meaning start _ _ (looks_in walked.turns) walked.looked
    (some-of g.W.World.meaning _ _ one.0 one.1))

pub returns-clause-audited : goal.returns-clause-audited
returns-clause-audited g c =
    let one = c.in_ok-facts.ensures.audited in
    λ start walked.
    walked-more _ _ _ c.args.node _ _ one.0 _ walked one.2 c.in_ok-push.ensures.ok
    (λ before looked. looks-then g.W.World.meaning start _ _ before one.0 looked one.1)
