use Rattle.std.proofs.Common.{◌≡◌, [], length, refl, arith}
use Rattle.std.proofs.lemmas.Grind.{common_steps}
use Rattle.mk_world.proofs.IdleLemmas.{IsIdle}
use Rattle.mk_decision.proofs.LookLemmas.{looks-none}
use Rattle.mk_explain.proofs.FileLemmas.{saw-files, saw-only}
use Rattle.mk_audit.proofs.TurnLemmas.{walked-all, walked-none}
use Rattle.mk_audit.proofs.walk.audit_all.Goals as goal

pub loop-node-init : goal.loop-node-init
loop-node-init g c = record {
  idle = c.requires.idle;
  walked = rw c.in_ok-nodes.ensures.empty (walked-none _ _ (looks-none g.W.World.meaning _));
  faults = refl;
}

pub returns-in_err-audit_node-clause-looked : goal.returns-in_err-audit_node-clause-looked
returns-in_err-audit_node-clause-looked g c =
    let idle : IsIdle (g.W.World.history c.args.world.now) =
    λ h is. g.met.W.World.told_children c.args.world.now h [] c.requires.idle is in
    let some = c.in_err-audit_node.ensures.some (g.W.World.history c.args.world.now)
    c.loop-node.invariant.walked in
    saw-only g.W.World.meaning _ _ some.seen
    (saw-files g.W.World.meaning _ _ some.seen idle some.looked)

pub returns-clause-audited : goal.returns-clause-audited
returns-clause-audited g c =
    let idle : IsIdle (g.W.World.history c.args.world.now) =
    λ h is. g.met.W.World.told_children c.args.world.now h [] c.requires.idle is in
    let all : c.loop-node.node ≡ length c.args.maker.now.plan.now = grind (arith, common_steps) in
    walked-all _ _ _ c.loop-node.node _
    (λ seen looked. saw-files g.W.World.meaning _ _ seen idle looked) all
    c.loop-node.invariant.walked

pub returns-clause-looked : goal.returns-clause-looked
returns-clause-looked g c =
    let idle : IsIdle (g.W.World.history c.args.world.now) =
    λ h is. g.met.W.World.told_children c.args.world.now h [] c.requires.idle is in
    saw-only g.W.World.meaning _ _ _
    (saw-files g.W.World.meaning _ _ _ idle c.loop-node.invariant.walked.looked)
