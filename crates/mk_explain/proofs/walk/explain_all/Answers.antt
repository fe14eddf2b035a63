use Rattle.std.proofs.Common.{◌≡◌, [], length, refl, arith}
use Rattle.std.proofs.lemmas.Grind.{common_steps}
use Rattle.std.proofs.lemmas.Result.{err_from_is_err_and}
use Rattle.mk_world.proofs.IdleLemmas.{IsIdle}
use Rattle.mk_decision.proofs.LookLemmas.{looks-none}
use Rattle.mk_decision.specs.Makers.{work_on}
use Rattle.mk_explain.proofs.FileLemmas.{saw-files, saw-only}
use Rattle.mk_explain.proofs.TurnLemmas.{stopped-map, walked-all, walked-none}
use Rattle.mk_explain.proofs.walk.explain_all.Goals as goal

pub loop-node-init : goal.loop-node-init
loop-node-init g c = record {
  idle = c.requires.idle;
  walked = rw c.in_ok-reasons.ensures.empty (walked-none _ _ (looks-none g.W.World.meaning _));
  long = refl;
  faults = refl;
}

pub returns-in_err-explain_node-clause-refused : goal.returns-in_err-explain_node-clause-refused
returns-in_err-explain_node-clause-refused g c =
    let p = err_from_is_err_and c.from_residual-in_err-explain_node.result
    c.from_residual-in_err-explain_node.ensures.1 in
    let idle : IsIdle (g.W.World.history c.args.world.now) =
    λ h is. g.met.W.World.told_children c.args.world.now h [] c.requires.idle is in
    let first = work_on c.args.plan.now c.args.made.now c.args.flags.now in
    let halts = c.in_err-explain_node.ensures.refused (g.W.World.history c.args.world.now) first
    c.loop-node.invariant.walked in
    rw (p.1, p.2) (stopped-map _ _ first _
    (λ seen looked. saw-files g.W.World.meaning _ _ seen idle looked) halts.stopped)

pub returns-in_err-explain_node-clause-looked : goal.returns-in_err-explain_node-clause-looked
returns-in_err-explain_node-clause-looked g c =
    let idle : IsIdle (g.W.World.history c.args.world.now) =
    λ h is. g.met.W.World.told_children c.args.world.now h [] c.requires.idle is in
    let halts = c.in_err-explain_node.ensures.refused (g.W.World.history c.args.world.now)
    (work_on c.args.plan.now c.args.made.now c.args.flags.now) c.loop-node.invariant.walked in
    saw-only g.W.World.meaning _ _ halts.seen
    (saw-files g.W.World.meaning _ _ halts.seen idle halts.looked)

pub returns-clause-explained : goal.returns-clause-explained
returns-clause-explained g c =
    let idle : IsIdle (g.W.World.history c.args.world.now) =
    λ h is. g.met.W.World.told_children c.args.world.now h [] c.requires.idle is in
    let all : c.loop-node.node ≡ length c.args.plan.now = grind (arith, common_steps) in
    walked-all _ _ _ _ c.loop-node.node _
    (λ seen looked. saw-files g.W.World.meaning _ _ seen idle looked) all
    c.loop-node.invariant.walked

pub returns-clause-looked : goal.returns-clause-looked
returns-clause-looked g c =
    let idle : IsIdle (g.W.World.history c.args.world.now) =
    λ h is. g.met.W.World.told_children c.args.world.now h [] c.requires.idle is in
    saw-only g.W.World.meaning _ _ _
    (saw-files g.W.World.meaning _ _ _ idle c.loop-node.invariant.walked.looked)
