use Rattle.std.proofs.Common.{◌≡◌, ◌<◌, ◌≤◌, [], length, refl, arith}
use Rattle.std.proofs.lemmas.Grind.{common_steps}
use Rattle.mk_decision.proofs.LookLemmas.{looks-none}
use Rattle.mk_decision.specs.Makers.{work_of}
use Rattle.mk_query.proofs.AnswerLemmas.{answered-by, answered-fault, answered-silent, if_err-all, kept-more, out-of-date}
use Rattle.mk_query.specs.declared.result.QueryResult.TheVariants.{Expand, OutOfDate, UpToDate}
use Rattle.mk_world.specs.declared.fault.WorldFault.TheVariants.{NoMemory as no_memory}
use Rattle.mk_query.proofs.asking.first_not_kept.Goals as goal

pub returns-in_err-decision-clause-halted : goal.returns-in_err-decision-clause-halted
returns-in_err-decision-clause-halted g c =
    let within : c.loop-node.node ≤ length c.args.maker.now.plan.now = grind (arith, common_steps) in
    if_err-all c.from_residual.result (λ fault.
    answered-fault g.W.World.meaning (work_of c.args.maker.now) _ _ _ c.loop-node.node c.loop-node.events fault within
    c.loop-node.invariant.kept c.in_err-decision.ensures.halted)

pub returns-in_err-push-in-Keep-clause-halted : goal.returns-in_err-push-in-Keep-clause-halted
returns-in_err-push-in-Keep-clause-halted g c =
    let within : c.loop-node.node ≤ length c.args.maker.now.plan.now = grind (arith, common_steps) in
    let decided = c.in_ok-decision.ensures.decided in
    rw c.in_err-push-in-Keep.ensures.err (if_err-all _ (λ fault.
    answered-fault g.W.World.meaning (work_of c.args.maker.now) _ _ _ c.loop-node.node c.loop-node.events fault within
    c.loop-node.invariant.kept (record { seen = decided.0; looked = decided.1 })))

pub returns-in_default-clause-halted : goal.returns-in_default-clause-halted
returns-in_default-clause-halted g c =
    let within : c.loop-node.node ≤ length c.args.maker.now.plan.now = grind (arith, common_steps) in
    let decided = c.in_ok-decision.ensures.decided in
    rw c.in_default.ensures.err (
    answered-fault g.W.World.meaning (work_of c.args.maker.now) _ _ _ c.loop-node.node c.loop-node.events no_memory within
    c.loop-node.invariant.kept (record { seen = decided.0; looked = decided.1 }))

pub returns-in-Refuse-clause-answered : goal.returns-in-Refuse-clause-answered
returns-in-Refuse-clause-answered g c =
    let within : c.loop-node.node < length c.args.maker.now.plan.now = grind (arith, common_steps) in
    let here : c.loop-node.node ≤ length c.args.maker.now.plan.now = omega (arith, within) in
    let decided = rw c.in-Refuse.is at c.in_ok-decision.ensures.decided in
    rw c.in-Ok.ensures.ok
    (answered-by g.W.World.meaning (work_of c.args.maker.now) _ _ _ c.loop-node.node c.loop-node.events decided.0
    (Expand c.loop-node.node c.in-Refuse.number c.in-Refuse.what) here c.loop-node.invariant.kept decided.1
    (refl, within, decided.2))

pub returns-in-Make-clause-answered : goal.returns-in-Make-clause-answered
returns-in-Make-clause-answered g c =
    let within : c.loop-node.node < length c.args.maker.now.plan.now = grind (arith, common_steps) in
    let here : c.loop-node.node ≤ length c.args.maker.now.plan.now = omega (arith, within) in
    let decided = rw c.in-Make.is at c.in_ok-decision.ensures.decided in
    answered-silent g.W.World.meaning (work_of c.args.maker.now) _ _ _ c.loop-node.node c.loop-node.events decided.0
    (OutOfDate c.loop-node.node) refl here c.loop-node.invariant.kept decided.1 (
      refl,
      out-of-date (work_of c.args.maker.now) c.loop-node.node decided.0 decided.2.3.first c.in-Make.task
          within decided.2.0 decided.2.1 decided.2.3.sight decided.2.3.has,
    )

pub loop-node-preserved : goal.loop-node-preserved
loop-node-preserved g c =
    let decided = rw c.in-Keep.is at c.in_ok-decision.ensures.decided in
    record {
      kept = rw c.in_ok-push-in-Keep.ensures.ok
          (kept-more g.W.World.meaning (work_of c.args.maker.now) _ _ _ c.loop-node.node c.loop-node.events decided.0
          decided.2.0 c.loop-node.invariant.kept decided.1 decided.2.1);
      faults = grind (arith, common_steps);
      children = λ kids runs. c.in_ok-decision.ensures.children kids (c.loop-node.invariant.children kids runs);
    }

pub returns-clause-answered : goal.returns-clause-answered
returns-clause-answered g c =
    let all : c.loop-node.node ≡ length c.args.maker.now.plan.now = grind (arith, common_steps) in
    let here : c.loop-node.node ≤ length c.args.maker.now.plan.now = omega (arith, all) in
    answered-silent g.W.World.meaning (work_of c.args.maker.now) _ _ _ c.loop-node.node c.loop-node.events []
    UpToDate refl here c.loop-node.invariant.kept (looks-none g.W.World.meaning _) (all, refl)
