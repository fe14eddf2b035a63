use Rattle.std.proofs.Common.{◌≡◌, ◌∙◌, ◌++◌, [], refl, sym, ap, arith}
use Rattle.std.proofs.lemmas.Grind.{common_steps}
use Rattle.mk_world.proofs.SinkLemmas.{OnErr-from}
use Rattle.mk_plan.specs.Plans.{node_at}
use Rattle.mk_decision.specs.Newest.{later_whens, node_whens, raised_all}
use Rattle.mk_decision.specs.Sights.{seen_of}
use Rattle.mk_decision.proofs.LookLemmas.{looks-none, looks-then}
use Rattle.mk_decision.proofs.NewestLemmas.{raised-append}
use Rattle.mk_decision.proofs.PieceLemmas.{on_err, if_ok_two}
use Rattle.mk_decision.proofs.SightLemmas.{some-behind}
use Rattle.mk_decision.proofs.judgement.judge_on.Goals as goal

pub returns-then-is_empty-clause-judged : goal.returns-then-is_empty-clause-judged
returns-then-is_empty-clause-judged g c =
    let nothing : (node_at c.args.maker.now.plan.now c.args.node).commands ≡ [] =
    grind (arith, common_steps) in
    ([], looks-none g.W.World.meaning _, (nothing, refl), refl)

pub returns-in_err-times-clause-halted : goal.returns-in_err-times-clause-halted
returns-in_err-times-clause-halted g c =
    OnErr-from c.from_residual.result c.in_err-times.ensures.some

pub returns-clause-judged : goal.returns-clause-judged
returns-clause-judged g c =
    let times = c.in_ok-times.times in
    let sighted = seen_of c.args.maker.now.plan.now c.args.node times.target times.sources in
    let whens = node_whens times.target times.sources in
    let old = c.args.newest.now.0 in
    if_ok_two c.judgement_by.result (λ judgement judged newest. (
      sighted ++ judged.0,
      looks-then g.W.World.meaning _ _ _ sighted judged.0 c.in_ok-times.ensures.seen
          judged.1,
      judged.2,
      newest ∙ (ap (λ k. raised_all k (later_whens judgement)) c.raise_by.ensures
          ∙ (sym (raised-append old whens (later_whens judgement)) ∙ sym (judged.3 old))),
    )) c.judgement_by.ensures.judged c.judgement_by.ensures.newest

pub returns-clause-halted : goal.returns-clause-halted
returns-clause-halted g c =
    on_err c.judgement_by.result
    (some-behind g.W.World.meaning _ _ _ _ c.in_ok-times.ensures.seen)
    c.judgement_by.ensures.halted
