use Rattle.std.proofs.Common.{◌∙◌, ap, sym}
use Rattle.mk_decision.specs.Makers.{work_of}
use Rattle.mk_decision.specs.Newest.{raised_all}
use Rattle.mk_decision.proofs.DecisionLemmas.{judged-decided}
use Rattle.mk_decision.proofs.decision.decide_on.Goals as goal

pub returns-clause-decided : goal.returns-clause-decided
returns-clause-decided g c =
    let judged = c.in_ok-judgement.ensures.judged in
    let decided = judged-decided (work_of c.args.maker.now) c.args.node judged.0
    c.in_ok-judgement.judgement judged.2 in
    rw c.decision_by.ensures (
      judged.0,
      judged.1,
      decided.0,
      judged.3 ∙ ap (raised_all c.args.newest.now.0) (sym decided.1),
    )
