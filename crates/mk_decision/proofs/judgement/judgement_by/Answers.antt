use Rattle.std.proofs.Common.{◌≡◌, [], map, refl}
use Rattle.mk_world.proofs.SinkLemmas.{OnErr-from}
use Rattle.mk_world.specs.Looks.{answered, dated}
use Rattle.mk_decision.specs.Ages.{source_ages}
use Rattle.mk_decision.specs.Decisions.{HasTask, newer_of}
use Rattle.mk_decision.specs.Makers.{work_of}
use Rattle.mk_decision.proofs.DecisionLemmas.{fault-newest, judged-fault, judged-task}
use Rattle.mk_decision.proofs.LookLemmas.{looks-asked, looks-none}
use Rattle.mk_decision.proofs.PieceLemmas.{if_ok, on_err}
use Rattle.mk_decision.proofs.SightLemmas.{some-behind}
use Rattle.mk_decision.proofs.judgement.judgement_by.Goals as goal

pub returns-in_err-verdict-clause-halted : goal.returns-in_err-verdict-clause-halted
returns-in_err-verdict-clause-halted g c =
    OnErr-from c.from_residual.result
    (record { seen = []; looked = looks-none g.W.World.meaning _ })

pub returns-in-Err-clause-judged : goal.returns-in-Err-clause-judged
returns-in-Err-clause-judged g c =
    let times = c.args.times.now in
    let work = work_of c.args.maker.now in
    let n = c.args.node in
    let newer : c.in_ok-verdict.verdict.newer ≡ newer_of work n times.target times.sources =
    c.in_ok-verdict.ensures.newer in
    let asked = c.in-Err.ensures.task in
    judged-fault g.W.World.meaning work _ _ n c.in-Err.fault c.refused.result times.target times.sources
    (answered asked.questions) c.requires.walk
    (looks-asked g.W.World.meaning asked.questions _ _ asked.told) (rw newer at asked.task)
    (rw newer at asked.faulty) c.refused.ensures

pub returns-in-Err-clause-halted : goal.returns-in-Err-clause-halted
returns-in-Err-clause-halted g c =
    let asked = c.in-Err.ensures.task in
    OnErr-from c.refused.result (record {
      seen = map dated (answered asked.questions);
      looked = looks-asked g.W.World.meaning asked.questions _ _ asked.told;
    })

pub returns-in-Ok-clause-judged : goal.returns-in-Ok-clause-judged
returns-in-Ok-clause-judged g c =
    let times = c.args.times.now in
    let work = work_of c.args.maker.now in
    let n = c.args.node in
    let newer : c.in_ok-verdict.verdict.newer ≡ newer_of work n times.target times.sources =
    c.in_ok-verdict.ensures.newer in
    let ages : c.in_ok-verdict.verdict.ages ≡ source_ages work.plan n times.sources =
    c.in_ok-verdict.ensures.ages in
    let asked = c.in-Ok.ensures.task in
    let looked = answered asked.questions in
    let task : HasTask work n times.target times.sources looked c.in-Ok.task =
    rw newer at asked.task in
    if_ok c.judgement_of.result (λ judgement seen.
    judged-task g.W.World.meaning work _ _ _ n c.in-Ok.task judgement times.target times.sources looked
    seen.0 c.requires.walk (looks-asked g.W.World.meaning asked.questions _ _ asked.told) c.requires.some
    task (rw ages at seen.1) seen.2 (rw ages at seen.3)) c.judgement_of.ensures.seen

pub returns-in-Ok-clause-halted : goal.returns-in-Ok-clause-halted
returns-in-Ok-clause-halted g c =
    let asked = c.in-Ok.ensures.task in
    on_err c.judgement_of.result
    (some-behind g.W.World.meaning _ _ _ (map dated (answered asked.questions))
    (looks-asked g.W.World.meaning asked.questions _ _ asked.told))
    c.judgement_of.ensures.some

pub returns-in-Err-clause-newest : goal.returns-in-Err-clause-newest
returns-in-Err-clause-newest g c =
    fault-newest c.in-Err.fault c.refused.result c.args.newest.now.0 c.refused.ensures
