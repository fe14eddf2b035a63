use Rattle.mk_decision.proofs.LookLemmas.{looks-asked}
use Rattle.mk_decision.specs.Decisions.{asked_questions, asked_task}
use Rattle.mk_decision.specs.Makers.{work_of}
use Rattle.mk_world.proofs.SinkLemmas.{OnErr-from}
use Rattle.mk_audit.proofs.AskedLemmas.{task-found, task-refused}
use Rattle.mk_audit.proofs.SeenLemmas.{some-of}
use Rattle.mk_audit.proofs.commands.task_of.Goals as goal

pub returns-in-Ok-clause-task : goal.returns-in-Ok-clause-task
returns-in-Ok-clause-task g c =
    let work = work_of c.args.maker.now in
    task-found g.W.World.meaning _ _ (asked_task work c.args.node c.args.newer.now)
    (asked_questions work c.args.node c.args.newer.now) c.in-Ok.task c.in-Ok.ensures.task

pub returns-in-Err-clause-task : goal.returns-in-Err-clause-task
returns-in-Err-clause-task g c =
    let work = work_of c.args.maker.now in
    task-refused g.W.World.meaning _ _ (asked_task work c.args.node c.args.newer.now)
    (asked_questions work c.args.node c.args.newer.now) c.in-Err.fault c.no_task.result
    c.in-Err.ensures.task c.no_task.ensures

pub returns-in-Err-clause-some : goal.returns-in-Err-clause-some
returns-in-Err-clause-some g c =
    let asked = c.in-Err.ensures.task in
    OnErr-from c.no_task.result (some-of g.W.World.meaning _ _ _
    (looks-asked g.W.World.meaning asked.questions _ _ asked.told))
