use Rattle.mk_decision.specs.Makers.{work_of}
use Rattle.mk_explain.proofs.TurnLemmas.{told-found}
use Rattle.mk_explain.proofs.walk.reason_of.Goals as goal

pub returns : goal.returns
returns c = λ seen is.
    told-found (work_of c.args.maker.now) c.args.node seen c.args.task.now c.args.found.now c.in-Some.why
    c.in_ok-line.line c.in-Some.is c.in_ok-line.ensures is
