use Rattle.mk_decision.proofs.LookLemmas.{looks-asked}
use Rattle.mk_decision.specs.Decisions.{asked_questions}
use Rattle.mk_decision.specs.Makers.{work_of}
use Rattle.mk_values.specs.declared.fault.ExpandFault.TheVariants as expand
use Rattle.mk_world.proofs.CauseLemmas.{HasCause-behind_ok}
use Rattle.mk_world.proofs.SinkLemmas.{OnErr-from}
use Rattle.mk_world.specs.declared.fault.WorldFault.TheVariants as world
use Rattle.mk_audit.proofs.AskedLemmas.{names-found, names-refused}
use Rattle.mk_audit.proofs.SeenLemmas.{some-of}
use Rattle.mk_audit.specs.Looks.{asked_names}
use Rattle.mk_audit.proofs.commands.named_in.Goals as goal

pub returns-in-Ok-clause-named : goal.returns-in-Ok-clause-named
returns-in-Ok-clause-named g c =
    let work = work_of c.args.maker.now in
    names-found g.W.World.meaning _ _ (asked_names work c.args.node c.args.newer.now)
    (asked_questions work c.args.node c.args.newer.now) _ c.in-Ok.names c.named_of.result
    (rw c.in-Ok.is at c.names_in-names.ensures.names) c.named_of.ensures.names
    c.named_of.ensures.asked

pub returns-in-Ok-clause-some : goal.returns-in-Ok-clause-some
returns-in-Ok-clause-some g c =
    let asked = c.names_in-names.ensures.names in
    OnErr-from c.named_of.result (some-of g.W.World.meaning _ _ _
    (looks-asked g.W.World.meaning asked.questions _ _ asked.told))

pub returns-in-Ok-clause-cause : goal.returns-in-Ok-clause-cause
returns-in-Ok-clause-cause g c =
    HasCause-behind_ok expand.Failed world.Failed _ _ c.in-Ok.names c.named_of.result
    (rw c.in-Ok.is at c.names_in-names.ensures.cause) c.named_of.ensures.own

pub returns-in-Err-clause-named : goal.returns-in-Err-clause-named
returns-in-Err-clause-named g c =
    let work = work_of c.args.maker.now in
    names-refused g.W.World.meaning _ _ (asked_names work c.args.node c.args.newer.now)
    (asked_questions work c.args.node c.args.newer.now) _ c.in-Err.fault c.unnamed.result
    (rw c.in-Err.is at c.names_in-names.ensures.names) c.unnamed.ensures.own c.unnamed.ensures.names
    c.unnamed.ensures.asked

pub returns-in-Err-clause-some : goal.returns-in-Err-clause-some
returns-in-Err-clause-some g c =
    let asked = c.names_in-names.ensures.names in
    OnErr-from c.unnamed.result (some-of g.W.World.meaning _ _ _
    (looks-asked g.W.World.meaning asked.questions _ _ asked.told))
