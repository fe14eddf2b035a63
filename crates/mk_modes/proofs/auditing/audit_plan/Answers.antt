use Rattle.std.proofs.Common.{inr}
use Rattle.mk_modes.proofs.AuditLemmas.{asked-nothing, left-nothing}
use Rattle.mk_modes.proofs.auditing.audit_plan.Goals as goal

pub returns-clause-audits : goal.returns-clause-audits
returns-clause-audits g c = λ first by. inr (record {
  planned_at = g.W.World.history c.args.world.now;
  nodes = c.args.plan;
  planned = by;
  plan = c.into_names.ensures;
  events = c.new.ensures;
  audited_at = g.W.World.history c.audit_of-outcome.new.world;
  looked = c.audit_of-outcome.ensures.looked;
  asked = asked-nothing g.W.World.meaning (g.W.World.history c.audit_of-outcome.new.world);
  left = left-nothing (g.W.World.history c.audit_of-outcome.new.world);
  outcome = c.audit_of-outcome.result;
  audits = c.audit_of-outcome.ensures.finds;
  tells = c.tell.ensures.tells;
})
