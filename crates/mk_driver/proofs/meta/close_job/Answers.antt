use Rattle.std.proofs.Common.{◌∙◌, inl, inr, sym}
use Rattle.mk_decision.proofs.PieceLemmas.{on_ok}
use Rattle.mk_trace.proofs.CallLemmas.{called-none}
use Rattle.mk_driver.proofs.meta.close_job.Goals as goal

pub returns-then-is_meta-clause-closed : goal.returns-then-is_meta-clause-closed
returns-then-is_meta-clause-closed g c =
    on_ok c.close_meta.result (λ written. inl written) c.close_meta.ensures.written

pub returns-clause-closed : goal.returns-clause-closed
returns-clause-closed g c =
    inr (record {
      no_meta = sym c.is_meta.ensures ∙ c.if-is_meta.false;
      call = called-none g.W.World.meaning _;
    })
