use Rattle.std.proofs.Common.{◌∙◌, inl, inr, refl, sym}
use Rattle.mk_decision.proofs.PieceLemmas.{if_ok, on_err}
use Rattle.mk_trace.proofs.CallLemmas.{called-none}
use Rattle.mk_driver.proofs.meta.open_job.Goals as goal

pub returns-then-is_meta-clause-opened : goal.returns-then-is_meta-clause-opened
returns-then-is_meta-clause-opened g c =
    if_ok c.open_head.result
    (λ collected written. inl (record { in_meta = sym c.is_meta.ensures ∙ c.if-is_meta.true; writes = written }))
    c.open_head.ensures.written

pub returns-then-is_meta-clause-refused : goal.returns-then-is_meta-clause-refused
returns-then-is_meta-clause-refused g c =
    on_err c.open_head.result
    (λ part. record { in_meta = sym c.is_meta.ensures ∙ c.if-is_meta.true; call = part })
    c.open_head.ensures.refused

pub returns-clause-opened : goal.returns-clause-opened
returns-clause-opened g c =
    inr (record {
      no_meta = sym c.is_meta.ensures ∙ c.if-is_meta.false;
      is = rw c.new.ensures refl;
      call = called-none g.W.World.meaning _;
    })
