use Rattle.std.proofs.Common.{◌≡◌, Err, ap}
use Rattle.mk_explain.specs.declared.fault.ExplainFault.TheVariants.{Failed}
use Rattle.mk_modes.proofs.explaining.tell.Goals as goal

pub returns-clause-world_cause : goal.returns-clause-world_cause
returns-clause-world_cause g c =
    let cause = c.in-Err.ensures.cause in
    record {
      kept = cause.kept;
      answered = λ rose.
          let is = cause.answered rose in
          let failed : c.in-Err.fault ≡ Failed = cc in
          c.end_of.ensures.failed failed;
      rose = λ is. cause.rose (ap (λ fault. Err fault) (c.end_of.ensures.only_failed is));
    }
