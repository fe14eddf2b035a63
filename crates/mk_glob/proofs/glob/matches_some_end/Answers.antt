use Rattle.std.proofs.Common.{sym, ◌∙◌}
use Rattle.mk_glob.specs.Patterns.{matches}
use Rattle.mk_glob.proofs.StarLemmas.{some_end-whole}
use Rattle.mk_glob.proofs.glob.matches_some_end.Goals as goal

pub returns-in-Settled-true : goal.returns-in-Settled-true
returns-in-Settled-true c =
    let here = c.in-Settled-true.ensures.tells ∙ c.in-Settled-true.field-0-test in
    sym (some_end-whole (matches c.ends.pattern.bytes.now) c.ends.end.now here) ∙ c.ends.invariant
