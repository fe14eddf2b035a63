use Rattle.std.proofs.Common.{sym, ◌∙◌, ap, ◌+◌}
use Rattle.mk_suffix.proofs.WayLemmas.{as_many_ways}
use Rattle.mk_suffix.proofs.step.Search.len.Goals as goal

pub returns : goal.returns
returns c =
    ap (λ n. n + 1) c.len.ensures.value
    ∙ sym (as_many_ways c.self.inside.own.now c.self.inside.steps c.args.self.now c.self.invariant
    c.self.view_is)
