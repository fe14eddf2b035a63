use Rattle.std.proofs.Common.{◌≡◌, ◌∙◌, ◌^◌, sym, ap, arith}
use Rattle.std.proofs.lemmas.Grind.{common_steps}
use Rattle.mk_plan.specs.Plans.{node_at}
use Rattle.mk_decision.specs.Ages.{decisive, is_one_of}
use Rattle.mk_decision.proofs.RisingLemmas.{all_below, rise_below-later}
use Rattle.mk_decision.proofs.sight.decisive.Goals as goal

pub of_rising-requires : goal.of_rising-requires
of_rising-requires c =
    let short = c.ranges.node.fits in
    rise_below-later c.as_slice-sources.result.now c.args.node (2 ^ 32) (grind (arith, common_steps))
    (sym c.rise_below.ensures ∙ c.if-rise_below.true)

pub returns-then-rise_below : goal.returns-then-rise_below
returns-then-rise_below c =
    let up = sym c.rise_below.ensures ∙ c.if-rise_below.true in
    let sources = c.as_slice-sources.result.now in
    let all : sources ≡ decisive (node_at c.args.plan.now c.args.node) c.args.target =
    rw (sym c.is_missing.ensures ∙ c.if-is_missing.false) (c.as_slice-sources.ensures.value ∙ c.sources.ensures) in
    record {
      are = λ one before. c.of_rising.ensures one ∙ ap (λ l. is_one_of l one) all;
      below = λ one is. all_below sources c.args.node one up (sym (c.of_rising.ensures one) ∙ is);
    }
