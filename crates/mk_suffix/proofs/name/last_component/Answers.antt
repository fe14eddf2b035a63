use Rattle.std.proofs.Common.{◌∙◌, arith}
use Rattle.std.proofs.lemmas.Grind.{common_steps}
use Rattle.mk_suffix.proofs.NameLemmas.{last_component-by, component-step}
use Rattle.mk_suffix.proofs.name.last_component.Goals as goal

pub loop-at-init : goal.loop-at-init
loop-at-init c =
    record { same = last_component-by c.args.path.now; within = grind (arith, common_steps) }

pub loop-at-preserved : goal.loop-at-preserved
loop-at-preserved c = record {
  same = c.loop-at.invariant.same
      ∙ component-step c.args.path.now c.loop-at.start c.loop-at.at c.start_behind-start.result
      c.loop-at-test.true c.start_behind-start.ensures;
  within = grind (arith, common_steps);
}
