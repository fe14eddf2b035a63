use Rattle.std.proofs.Common.{◌∙◌, length, slice_index_or, refl, sym, arith}
use Rattle.mk_rules.proofs.KeepLemmas.{below_at, passed-more}
use Rattle.mk_rules.proofs.rules.passed_on.Goals as goal

pub may_be_main-requires : goal.may_be_main-requires
may_be_main-requires c =
    below_at (length c.args.graph.now) c.args.targets.now c.targets.at c.requires.targets
    (omega (arith, c.targets-test.true))

pub targets-preserved : goal.targets-preserved
targets-preserved c =
    passed-more c.args.graph.now c.args.targets.now c.targets.at
    (slice_index_or c.args.targets.now c.targets.at 0) (omega (arith, c.targets-test.true)) refl
    (sym c.may_be_main.ensures ∙ c.if-may_be_main.false) c.targets.invariant
