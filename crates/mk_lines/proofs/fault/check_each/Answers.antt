use Rattle.std.proofs.Common.{sym, ap, refl, ◌∙◌, ◌+◌}
use Rattle.mk_lines.specs.Lines.{line_groups}
use Rattle.mk_lines.specs.Faults.{groups_checked}
use Rattle.mk_lines.proofs.CheckLemmas.{HoldNoZero-lines}
use Rattle.mk_lines.proofs.fault.check_each.Goals as goal

pub loop-line-init : goal.loop-line-init
loop-line-init c = record {
  fault = refl;
  zeros = λ none. HoldNoZero-lines c.args.text.now (c.requires.zeros none);
}

pub returns : goal.returns
unfolding line_groups
returns c =
    ap (λ lines. groups_checked (c.loop-line.lines.done + 1) (line_groups lines))
    (sym c.in_default.ensures.none)
    ∙ c.loop-line.invariant.fault
