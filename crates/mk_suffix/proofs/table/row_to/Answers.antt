use Rattle.std.proofs.Common.{◌≡◌, ◌∙◌, ◌+◌, ◌∷◌, ◌++◌, drop, ap, arith}
use Rattle.std.proofs.lemmas.Grind.{common_steps}
use Rattle.mk_suffix.proofs.TableLemmas.{row_next}
use Rattle.mk_suffix.specs.Table.{row, rule_from, seen_row}
use Rattle.mk_suffix.proofs.table.row_to.Goals as goal

pub loop-suffix-preserved : goal.loop-suffix-preserved
loop-suffix-preserved c =
    let known = c.args.known.now in
    let i = c.loop-suffix.suffix-index in
    let suffix = c.bytes-suffix.result.now in
    let are : drop i known ≡ suffix ∷ drop (i + 1) known = grind (arith, common_steps) in
    let pushed = c.in_ok-push_rule.ensures
    ∙ ap (λ rule. seen_row c.loop-suffix.row ++ rule_from suffix rule) c.in_ok-rule.ensures.value in
    rw pushed
    (row_next c.args.graph.now known c.args.to.now suffix (drop i known) (drop (i + 1) known)
    (seen_row c.loop-suffix.row) (row c.args.graph.now known c.args.to.now) are
    c.loop-suffix.invariant)
