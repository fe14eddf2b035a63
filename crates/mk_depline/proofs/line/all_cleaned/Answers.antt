use Rattle.std.proofs.Common.{◌∙◌, slice_get, sym, ap}
use Rattle.mk_depline.specs.Lines.{cleaned}
use Rattle.mk_depline.proofs.NameLemmas.{changed-next}
use Rattle.mk_depline.proofs.line.all_cleaned.Goals as goal

pub loop-at-preserved : goal.loop-at-preserved
loop-at-preserved c =
    let l = c.loop-at in
    let one = c.get_mut.result.now in
    let is = c.get_mut.ensures.value ∙ ap (λ names. slice_get names l.at) (sym l.invariant) in
    rw (← l.invariant, c.in_ok-clean.ensures)
    (changed-next (cleaned c.args.cwd.now) c.args.names l.at one is)
