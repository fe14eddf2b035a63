use Rattle.std.proofs.Common.{◌≡◌, ◌∷◌, ◌+◌, ◌∙◌, ◌≤◌, drop, length, refl, arith}
use Rattle.std.proofs.lemmas.Result.{err_from_is_err_and}
use Rattle.mk_values.proofs.FactLemmas.{earlier}
use Rattle.mk_plan.specs.Tasks.{setting_of}
use Rattle.mk_modes.specs.declared.report.End.TheVariants.{Done, SinkFault, WorldFault}
use Rattle.mk_modes.proofs.MeaningLemmas.{HasCause-same}
use Rattle.mk_modes.proofs.PrintLemmas.{Printed-at, Printed-behind, Printed-over}
use Rattle.mk_modes.proofs.PrintLemmas.{drop-item, drop-all, questions-none, questions-then}
use Rattle.mk_modes.proofs.print.print_all.Goals as goal

pub loop-i-init : goal.loop-i-init
loop-i-init g c = record {
  ends = λ answers by after end behind. behind;
  facts = questions-none (g.met.F.Facts.stays _) _ _;
  faults = refl;
  failures = refl;
}

pub returns-in_err-print_one-clause-ends : goal.returns-in_err-print_one-clause-ends
returns-in_err-print_one-clause-ends g c =
    let l = c.loop-i in
    let items = c.as_slice-print-items.result.now in
    let prints = c.args.prints.now in
    let print = c.print-item.result in
    let here : drop l.i prints ≡ print ∷ drop (l.i + 1) prints =
    rw c.as_slice-print-items.ensures.value
    at (drop-item items l.i print c.loop-i-test.true c.print-item.is) in
    let p = err_from_is_err_and c.from_residual.result c.from_residual.ensures.1 in
    rw (p.1, p.2) (λ answers by.
    let before = earlier _ _ answers c.in_err-print_one.ensures.facts.asked by in
    l.invariant.ends answers before _ _
    (Printed-at (setting_of c.args.scopes.now (g.F.Facts.lists c.args.facts.now) answers)
    (g.F.Facts.asked l.facts) l.i print (drop l.i prints) (drop (l.i + 1) prints) _ _ _ here
    (rw l.invariant.facts.lists at (c.in_err-print_one.ensures.end answers by))))

pub returns-in_err-print_one-clause-facts : goal.returns-in_err-print_one-clause-facts
returns-in_err-print_one-clause-facts g c =
    questions-then (g.met.F.Facts.goes_on _ _ _) c.loop-i.invariant.facts
    c.in_err-print_one.ensures.facts

pub loop-i-preserved : goal.loop-i-preserved
loop-i-preserved g c =
    let l = c.loop-i in
    let items = c.as_slice-print-items.result.now in
    let prints = c.args.prints.now in
    let print = c.print-item.result in
    let here : drop l.i prints ≡ print ∷ drop (l.i + 1) prints =
    rw c.as_slice-print-items.ensures.value
    at (drop-item items l.i print c.loop-i-test.true c.print-item.is) in
    record {
      ends = λ answers by after end behind.
          let before = earlier _ _ answers c.in_ok-print_one.ensures.facts.asked by in
          l.invariant.ends answers before after end
          (Printed-behind (setting_of c.args.scopes.now (g.F.Facts.lists c.args.facts.now) answers)
          (g.F.Facts.asked l.facts) (g.F.Facts.asked c.print_one.new.facts) l.i print (drop l.i prints)
          (drop (l.i + 1) prints) _ _ after end here
          (rw l.invariant.facts.lists at (c.in_ok-print_one.ensures.line answers by)) behind);
      facts = questions-then (g.met.F.Facts.goes_on _ _ _) l.invariant.facts
          c.in_ok-print_one.ensures.facts;
      faults = HasCause-same SinkFault _ _ _ c.in_ok-print_one.ensures.cause
          ∙ l.invariant.faults;
      failures = HasCause-same WorldFault _ _ _ c.in_ok-print_one.ensures.world_cause
          ∙ l.invariant.failures;
    }

pub returns-clause-ends : goal.returns-clause-ends
returns-clause-ends g c =
    let l = c.loop-i in
    let items = c.as_slice-print-items.result.now in
    let behind : length items ≤ l.i = omega arith in
    λ answers by.
    l.invariant.ends answers by _ Done
    (Printed-over (setting_of c.args.scopes.now (g.F.Facts.lists c.args.facts.now) answers)
    (g.F.Facts.asked l.facts) l.i (drop l.i c.args.prints.now) _
    (rw c.as_slice-print-items.ensures.value at (drop-all items l.i behind)))
