use Rattle.std.proofs.Common.{◌≡◌, Some, None, ◌∙◌, sym, drop}
use Rattle.mk_strace.specs.Scan.{end_at}
use Rattle.mk_strace.proofs.ScanLemmas.{rest_is, cut-found, cut-later, cut-none}
use Rattle.mk_strace.proofs.scan.cut.Goals as goal

pub returns-in-Some : goal.returns-in-Some
returns-in-Some c =
    let text = c.args.text.now in
    let place = c.loop-place.place in
    let is : Some (c.in-Some.is_last, c.in-Some.rest.now)
    ≡ end_at c.args.commas c.loop-place.mode (drop place text) =
    rw (← rest_is place text) c.in-Some.ensures in
    cut-found c.args.commas c.loop-place.mode text place c.in-Some.is_last c.in-Some.rest.now
    c.loop-place-test.true is
    ∙ c.loop-place.invariant

pub loop-place-preserved : goal.loop-place-preserved
loop-place-preserved c =
    let text = c.args.text.now in
    let place = c.loop-place.place in
    let none : None ≡ end_at c.args.commas c.loop-place.mode (drop place text) =
    rw (← rest_is place text) c.in_default.ensures in
    rw c.after-mode.ensures
    (cut-later c.args.commas c.loop-place.mode text place c.loop-place-test.true none
    ∙ c.loop-place.invariant)

pub returns : goal.returns
returns c =
    sym (cut-none c.args.commas c.loop-place.mode c.args.text.now c.loop-place.place
    c.loop-place-test.false)
    ∙ c.loop-place.invariant
