use Rattle.std.proofs.Common.{◌≡◌, true, false, sym, ◌∙◌, drop}
use Rattle.mk_filemon.specs.Log.{is_gap}
use Rattle.mk_filemon.proofs.CutLemmas.{rest_is, gap-found, gap-later, gap-none}
use Rattle.mk_filemon.proofs.line.cut_at_gap.Goals as goal

pub returns-then-starts_with : goal.returns-then-starts_with
returns-then-starts_with c =
    let text = c.args.text.now in
    let place = c.loop-place.place in
    let is : is_gap (drop place text) ≡ true =
    rw (← rest_is place text) (sym c.starts_with.ensures.value ∙ c.if-starts_with.true) in
    rw (rest_is place text, rest_is 3 (drop place text))
    (sym (gap-found text place c.loop-place-test.true is) ∙ c.loop-place.invariant)

pub loop-place-preserved : goal.loop-place-preserved
loop-place-preserved c =
    let text = c.args.text.now in
    let place = c.loop-place.place in
    let none : is_gap (drop place text) ≡ false =
    rw (← rest_is place text) (sym c.starts_with.ensures.value ∙ c.if-starts_with.false) in
    gap-later text place c.loop-place-test.true none ∙ c.loop-place.invariant

pub returns : goal.returns
returns c =
    sym (gap-none c.args.text.now c.loop-place.place c.loop-place-test.false)
    ∙ c.loop-place.invariant
