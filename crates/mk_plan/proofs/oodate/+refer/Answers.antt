use Rattle.std.proofs.Common.{◌≡◌, ◌∙◌, true, false, refl, sym}
use Rattle.mk_ast.specs.View.{mod_view, part_view}
use Rattle.mk_plan.specs.Oodate as spec
use Rattle.mk_plan.proofs.OodateLemmas.{refers-part, refers-end, mods_refer-mod, mods_refer-end}
use Rattle.mk_plan.proofs.oodate.+refer.Goals as goal

pub refers-returns-then-part_refers : goal.refers-returns-then-part_refers
refers-returns-then-part_refers t c =
    let l = c.loop-part in
    let yes : spec.part_refers (part_view c.part-item.result) ≡ true =
    sym c.part_refers.ensures ∙ c.if-part_refers.true in
    let step = refers-part c.as_slice-part-items.result.now l.part-index c.part-item.result
    c.loop-part-test.true c.part-item.is in
    rw (← c.as_slice-part-items.ensures.value, ← l.invariant, step, yes) refl

pub refers-loop-part-preserved : goal.refers-loop-part-preserved
refers-loop-part-preserved t c =
    let l = c.loop-part in
    let no : spec.part_refers (part_view c.part-item.result) ≡ false =
    sym c.part_refers.ensures ∙ c.if-part_refers.false in
    let step = refers-part c.as_slice-part-items.result.now l.part-index c.part-item.result
    c.loop-part-test.true c.part-item.is in
    sym (rw no at step) ∙ l.invariant

pub refers-returns : goal.refers-returns
refers-returns t c =
    let l = c.loop-part in
    let done = refers-end c.as_slice-part-items.result.now l.part-index c.loop-part-test.false in
    rw (← c.as_slice-part-items.ensures.value, ← l.invariant, done) refl

pub mods_refer-returns-then-mod_refers : goal.mods_refer-returns-then-mod_refers
mods_refer-returns-then-mod_refers t c =
    let l = c.loop-one in
    let yes : spec.mod_refers (mod_view c.one-item.result) ≡ true =
    sym c.mod_refers.ensures ∙ c.if-mod_refers.true in
    let step = mods_refer-mod c.as_slice-one-items.result.now l.one-index c.one-item.result
    c.loop-one-test.true c.one-item.is in
    rw (← c.as_slice-one-items.ensures.value, ← l.invariant, step, yes) refl

pub mods_refer-loop-one-preserved : goal.mods_refer-loop-one-preserved
mods_refer-loop-one-preserved t c =
    let l = c.loop-one in
    let no : spec.mod_refers (mod_view c.one-item.result) ≡ false =
    sym c.mod_refers.ensures ∙ c.if-mod_refers.false in
    let step = mods_refer-mod c.as_slice-one-items.result.now l.one-index c.one-item.result
    c.loop-one-test.true c.one-item.is in
    sym (rw no at step) ∙ l.invariant

pub mods_refer-returns : goal.mods_refer-returns
mods_refer-returns t c =
    let l = c.loop-one in
    let done = mods_refer-end c.as_slice-one-items.result.now l.one-index c.loop-one-test.false in
    rw (← c.as_slice-one-items.ensures.value, ← l.invariant, done) refl
