use Rattle.std.proofs.Common.{◌≡◌, ℕ, ◌≤◌, ◌+◌, ◌-◌, length, take, drop, false, arith, length-take}
use Rattle.std.proofs.Common.{length-drop, rules, subst, sym, ◌∙◌}
use Rattle.std.proofs.lemmas.List.{take_all}
use Rattle.mk_lines.specs.Lines.{is_continued}
use Rattle.mk_lines.specs.Faults.{NoneTooLong}
use Rattle.mk_lines.proofs.PieceLemmas.{NoneTooLong-short, NoneTooLong-cut_at}
use Rattle.mk_lines.proofs.fault.falls_into_short_pieces.Goals as goal

pub slice_bounds-memrchr-end : goal.slice_bounds-memrchr-end
slice_bounds-memrchr-end c =
    omega (arith, c.loop-rest-test.true, length-take {A = ℕ})

pub slice_bounds-is_continued-end : goal.slice_bounds-is_continued-end
slice_bounds-is_continued-end c =
    omega (arith, c.in-Some.ensures.0.high, length-take {A = ℕ})

pub overflow_add-rest : goal.overflow_add-rest
overflow_add-rest c =
    omega (arith, c.in-Some.ensures.0.high, length-take {A = ℕ})

pub slice_bounds-rest-count : goal.slice_bounds-rest-count
slice_bounds-rest-count c =
    omega (arith, c.in-Some.ensures.0.high, length-take {A = ℕ})

pub slice_bounds-rest-start : goal.slice_bounds-rest-start
slice_bounds-rest-start c =
    let within : c.in-Some.end + 1 ≤ length c.loop-rest.rest.now
    = omega (arith, c.in-Some.ensures.0.high, length-take {A = ℕ}) in
    search (rules, within)

pub loop-rest-preserved : goal.loop-rest-preserved
loop-rest-preserved c =
    let rest = c.loop-rest.rest.now in
    let end = c.in-Some.end in
    let whole : take (length rest - (end + 1)) (drop (end + 1) rest) ≡ drop (end + 1) rest
    = take_all _ _ (omega (arith, length-drop (end + 1) rest)) in
    let stops : is_continued (take end rest) ≡ false
    = sym c.is_continued.ensures ∙ c.if-is_continued.false in
    λ short. c.loop-rest.invariant
    (NoneTooLong-cut_at rest end c.in-Some.ensures stops (subst NoneTooLong whole short))

pub returns : goal.returns
returns c =
    λ found. c.loop-rest.invariant (NoneTooLong-short c.loop-rest.rest.now c.loop-rest-test.false)
