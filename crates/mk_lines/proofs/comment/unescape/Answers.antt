use Rattle.std.proofs.Common.{◌++◌, sym, ap, ◌∙◌, append_assoc}
use Rattle.mk_lines.proofs.CommentLemmas.{unescaped-escape, unescaped-without}
use Rattle.mk_lines.proofs.comment.unescape.Goals as goal

pub loop-place-preserved : goal.loop-place-preserved
loop-place-preserved c =
    let l = c.loop-place in
    let place = c.in-Some.place in
    let unit = c.split_at-in-Some.ensures in
    let escape = c.split_at.ensures in
    rw (c.in_ok-extend_from_slice-2.ensures.items, c.in_ok-extend_from_slice.ensures.items, c.plain.ensures)
    (rw (unit.front, unit.back, c.unit_len.ensures.len, escape.front, escape.back)
    (simp append_assoc
    (ap (λ more. l.text.items ++ more)
    (sym (unescaped-escape l.rest.now place c.in-Some.ensures))
    ∙ l.invariant)))

pub returns : goal.returns
returns c =
    let l = c.loop-place in
    rw c.in_ok-extend_from_slice-3.ensures.items
    (ap (λ more. l.text.items ++ more) (sym (unescaped-without l.rest.now c.in_default.ensures))
    ∙ l.invariant)
