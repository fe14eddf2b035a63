use Rattle.std.proofs.Common.{◌≡◌, None, slice_get, sym, ap, ◌∙◌}
use Rattle.mk_blocks.proofs.BlockLemmas.{checked-end, checked-on, checked-fault}
use Rattle.mk_blocks.proofs.nesting.block_fault.Goals as goal

pub returns-in_default : goal.returns-in_default
returns-in_default g c =
    let none : None ≡ slice_get c.lines.cursor 0 = sym c.in_default.is
    ∙ c.in_ok-line.ensures.first in
    sym c.lines.invariant
    ∙ checked-end g.L.Language.ties.kind c.lines.cursor c.lines.blocks none
    ∙ c.unclosed.ensures

pub returns-in-Some-2 : goal.returns-in-Some-2
returns-in-Some-2 g c =
    let kind = g.L.Language.ties.kind in
    let l = c.in-Some.line in
    sym c.lines.invariant
    ∙ checked-fault kind c.lines.blocks c.take_line.new.blocks l c.kind-kind.result
    c.first-number.result _
    c.lines.cursor c.in-Some-2.fault (sym c.in-Some.is ∙ c.in_ok-line.ensures.first)
    (c.kind-kind.ensures ∙ ap kind c.bytes.ensures) c.first-number.ensures
    c.in_ok-fault.ensures c.in-Some-2.is

pub lines-preserved : goal.lines-preserved
lines-preserved g c =
    let kind = g.L.Language.ties.kind in
    let on = checked-on kind c.lines.blocks c.take_line.new.blocks c.in-Some.line c.kind-kind.result
    c.first-number.result _ c.lines.cursor (sym c.in-Some.is ∙ c.in_ok-line.ensures.first)
    (c.kind-kind.ensures ∙ ap kind c.bytes.ensures) c.first-number.ensures c.in_ok-fault.ensures
    c.in_default-2.is in
    rw (c.in_ok-line.ensures.rest, on) c.lines.invariant
