use Rattle.std.proofs.Common.{◌≡◌, [], ◌∷◌, ◌++◌, refl, sym, ap, ◌∙◌}
use Rattle.mk_bytes.specs.Bytes.{space}
use Rattle.mk_lines.specs.Lines.{physical_lines, without_last, line_groups}
use Rattle.mk_lines.proofs.ReadLemmas.{reading, reading-begins, reading-continues, reading-ends}
use Rattle.mk_lines.proofs.ReadLemmas.{reading-stops}
use Rattle.mk_lines.proofs.line.join.Goals as goal

pub loop-text-init : goal.loop-text-init
loop-text-init c =
    let rest = physical_lines c.args.lines.now.rest.now in
    rw c.new-text.ensures.items (sym (reading-begins c.args.lines.now.done c.args.first.now rest))

pub loop-text-preserved : goal.loop-text-preserved
loop-text-preserved c =
    let number = c.args.lines.now.done in
    let l = c.loop-text in
    let continues = sym c.is_continued.ensures ∙ c.loop-text-test.true in
    let text : c.extend_from_slice-in-loop-text.new.self.items
    ≡ l.text.items ++ without_last l.piece.now ++ space ∷ []
    = c.in_ok-extend_from_slice-2.ensures.items
    ∙ ap (λ kept. kept ++ space ∷ []) c.in_ok-extend_from_slice.ensures.items in
    rw (text, c.without_blanks_before-piece.ensures.value, c.in-Some.ensures.done)
    (sym (reading-continues number l.text.items l.piece.now c.in-Some.next.now l.lines.done
    (physical_lines c.take_line.new.self.rest.now) continues)
    ∙ ap (λ rest. reading number l.text.items l.piece.now l.lines.done rest) (sym c.in-Some.ensures.first)
    ∙ l.invariant)

pub returns-in_default : goal.returns-in_default
unfolding line_groups
returns-in_default c =
    let number = c.args.lines.now.done in
    let l = c.loop-text in
    let continues = sym c.is_continued.ensures ∙ c.loop-text-test.true in
    sym l.invariant
    ∙ rw (c.in_default.ensures.over, c.in_default.ensures.none, c.in_ok-extend_from_slice.ensures.items)
    (reading-ends number l.text.items l.piece.now l.lines.done continues)

pub returns : goal.returns
returns c =
    let number = c.args.lines.now.done in
    let l = c.loop-text in
    let stops = sym c.is_continued.ensures ∙ c.loop-text-test.false in
    sym l.invariant
    ∙ reading-stops number l.text.items l.piece.now l.lines.done (physical_lines l.lines.rest.now) stops
    ∙ rw c.in_ok-extend_from_slice-3.ensures.items refl
