use Rattle.std.proofs.Common.{◌≡◌, ◌+◌, ◌≤◌, length, Ok, Err, sym, ap, ◌∙◌, arith, length-drop}
use Rattle.std.proofs.lemmas.Bool.{or_parts}
use Rattle.std.proofs.lemmas.Result.{err_from_is_err_and}
use Rattle.mk_lines.specs.Lines.{physical_lines, without_indent, line_groups}
use Rattle.mk_lines.specs.Faults.{zero_checked}
use Rattle.mk_lines.proofs.GroupLemmas.{is_continued-some}
use Rattle.mk_lines.proofs.CheckLemmas as check
use Rattle.mk_lines.proofs.fault.check_line.Goals as goal

pub returns-in_err-check_zero-clause-fault : goal.returns-in_err-check_zero-clause-fault
returns-in_err-check_zero-clause-fault c =
    let lines = c.args.lines.now in
    let zero = sym c.check_zero.ensures ∙ c.in_err-check_zero.was in
    let same = err_from_is_err_and c.from_residual.result c.from_residual.ensures.1 in
    rw (same.1, same.2)
    (check.checking-first_zero lines.done c.args.first.now (physical_lines lines.rest.now)
    c.in_err-check_zero.field-0.0 zero)

pub loop-piece-init : goal.loop-piece-init
loop-piece-init c =
    let lines = c.args.lines.now in
    let clean = sym c.check_zero.ensures ∙ c.in_ok-check_zero.was in
    record {
      same = sym (check.checking-begins lines.done c.args.first.now
          (physical_lines lines.rest.now) clean);
      room = omega arith;
      shorter = omega arith;
      zeros = λ none. (or_parts _ _ (c.requires.zeros none)).1;
    }

pub returns-in_default-clause-fault : goal.returns-in_default-clause-fault
unfolding line_groups
returns-in_default-clause-fault c =
    let number = c.args.lines.now.done in
    let l = c.loop-piece in
    let piece = l.piece.now in
    let continues = sym c.is_continued.ensures ∙ c.loop-piece-test.true in
    let none = c.in_default.ensures.none in
    rw (c.check_len.ensures, c.in_default.ensures.over, none)
    (sym l.invariant.same
    ∙ ap (λ rest. check.checking number l.len piece l.lines.done rest) none
    ∙ check.checking-ends number l.len piece l.lines.done continues)

pub returns-in_err-check_zero-2-clause-fault : goal.returns-in_err-check_zero-2-clause-fault
returns-in_err-check_zero-2-clause-fault c =
    let number = c.args.lines.now.done in
    let l = c.loop-piece in
    let piece = l.piece.now in
    let next = c.in-Some.next.now in
    let fault = c.in_err-check_zero-2.field-0.0 in
    let continues = sym c.is_continued.ensures ∙ c.loop-piece-test.true in
    let zero : zero_checked (l.lines.done + 1) next ≡ Err fault
    = rw (← c.in-Some.ensures.done)
    (sym c.check_zero-in-loop-piece.ensures ∙ c.in_err-check_zero-2.was) in
    let result = c.from_residual-in_err-check_zero-2 in
    let same = err_from_is_err_and result.result result.ensures.1 in
    rw (same.1, same.2)
    (sym l.invariant.same
    ∙ ap (λ rest. check.checking number l.len piece l.lines.done rest) c.in-Some.ensures.first
    ∙ check.checking-next_zero number l.len piece next l.lines.done
    (physical_lines c.take_line.new.self.rest.now) fault continues zero)

pub loop-piece-preserved : goal.loop-piece-preserved
loop-piece-preserved c =
    let number = c.args.lines.now.done in
    let l = c.loop-piece in
    let piece = l.piece.now in
    let next = c.in-Some.next.now in
    let rest = physical_lines c.take_line.new.self.rest.now in
    let continues = sym c.is_continued.ensures ∙ c.loop-piece-test.true in
    let clean : zero_checked (l.lines.done + 1) next ≡ Ok tt
    = rw (← c.in-Some.ensures.done)
    (sym c.check_zero-in-loop-piece.ensures ∙ c.in_ok-check_zero-2.was) in
    let some = is_continued-some piece continues in
    let no_longer : length (without_indent next) ≤ length next = rw length-drop (omega arith) in
    record {
      same = rw (c.without_blanks_before-piece.ensures.value, c.in-Some.ensures.done)
          (sym (check.checking-continues number l.len piece next l.lines.done rest continues clean)
          ∙ ap (λ lines. check.checking number l.len piece l.lines.done lines)
          (sym c.in-Some.ensures.first)
          ∙ l.invariant.same);
      room = rw c.without_blanks_before-piece.ensures.value (omega (arith, c.in-Some.ensures.room));
      shorter = omega (arith, c.in-Some.ensures.shorter);
      zeros = λ none. (or_parts _ _ (rw c.in-Some.ensures.first at l.invariant.zeros none)).1;
    }

pub returns-clause-fault : goal.returns-clause-fault
returns-clause-fault c =
    let l = c.loop-piece in
    let stops = sym c.is_continued.ensures ∙ c.loop-piece-test.false in
    rw c.check_len-2.ensures
    (sym l.invariant.same
    ∙ check.checking-stops c.args.lines.now.done l.len l.piece.now l.lines.done
    (physical_lines l.lines.rest.now) stops)
