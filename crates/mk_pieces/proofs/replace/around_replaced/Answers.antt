use Rattle.std.proofs.Common.{◌≡◌, ◌-◌, length, ◌∙◌, sym, arith}
use Rattle.std.proofs.lemmas.Result.{err_from_is_err_and}
use Rattle.mk_pieces.proofs.LimitLemmas.{pushed_if-fault, pushed_if-done}
use Rattle.mk_pieces.proofs.ReplaceLemmas.{around_replaced-some}
use Rattle.mk_pieces.proofs.replace.around_replaced.Goals as goal

pub returns-in_err-push_with_middle : goal.returns-in_err-push_with_middle
returns-in_err-push_with_middle c =
    let before = c.args.before.now in
    let after = c.args.after.now in
    let word = c.args.word.now in
    let fault = c.in_err-push_with_middle.field-0.0 in
    let p = err_from_is_err_and c.from_residual.result c.from_residual.ensures.1 in
    let is = around_replaced-some before after c.args.to.now word c.in-Some.ensures.0
    (sym c.starts_with.ensures.value ∙ c.if-not-starts_with.false)
    (sym c.ends_with.ensures.value ∙ c.if-not-ends_with.false) in
    let len : c.in-Some.len ≡ length word - length before - length after =
    omega (arith, c.in-Some.ensures.1) in
    rw (p.1, p.2)
    (pushed_if-fault c.args.out.now.items _ _ fault is
    (rw (c.behind.ensures, len) at c.in_err-push_with_middle.ensures))

pub returns : goal.returns
returns c =
    let before = c.args.before.now in
    let after = c.args.after.now in
    let word = c.args.word.now in
    let is = around_replaced-some before after c.args.to.now word c.in-Some.ensures.0
    (sym c.starts_with.ensures.value ∙ c.if-not-starts_with.false)
    (sym c.ends_with.ensures.value ∙ c.if-not-ends_with.false) in
    let len : c.in-Some.len ≡ length word - length before - length after =
    omega (arith, c.in-Some.ensures.1) in
    pushed_if-done c.args.out.now.items _ _ _ is
    (rw (c.behind.ensures, len) at c.in_ok-push_with_middle.ensures)
