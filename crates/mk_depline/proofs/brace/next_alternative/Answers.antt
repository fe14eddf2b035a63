use Rattle.std.proofs.Common.{sym, ◌∙◌, drop}
use Rattle.mk_depline.proofs.NumberLemmas.{next-none, next-past, next-some}
use Rattle.mk_depline.proofs.brace.next_alternative.Goals as goal

pub returns-in_err-comma-clause-value : goal.returns-in_err-comma-clause-value
returns-in_err-comma-clause-value c =
    let text = drop c.args.at c.args.word.now in
    let closes = sym c.close_at.ensures.value ∙ c.in_ok-end.was in
    let none = sym c.comma_at.ensures.value ∙ c.in_err-comma.was in
    rw (c.from_residual-in_err-comma.ensures, closes) (sym (next-none text c.in_ok-end.end none))

pub returns-then-comma-end-clause-value : goal.returns-then-comma-end-clause-value
returns-then-comma-end-clause-value c =
    let text = drop c.args.at c.args.word.now in
    let closes = sym c.close_at.ensures.value ∙ c.in_ok-end.was in
    let some = sym c.comma_at.ensures.value ∙ c.in_ok-comma.was in
    rw closes (sym (next-some text c.in_ok-end.end c.in_ok-comma.comma some c.if-comma-end.true))

pub returns-else-comma-end-clause-value : goal.returns-else-comma-end-clause-value
returns-else-comma-end-clause-value c =
    let text = drop c.args.at c.args.word.now in
    let closes = sym c.close_at.ensures.value ∙ c.in_ok-end.was in
    let some = sym c.comma_at.ensures.value ∙ c.in_ok-comma.was in
    rw closes (sym (next-past text c.in_ok-end.end c.in_ok-comma.comma some c.if-comma-end.false))
