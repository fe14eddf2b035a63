use Rattle.std.proofs.Common.{◌≡◌, ◌+◌, ◌++◌, length, take, drop, Ok, sym, ◌∙◌}
use Rattle.std.proofs.lemmas.Result.{err_from_is_err_and}
use Rattle.mk_bytes.specs.Agrees.{AgreesErr}
use Rattle.mk_pieces.specs.Limits.{pushed}
use Rattle.mk_pieces.specs.Substitution.{replaced}
use Rattle.mk_pieces.specs.declared.fault.ModFault.TheVariants.{NoMemory}
use Rattle.mk_pieces.proofs.LimitLemmas.{pushed-behind, pushed-fault, pushed_if-fault, pushed_if-done}
use Rattle.mk_pieces.proofs.ReplaceLemmas.{replaced_within-all, replaced_within-first, not_empty, some_bytes}
use Rattle.mk_pieces.proofs.replace.replaced_within.Goals as goal

pub returns-in_err-push_both : goal.returns-in_err-push_both
returns-in_err-push_both c =
    let from = c.args.from.now in
    let to = c.args.to.now in
    let word = c.args.word.now in
    let at = c.in-Some.at in
    let more = drop (at + length from) word in
    let other = sym c.if-is_empty.ensures in
    let is = replaced_within-all from to word c.args.all at c.if-all.true (not_empty from other)
    (some_bytes from other) (sym c.in-Some.ensures.value) in
    let p = err_from_is_err_and c.from_residual.result c.from_residual.ensures.1 in
    rw (p.1, p.2)
    (pushed_if-fault c.args.out.now.items _ _ c.in_err-push_both.field-0.0 is
    (pushed-fault c.args.out.now.items (take at word ++ to) (replaced (length more) from to more)
    c.in_err-push_both.field-0.0 c.in_err-push_both.ensures))

pub returns-in_err-push_replaced : goal.returns-in_err-push_replaced
returns-in_err-push_replaced c =
    let from = c.args.from.now in
    let to = c.args.to.now in
    let word = c.args.word.now in
    let at = c.in-Some.at in
    let more = drop (at + length from) word in
    let both = c.push_both.new.out.items in
    let fault = c.in_err-push_replaced.field-0.0 in
    let other = sym c.if-is_empty.ensures in
    let is = replaced_within-all from to word c.args.all at c.if-all.true (not_empty from other)
    (some_bytes from other) (sym c.in-Some.ensures.value) in
    let behind = pushed-behind c.args.out.now.items (take at word ++ to)
    (replaced (length more) from to more) both c.in_ok-push_both.ensures in
    let refused : AgreesErr NoMemory fault (pushed both (replaced (length more) from to more))
    = rw c.behind-rest.ensures at c.in_err-push_replaced.ensures in
    let r = c.from_residual-in_err-push_replaced in
    let p = err_from_is_err_and r.result r.ensures.1 in
    rw (p.1, p.2)
    (pushed_if-fault c.args.out.now.items _ _ fault is (rw behind at refused))

pub returns-in_ok-push_replaced : goal.returns-in_ok-push_replaced
returns-in_ok-push_replaced c =
    let from = c.args.from.now in
    let to = c.args.to.now in
    let word = c.args.word.now in
    let at = c.in-Some.at in
    let more = drop (at + length from) word in
    let both = c.push_both.new.out.items in
    let all = c.push_replaced.new.out.items in
    let other = sym c.if-is_empty.ensures in
    let is = replaced_within-all from to word c.args.all at c.if-all.true (not_empty from other)
    (some_bytes from other) (sym c.in-Some.ensures.value) in
    let behind = pushed-behind c.args.out.now.items (take at word ++ to)
    (replaced (length more) from to more) both c.in_ok-push_both.ensures in
    let done : pushed both (replaced (length more) from to more) ≡ Ok all
    = rw c.behind-rest.ensures at c.in_ok-push_replaced.ensures in
    pushed_if-done c.args.out.now.items _ all _ is (sym behind ∙ done)

pub returns-in_err-push_three : goal.returns-in_err-push_three
returns-in_err-push_three c =
    let from = c.args.from.now in
    let to = c.args.to.now in
    let word = c.args.word.now in
    let at = c.in-Some.at in
    let fault = c.in_err-push_three.field-0.0 in
    let other = sym c.if-is_empty.ensures in
    let is = replaced_within-first from to word c.args.all at c.if-all.false (not_empty from other)
    (sym c.in-Some.ensures.value) in
    let refused : AgreesErr NoMemory fault
    (pushed c.args.out.now.items (take at word ++ to ++ drop (at + length from) word))
    = rw c.behind-rest.ensures at c.in_err-push_three.ensures in
    let r = c.from_residual-in_err-push_three in
    let p = err_from_is_err_and r.result r.ensures.1 in
    rw (p.1, p.2) (pushed_if-fault c.args.out.now.items _ _ fault is refused)

pub returns-in_ok-push_three : goal.returns-in_ok-push_three
returns-in_ok-push_three c =
    let from = c.args.from.now in
    let to = c.args.to.now in
    let word = c.args.word.now in
    let at = c.in-Some.at in
    let all = c.push_three.new.out.items in
    let other = sym c.if-is_empty.ensures in
    let is = replaced_within-first from to word c.args.all at c.if-all.false (not_empty from other)
    (sym c.in-Some.ensures.value) in
    let done : pushed c.args.out.now.items (take at word ++ to ++ drop (at + length from) word)
    ≡ Ok all
    = rw c.behind-rest.ensures at c.in_ok-push_three.ensures in
    pushed_if-done c.args.out.now.items _ all _ is done
