use Rattle.std.proofs.Common.{◌≡◌, ◌++◌, [], drop, Ok, sym, ap, ◌∙◌, inl, inr, refl, arith}
use Rattle.std.proofs.lemmas.List.{append_assoc, append-nil, drop_all, drop_more, length-map}
use Rattle.std.proofs.lemmas.Result.{err_from_is_err_and}
use Rattle.mk_pieces.specs.Letters.{in_case, to_case}
use Rattle.mk_pieces.proofs.LimitLemmas.{pushed-fits, pushed-long}
use Rattle.mk_pieces.proofs.letters.push_recased.Goals as goal

pub loop-byte-preserved : goal.loop-byte-preserved
loop-byte-preserved c =
    let l = c.loop-byte in
    rw (c.in_ok-push.ensures.items, c.to_case.ensures, append_assoc)
    (ap (λ left. l.out.items ++ in_case c.args.small left)
    (sym (drop_more c.args.text.now l.byte-index 0 c.loop-byte-test.true))
    ∙ l.invariant)

pub returns-in_err-push : goal.returns-in_err-push
returns-in_err-push c =
    let p = err_from_is_err_and c.from_residual.result c.from_residual.ensures.1 in
    rw (p.1, p.2) (inl refl)

pub returns-then-len-text-gt-MAX_TEXT : goal.returns-then-len-text-gt-MAX_TEXT
returns-then-len-text-gt-MAX_TEXT c =
    let text = c.args.text.now in
    let same = length-map text (to_case c.args.small) in
    inr (pushed-long _ _ (omega (arith, c.if-len-text-gt-MAX_TEXT.true, c.len.ensures, c.args.out.now.ok, same)))

pub returns : goal.returns
returns c =
    let text = c.args.text.now in
    let l = c.loop-byte in
    let same = length-map text (to_case c.args.small) in
    let none : drop l.byte-index text ≡ [] = drop_all _ text c.loop-byte-test.false in
    let left = sym (append-nil l.out.items)
    ∙ ap (λ rest. l.out.items ++ in_case c.args.small rest) (sym none)
    ∙ l.invariant in
    pushed-fits _ _ (omega (arith, c.if-len-text-gt-MAX_TEXT.false, c.len.ensures, c.args.out.now.ok, same)) ∙ ap Ok (sym left)
