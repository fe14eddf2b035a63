use Rattle.std.proofs.Common.{◌≡◌, ◌≤◌, ◌++◌, sym, ap, ◌∙◌, Some, length, map}
use Rattle.std.proofs.lemmas.List.{append-nil, drop_all}
use Rattle.mk_for.specs.Turns.{line_in, words_of, body_of, turns}
use Rattle.mk_for.proofs.TurnLemmas.{slice_get-made}
use Rattle.mk_for.proofs.unrolling.turn.Goals as goal

pub returns-clause-unrolled : goal.returns-clause-unrolled
returns-clause-unrolled c =
    let body = c.args.body.now in
    let names = c.args.names.now in
    let words = c.args.words.now in
    let l = c.loop-line in
    let over : length body ≤ l.line-index
    = rw c.as_slice-line-items.ensures.value at c.loop-line-test.false in
    let turned = line_in names (words_of (length names) words c.args.k) in
    let all : l.lines ≡ body_of body names words c.args.k
    = sym (append-nil l.lines)
    ∙ ap (λ rest. l.lines ++ map turned rest) (sym (drop_all l.line-index body over))
    ∙ l.invariant in
    slice_get-made (body_of body names words) (turns names words) c.args.k c.requires.below
    ∙ ap Some (sym all)
