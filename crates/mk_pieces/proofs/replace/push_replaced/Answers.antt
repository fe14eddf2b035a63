use Rattle.std.proofs.Common.{◌+◌, ◌++◌, length, take, drop, sym, ap, ◌∙◌}
use Rattle.std.proofs.lemmas.Result.{err_from_is_err_and}
use Rattle.mk_pieces.specs.Limits.{pushed}
use Rattle.mk_pieces.specs.Substitution.{replaced}
use Rattle.mk_pieces.proofs.LimitLemmas.{pushed-behind, pushed-fault}
use Rattle.mk_pieces.proofs.ReplaceLemmas.{replaced-more, replaced-none}
use Rattle.mk_pieces.proofs.replace.push_replaced.Goals as goal

pub returns-in_err-push_both : goal.returns-in_err-push_both
returns-in_err-push_both c =
    let l = c.places in
    let rest = l.rest.now in
    let at = c.in-Some.at in
    let more = drop (at + length c.args.from.now) rest in
    let split = replaced-more c.args.from.now c.args.to.now rest at c.requires.some
    (sym c.in-Some.ensures.value) in
    let p = err_from_is_err_and c.from_residual.result c.from_residual.ensures.1 in
    rw (p.1, p.2, ← l.invariant, split)
    (pushed-fault l.out.items (take at rest ++ c.args.to.now)
    (replaced (length more) c.args.from.now c.args.to.now more) c.in_err-push_both.field-0.0
    c.in_err-push_both.ensures)

pub places-preserved : goal.places-preserved
places-preserved c =
    let l = c.places in
    let rest = l.rest.now in
    let at = c.in-Some.at in
    let more = drop (at + length c.args.from.now) rest in
    let split = replaced-more c.args.from.now c.args.to.now rest at c.requires.some
    (sym c.in-Some.ensures.value) in
    rw c.behind-rest.ensures
    (pushed-behind l.out.items (take at rest ++ c.args.to.now)
    (replaced (length more) c.args.from.now c.args.to.now more) c.push_both.new.out.items
    c.in_ok-push_both.ensures
    ∙ ap (pushed l.out.items) (sym split)
    ∙ l.invariant)

pub returns : goal.returns
returns c =
    let l = c.places in
    let none = replaced-none (length l.rest.now) c.args.from.now c.args.to.now l.rest.now
    (sym c.first_place.ensures.value ∙ c.in_default.is)
    in
    rw (← l.invariant, none) c.push.ensures
