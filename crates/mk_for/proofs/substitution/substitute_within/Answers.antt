use Rattle.std.proofs.Common.{◌≡◌, ◌+◌, ◌++◌, sym, ap, ◌∙◌, append_assoc, drop, take}
use Rattle.std.proofs.lemmas.Result.{err_from_is_err_and}
use Rattle.mk_for.specs.Substitution.{piece, replaced}
use Rattle.mk_for.proofs.LimitLemmas.{Refuses-agrees, Refuses-whole, within-short}
use Rattle.mk_for.proofs.SubstitutionLemmas.{replaced-at, replaced-without}
use Rattle.mk_for.proofs.substitution.substitute_within.Goals as goal

pub loop-place-preserved : goal.loop-place-preserved
loop-place-preserved c =
    let l = c.loop-place in
    let names = c.args.names.now in
    let words = c.args.words.now in
    let at = replaced-at names words l.rest.now c.in-Some.place (sym c.in-Some.ensures) in (
      rw (c.without_first-rest.ensures, c.in_ok-read.ensures.written, c.in_ok-read.ensures.read)
          (rw (c.without_first-behind.ensures, c.in_ok-push_within.ensures.written)
          (simp append_assoc (ap (λ more. l.text ++ more) (sym at) ∙ l.invariant.0))),
      c.in_ok-read.ensures.within,
    )

-- the line is already too long in front of a `$`
pub returns-in_err-push_within : goal.returns-in_err-push_within
returns-in_err-push_within c =
    let l = c.loop-place in
    let names = c.args.names.now in
    let words = c.args.words.now in
    let place = c.in-Some.place in
    let at = replaced-at names words l.rest.now place (sym c.in-Some.ensures) in
    let behind = drop (place + 1) l.rest.now in
    let p = piece names words behind in
    let is = err_from_is_err_and c.from_residual.result c.from_residual.ensures.1 in
    let whole : (l.text ++ take place l.rest.now) ++ (p.1 ++ replaced names words (drop p.0 behind))
    ≡ replaced names words c.args.line.now
    = simp append_assoc (ap (λ more. l.text ++ more) (sym at) ∙ l.invariant.0) in
    rw (is.1, is.2) (Refuses-whole c.in_err-push_within.field-0.0 c.args.limit
    (l.text ++ take place l.rest.now) (p.1 ++ replaced names words (drop p.0 behind))
    (replaced names words c.args.line.now) whole c.in_err-push_within.ensures.err)

-- or with what stands for it
pub returns-in_err-read : goal.returns-in_err-read
returns-in_err-read c =
    let l = c.loop-place in
    let names = c.args.names.now in
    let words = c.args.words.now in
    let place = c.in-Some.place in
    let at = replaced-at names words l.rest.now place (sym c.in-Some.ensures) in
    let behind = drop (place + 1) l.rest.now in
    let p = piece names words behind in
    let is = err_from_is_err_and c.from_residual-in_err-read.result
    c.from_residual-in_err-read.ensures.1 in
    let whole : ((l.text ++ take place l.rest.now) ++ p.1) ++ replaced names words (drop p.0 behind)
    ≡ replaced names words c.args.line.now
    = simp append_assoc (ap (λ more. l.text ++ more) (sym at) ∙ l.invariant.0) in
    rw (is.1, is.2) (Refuses-whole c.in_err-read.field-0.0 c.args.limit
    ((l.text ++ take place l.rest.now) ++ p.1) (replaced names words (drop p.0 behind))
    (replaced names words c.args.line.now) whole
    (rw (c.without_first-behind.ensures, c.in_ok-push_within.ensures.written)
    at c.in_err-read.ensures.err))

-- or with its end
pub returns-in_err-push_within-2 : goal.returns-in_err-push_within-2
returns-in_err-push_within-2 c =
    let l = c.loop-place in
    let is = err_from_is_err_and c.from_residual-in_err-push_within-2.result
    c.from_residual-in_err-push_within-2.ensures.1 in
    let whole : l.text ++ l.rest.now ≡ replaced c.args.names.now c.args.words.now c.args.line.now
    = ap (λ more. l.text ++ more) (sym (replaced-without c.args.names.now c.args.words.now l.rest.now
    (sym c.in_default.ensures))) ∙ l.invariant.0 in
    rw (is.1, is.2) (rw whole at (Refuses-agrees c.in_err-push_within-2.field-0.0 c.args.limit
    (l.text ++ l.rest.now) c.in_err-push_within-2.ensures.err))

pub returns : goal.returns
returns c =
    let l = c.loop-place in
    let names = c.args.names.now in
    let words = c.args.words.now in
    let whole : l.text ++ l.rest.now ≡ replaced names words c.args.line.now
    = ap (λ more. l.text ++ more) (sym (replaced-without names words l.rest.now
    (sym c.in_default.ensures))) ∙ l.invariant.0 in
    rw (← whole, ← c.in_ok-push_within-2.ensures.written)
    (within-short c.args.limit c.push_within-2.new.out c.in_ok-push_within-2.ensures.within)
